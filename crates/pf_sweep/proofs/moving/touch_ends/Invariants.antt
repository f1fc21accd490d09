use Rattle.std.proofs.Common.{◌≡◌}
use Rattle.pf_model.specs.Digraph.{arcs_out, arcs_in}
use Rattle.pf_net.specs.Limits.{digraph_of}
use Rattle.pf_sweep.specs.Moving.{caps_of, IsMoving}
use Rattle.pf_sweep.proofs.Moved.{StandsBefore, IsPast}
use Rattle.pf_sweep.proofs.moving.touch_ends.Given as goal

abbrev pub invariant-outs : goal.invariant-outs
invariant-outs l = record {
  moving : IsMoving (digraph_of l.net) l.labels l.net.source (caps_of l.net l.at.unit l.at.p) l.fn.caps l.fn.flow l.caps l.flow (StandsBefore l.i-items l.i-index);
  items : l.i-items ≡ arcs_out (digraph_of l.net) l.net.source;
}

abbrev pub invariant-ins : goal.invariant-ins
invariant-ins l = record {
  moving : IsMoving (digraph_of l.net) l.labels l.net.source (caps_of l.net l.at.unit l.at.p) l.fn.caps l.fn.flow l.caps l.flow (IsPast (digraph_of l.net) l.net.source l.i-items l.i-index);
  items : l.i-items ≡ arcs_in (digraph_of l.net) l.net.sink;
}
