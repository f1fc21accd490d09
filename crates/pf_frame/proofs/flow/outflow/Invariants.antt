use Rattle.std.proofs.Common.{◌≡◌, ◌*◌, ◌^◌, take}
use Rattle.std.specs.Prelude.{◌≤ℤ◌, ◌-ℤ◌, pos}
use Rattle.pf_model.specs.Digraph.{arcs_out}
use Rattle.pf_frame.proofs.ArcSums.{total}
use Rattle.pf_frame.proofs.flow.outflow.Given as goal

-- the sum over the arcs so far, of a size of at most what so many arcs can carry
abbrev pub invariant-outs : goal.invariant-outs
invariant-outs l = record {
  items : l.i-items ≡ arcs_out l.frame l.v;
  sum_is : l.sum ≡ total l.flow (take l.i-index l.i-items);
  low : (pos 0 -ℤ pos (l.i-index * 2 ^ 104)) ≤ℤ l.sum;
  high : l.sum ≤ℤ pos (l.i-index * 2 ^ 104);
}
