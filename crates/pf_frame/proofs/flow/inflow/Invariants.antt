use Rattle.std.proofs.Common.{◌≡◌, ◌*◌, ◌^◌, take}
use Rattle.std.specs.Prelude.{◌≤ℤ◌, ◌-ℤ◌, pos}
use Rattle.pf_model.specs.Digraph.{arcs_in}
use Rattle.pf_frame.proofs.ArcSums.{total}
use Rattle.pf_frame.proofs.flow.inflow.Given as goal

-- the sum over the arcs so far, of a size of at most what so many arcs can carry
abbrev pub invariant-ins : goal.invariant-ins
invariant-ins l = record {
  items : l.i-items ≡ arcs_in l.frame l.v;
  sum_is : l.sum ≡ total l.flow (take l.i-index l.i-items);
  low : (pos 0 -ℤ pos (l.i-index * 2 ^ 104)) ≤ℤ l.sum;
  high : l.sum ≤ℤ pos (l.i-index * 2 ^ 104);
}
