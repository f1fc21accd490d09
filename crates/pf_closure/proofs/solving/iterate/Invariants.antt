use Rattle.std.proofs.Common.{◌≡◌, ◌^◌}
use Rattle.std.specs.Prelude.{◌≤ℤ◌, pos}
use Rattle.pf_model.specs.Answer.{IsFractionShape}
use Rattle.pf_model.specs.Cut.{size}
use Rattle.pf_model.specs.Curve.{IsPoint}
use Rattle.pf_closure.specs.Reduction.{closure_net}
use Rattle.pf_closure.specs.Newton.{IsNewton}
use Rattle.pf_closure.proofs.solving.iterate.Given as goal

abbrev pub invariant-steps : goal.invariant-steps
invariant-steps l = record {
  same : l.finder ≡ closure_net l.items;
  newton : IsNewton l.items l.ratio l.side;
  point : IsPoint (closure_net l.items) l.ratio l.next l.flow;
  small : l.ratio.q ≤ℤ pos (2 ^ 44);
  shape : IsFractionShape l.ratio;
}

abbrev pub decreases-steps : goal.decreases-steps
decreases-steps l = size l.side
