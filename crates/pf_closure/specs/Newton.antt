-- Newton's iteration: a closure, its ratio, and the smallest least cuts that are still to come.
use Rattle.std.specs.Prelude.{◌≡◌, ℕ, ◌+◌, ◌<◌, ℤ, ◌*ℤ◌, Bool, true, false, not, List, length}
use Rattle.pf_model.specs.Fraction.{Fraction, IsAtMost}
use Rattle.pf_model.specs.Cut.{has, IsSmallestLeast, IsContained}
use Rattle.pf_model.specs.Network.{IsNetworkCut, IsInInterval, network_at}
use Rattle.pf_closure.specs.Problem.{ClosureProblem, IsClosure, IsNonempty, cost_of, weight_of}
use Rattle.pf_closure.specs.Certificate.{IsDropped}
use Rattle.pf_closure.specs.Reduction.{closure_net, items_of}

-- all nodes but the sink
pub record IsWholeSide (p : ClosureProblem) (side : List Bool) : Type 0 where
  pub full : length side ≡ length p.costs + 2
  pub held : (v : ℕ) → v < length p.costs + 1 → has side v ≡ true
  pub sink : has side (length p.costs + 1) ≡ false

-- the side of a closure of this ratio, which holds the smallest least cut at each parameter that is not above it
pub record IsNewton (p : ClosureProblem) (x : Fraction) (side : List Bool) : Type 0 where
  pub cut : IsNetworkCut (closure_net p) side
  pub closure : IsClosure p (items_of p side)
  pub some : IsNonempty (items_of p side)
  pub inside : IsInInterval (closure_net p) x
  pub ratio : x.q *ℤ cost_of p (items_of p side) ≡ x.p *ℤ weight_of p (items_of p side)
  pub holds : (y : Fraction) (other : List Bool) → IsInInterval (closure_net p) y → IsAtMost y x →
      IsSmallestLeast (network_at (closure_net p) y) other → IsContained other side

-- the chosen items are those that are not dropped
pub record IsRest (p : ClosureProblem) (x : Fraction) (routing : List ℤ) (chosen : List Bool) : Type 0 where
  pub dropped : List Bool
  pub dropped_is : IsDropped p x routing dropped
  pub full : length chosen ≡ length p.costs
  pub rest : (i : ℕ) → i < length p.costs → has chosen i ≡ not (has dropped i)
