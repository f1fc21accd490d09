-- Layers of items that need others: in each the least ratio of cost over weight beside those before it.
use Rattle.std.specs.Prelude.{◌≡◌, ℕ, ◌+◌, ◌<◌, ℤ, ◌*ℤ◌, ◌≤ℤ◌, Bool, List, length}
use Rattle.pf_model.specs.Fraction.{Fraction, IsBelow}
use Rattle.pf_model.specs.Cut.{IsContained, union}
use Rattle.pf_closure.specs.Problem.{ClosureProblem, IsClosure, IsNonempty, cost_of, weight_of}
use Rattle.pf_layers.specs.Layers.{level_at, IsApart, AreLayers}

-- a nonempty set outside the taken items that makes a closure with them
pub record ClosesBeside (p : ClosureProblem) (taken set : List Bool) : Type 0 where
  pub full : length set ≡ length p.costs
  pub some : IsNonempty set
  pub apart : IsApart taken set
  pub closure : IsClosure p (union taken set)

-- it has the ratio p/q
abbrev pub HasRatio : ClosureProblem → Fraction → List Bool → Type 0
HasRatio p x set = x.q *ℤ cost_of p set ≡ x.p *ℤ weight_of p set

-- the least ratio of such a set, with the set of that ratio that contains all others
pub record IsLeastBeside (p : ClosureProblem) (taken : List Bool) (x : Fraction) (set : List Bool) : Type 0 where
  pub closes : ClosesBeside p taken set
  pub ratio : HasRatio p x set
  pub least : (other : List Bool) → ClosesBeside p taken other → (x.p *ℤ weight_of p other) ≤ℤ (x.q *ℤ cost_of p other)
  pub greatest : (other : List Bool) → ClosesBeside p taken other → HasRatio p x other → IsContained other set

-- the levels rise strictly
pub record IsRatioLayers (p : ClosureProblem) (levels : List Fraction) (layers : List ℤ) : Type 0 where
  pub layers_are : AreLayers (length p.costs) (IsLeastBeside p) levels layers
  pub rise : (j : ℕ) → j + 1 < length levels → IsBelow (level_at levels j) (level_at levels (j + 1))
