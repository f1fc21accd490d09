-- An answer, and what certifies it: a number on each need, and the items that are dropped by these numbers.
use Rattle.std.specs.Prelude.{◌≡◌, ℕ, ◌<◌, ◌^◌, ℤ, ◌-ℤ◌, ◌*ℤ◌, ◌≤ℤ◌, ◌<ℤ◌, pos, Bool, true, not, List, length}
use Rattle.pf_model.specs.Fraction.{Fraction, IsParameter}
use Rattle.pf_model.specs.Cut.{has, at_arc, IsContained}
use Rattle.pf_model.specs.Flow.{sum_out, sum_in}
use Rattle.pf_ratio.specs.Answer.{Parts}
use Rattle.pf_closure.specs.Problem.{ClosureProblem, IsNonempty, needing_at, needed_at}

-- a ratio p/q, the chosen items, and a number on each need in units of 1/q
pub record RatioAnswer : Type 0 where
  pub ratio : Fraction
  pub chosen : List Bool
  pub routing : List ℤ

-- the answer of these parts, as its text has them one after the other
abbrev pub of_parts : Parts → RatioAnswer
of_parts parts = record { ratio = parts.0; chosen = parts.1.0; routing = parts.1.1 }

-- what the needs that point to an item bring to it, less what those that leave it take
abbrev pub net_inflow : ClosureProblem → List ℤ → ℕ → ℤ
net_inflow p routing i = sum_in p.needs routing i -ℤ sum_out p.needs routing i

-- the cost of an item less the ratio times its weight, in units of 1/q
abbrev pub reduced_cost : ClosureProblem → Fraction → ℕ → ℤ
reduced_cost p x i = (x.q *ℤ at_arc p.costs i) -ℤ (x.p *ℤ at_arc p.weights i)

-- the rules that the dropped items keep
pub record KeepsRules (p : ClosureProblem) (x : Fraction) (routing : List ℤ) (dropped : List Bool) : Type 0 where
  pub strict : (i : ℕ) → i < length p.costs → net_inflow p routing i <ℤ reduced_cost p x i → has dropped i ≡ true
  pub needing : (k : ℕ) → k < length p.needs → has dropped (needed_at p k) ≡ true → has dropped (needing_at p k) ≡ true
  pub carrying : (k : ℕ) → k < length p.needs → has dropped (needing_at p k) ≡ true → pos 0 <ℤ at_arc routing k →
      has dropped (needed_at p k) ≡ true

-- the least set that keeps them
pub record IsDropped (p : ClosureProblem) (x : Fraction) (routing : List ℤ) (dropped : List Bool) : Type 0 where
  pub rules : KeepsRules p x routing dropped
  pub least : (other : List Bool) → KeepsRules p x routing other → IsContained dropped other

-- one number per need, from 0 to 2 ^ 100
pub record IsRouting (p : ClosureProblem) (routing : List ℤ) : Type 0 where
  pub full : length routing ≡ length p.needs
  pub low : (k : ℕ) → k < length p.needs → pos 0 ≤ℤ at_arc routing k
  pub high : (k : ℕ) → k < length p.needs → at_arc routing k ≤ℤ pos (2 ^ 100)

-- at no item is the net inflow above the reduced cost, and the chosen items are those not dropped, of which there is one
pub record CertifiesRatio (p : ClosureProblem) (x : Fraction) (chosen : List Bool) (routing : List ℤ) : Type 0 where
  pub parameter : IsParameter x
  pub routing_is : IsRouting p routing
  pub within : (i : ℕ) → i < length p.costs → net_inflow p routing i ≤ℤ reduced_cost p x i
  pub dropped : List Bool
  pub dropped_is : IsDropped p x routing dropped
  pub full : length chosen ≡ length p.costs
  pub rest : (i : ℕ) → i < length p.costs → has chosen i ≡ not (has dropped i)
  pub some : IsNonempty chosen
