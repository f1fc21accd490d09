-- The search for the dropped items.
use Rattle.std.specs.Prelude.{◌≡◌, ℕ, ◌<◌, ◌^◌, ℤ, ◌-ℤ◌, ◌≤ℤ◌, ◌<ℤ◌, int_lt, pos, Bool, true, List, length}
use Rattle.pf_model.specs.Fraction.{Fraction}
use Rattle.pf_model.specs.Cut.{has, at_arc}
use Rattle.pf_closure.specs.Problem.{ClosureProblem, needing_at, needed_at}
use Rattle.pf_ratio.specs.declared.link.Link.{Link}
use Rattle.pf_closure.specs.Certificate.{net_inflow, reduced_cost}

-- what each item may still be brought
pub record HasSlacks (p : ClosureProblem) (x : Fraction) (routing slacks : List ℤ) : Type 0 where
  pub each : (i : ℕ) → i < length p.costs → at_arc slacks i ≡ reduced_cost p x i -ℤ net_inflow p routing i

-- the first numbers are from 0 to 2 ^ 100
pub record AreRouted (routing : List ℤ) (count : ℕ) : Type 0 where
  pub low : (k : ℕ) → k < count → pos 0 ≤ℤ at_arc routing k
  pub high : (k : ℕ) → k < count → at_arc routing k ≤ℤ pos (2 ^ 100)

-- need k as a link: the item that needs is dropped with the other one, and that one with it where the need carries something
abbrev pub need_link : ClosureProblem → List ℤ → ℕ → Link
need_link p routing k = record { first = needing_at p k; second = needed_at p k; to_first = true; to_second = int_lt (pos 0) (at_arc routing k) }

-- just these among the first items are marked, and none after
pub record IsStart (slacks : List ℤ) (count : ℕ) (marks : List Bool) : Type 0 where
  pub strict : (i : ℕ) → i < count → pos 0 <ℤ at_arc slacks i → has marks i ≡ true
  pub only : (i : ℕ) → has marks i ≡ true → i < count
  pub above : (i : ℕ) → has marks i ≡ true → pos 0 <ℤ at_arc slacks i
