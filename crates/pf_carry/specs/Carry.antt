-- A flow carried to another parameter: in the new unit, within the new capacities, and with no node in deficit.
use Rattle.std.specs.Prelude.{◌≡◌, ℕ, ◌<◌, ◌^◌, ℤ, ◌*ℤ◌, ◌≤ℤ◌, pos, int_div, int_le, if◌then◌else◌, List, [], ◌∷◌, length}
use Rattle.pf_model.specs.Cut.{FlowNetwork, at_arc}
use Rattle.pf_model.specs.Flow.{IsPreflow}
use Rattle.pf_model.specs.Digraph.{Digraph}

-- the lesser of two numbers
abbrev pub least_of : ℤ → ℤ → ℤ
least_of x y = if int_le x y then x else y

-- x in units of 1/from, as the greatest number of units of 1/to that is not more, but at most the capacity
abbrev pub carried : ℤ → ℤ → ℤ → ℤ → ℤ
carried from to cap x = least_of cap (int_div (x *ℤ to) from)

-- each number so: floored to the new unit, and cut to its capacity
abbrev pub floored : ℤ → ℤ → List ℤ → List ℤ → List ℤ
floored from to [] flow = []
floored from to (cap ∷ caps) [] = []
floored from to (cap ∷ caps) (x ∷ flow) = carried from to cap x ∷ floored from to caps flow

-- the denominator of a parameter
pub record IsUnit (unit : ℤ) : Type 0 where
  pub low : pos 1 ≤ℤ unit
  pub high : unit ≤ℤ pos (2 ^ 46)

-- one number per arc, from 0 to 2^75 times the unit
pub record IsCarriable (g : Digraph) (unit : ℤ) (flow : List ℤ) : Type 0 where
  pub full : length flow ≡ length g.ends
  pub low : (i : ℕ) → i < length g.ends → pos 0 ≤ℤ at_arc flow i
  pub high : (i : ℕ) → i < length g.ends → at_arc flow i ≤ℤ (pos (2 ^ 75) *ℤ unit)

-- what is left: a preflow, no number above its floored and cut one, and these themselves where they are a preflow
pub record IsCarried (g : FlowNetwork) (wanted after : List ℤ) : Type 0 where
  pub preflow : IsPreflow g after
  pub most : (i : ℕ) → i < length g.ends → at_arc after i ≤ℤ at_arc wanted i
  pub kept : IsPreflow g wanted → after ≡ wanted
