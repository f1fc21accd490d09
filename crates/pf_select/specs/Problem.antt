-- Product selections: parts with costs, products with gains, which product needs which part, and the best selection of parts at every price.
use Rattle.std.specs.Prelude.{◌≡◌, ◌≢◌, ℕ, suc, ◌<◌, ◌≤◌, ℤ, ◌+ℤ◌, ◌-ℤ◌, ◌*ℤ◌, ◌≤ℤ◌, pos, Bool, true, not, ◌&&◌, ◌||◌, ◌==◌, if◌then◌else◌, List, [], ◌∷◌, length, slice_index_or}
use Rattle.pf_model.specs.Fraction.{Fraction, IsParameter, IsBelow, IsAtMost}
use Rattle.pf_model.specs.Cut.{has, at_arc, IsContained}

-- Parts and products are numbered from 0. A need is the pair of a product and a part that it needs.
pub record SelectionProblem : Type 0 where
  pub costs : List ℤ
  pub gains : List ℤ
  pub needs : List (ℕ × ℕ)

-- the product that needs, and the part that is needed, in need k
abbrev pub product_at : SelectionProblem → ℕ → ℕ
product_at p k = (slice_index_or p.needs k (0, 0)).0

abbrev pub part_at : SelectionProblem → ℕ → ℕ
part_at p k = (slice_index_or p.needs k (0, 0)).1

-- each part costs at least 1, each product gains at least 1, and needs name a product and a part
pub record IsSelectionProblem (p : SelectionProblem) : Type 0 where
  pub costly : (i : ℕ) → i < length p.costs → pos 1 ≤ℤ at_arc p.costs i
  pub gainful : (j : ℕ) → j < length p.gains → pos 1 ≤ℤ at_arc p.gains j
  pub product : (k : ℕ) → k < length p.needs → product_at p k < length p.gains
  pub part : (k : ℕ) → k < length p.needs → part_at p k < length p.costs

-- how many parts, products and needs there may be, and the sizes of their numbers
pub record IsBoundedProblem (p : SelectionProblem) : Type 0 where
  pub problem : IsSelectionProblem p
  pub few_parts : length p.costs ≤ 500
  pub few_products : length p.gains ≤ 5000
  pub few_needs : length p.needs ≤ 10000
  pub cost_high : (i : ℕ) → i < length p.costs → at_arc p.costs i ≤ℤ pos 1000000
  pub gain_high : (j : ℕ) → j < length p.gains → at_arc p.gains j ≤ℤ pos 1000000

-- A selection is a list of truth values, one for each part. A product is gained where all parts that it needs are in the selection.
abbrev pub is_gained : List (ℕ × ℕ) → List Bool → ℕ → Bool
is_gained [] set j = true
is_gained (need ∷ needs) set j = (not (need.0 == j) || has set need.1) && is_gained needs set j

-- the sum of the numbers at the indices that pass a test
abbrev pub sum_of : (ℕ → Bool) → List ℤ → ℤ
sum_of test [] = pos 0
sum_of test (x ∷ numbers) = (if test 0 then x else pos 0) +ℤ sum_of (λ i. test (suc i)) numbers

-- the gains of the products that a selection gains, and the costs of its parts
abbrev pub gain_of : SelectionProblem → List Bool → ℤ
gain_of p set = sum_of (is_gained p.needs set) p.gains

abbrev pub cost_of : SelectionProblem → List Bool → ℤ
cost_of p set = sum_of (has set) p.costs

-- what a selection is worth at the price p/q, in units of 1/q
abbrev pub worth : SelectionProblem → Fraction → List Bool → ℤ
worth p x set = (x.q *ℤ gain_of p set) -ℤ (x.p *ℤ cost_of p set)

-- no selection is worth more at this price
pub record IsBest (p : SelectionProblem) (x : Fraction) (set : List Bool) : Type 0 where
  pub full : length set ≡ length p.costs
  pub most : (other : List Bool) → length other ≡ length p.costs → worth p x other ≤ℤ worth p x set

-- the best selection that contains every best one, and the one that every best one contains
pub record IsGreatestBest (p : SelectionProblem) (x : Fraction) (set : List Bool) : Type 0 where
  pub best : IsBest p x set
  pub greatest : (other : List Bool) → IsBest p x other → IsContained other set

pub record IsSmallestBest (p : SelectionProblem) (x : Fraction) (set : List Bool) : Type 0 where
  pub best : IsBest p x set
  pub smallest : (other : List Bool) → IsBest p x other → IsContained set other

-- price j of prices that are numbered from 1; price 0 is 0
abbrev pub zero_price : Fraction
zero_price = record { p = pos 0; q = pos 1 }

abbrev pub price_at : List Fraction → ℕ → Fraction
price_at prices j = slice_index_or (zero_price ∷ prices) j zero_price

abbrev pub selection_at : List (List Bool) → ℕ → List Bool
selection_at selections j = slice_index_or selections j []

-- contained in the other one, and not the same
pub record IsProperPart (set other : List Bool) : Type 0 where
  pub contained : IsContained set other
  pub different : set ≢ other

-- The best selection at every price: up to each price the selection before it, and after the last price the last one.
pub record IsBestSchedule (p : SelectionProblem) (prices : List Fraction) (selections : List (List Bool)) : Type 0 where
  pub count : length selections ≡ suc (length prices)
  pub parameters : (j : ℕ) → j < length prices → IsParameter (price_at prices (suc j))
  pub rise : (j : ℕ) → j < length prices → IsBelow (price_at prices j) (price_at prices (suc j))
  pub fall : (j : ℕ) → j < length prices → IsProperPart (selection_at selections (suc j)) (selection_at selections j)
  pub before : (j : ℕ) → j < length prices → (x : Fraction) → IsParameter x → IsBelow (price_at prices j) x →
      IsAtMost x (price_at prices (suc j)) → IsGreatestBest p x (selection_at selections j)
  pub behind : (x : Fraction) → IsParameter x → IsBelow (price_at prices (length prices)) x →
      IsGreatestBest p x (selection_at selections (length prices))
  pub free : IsSmallestBest p zero_price (selection_at selections 0)
