-- What certifies a schedule: for each price a charge on each need, and the parts and products that are dropped by these charges.
use Rattle.std.specs.Prelude.{◌≡◌, ℕ, suc, ◌<◌, ℤ, ◌*ℤ◌, ◌≤ℤ◌, ◌<ℤ◌, pos, Bool, true, false, not, ◌==◌, List, [], length, slice_index_or}
use Rattle.pf_model.specs.Fraction.{Fraction, IsParameter, IsBelow}
use Rattle.pf_model.specs.Cut.{has, at_arc, IsContained, sum_where}
use Rattle.pf_select.specs.Problem.{SelectionProblem, product_at, part_at, worth, price_at, selection_at, IsProperPart}

-- prices, a selection up to each and one after the last, and for each price a charge on each need, in units of 1/q of the price
pub record ScheduleAnswer : Type 0 where
  pub prices : List Fraction
  pub selections : List (List Bool)
  pub charges : List (List ℤ)

-- the sum of the charges of the needs of a product, and of those on a part
abbrev pub charged_by : SelectionProblem → List ℤ → ℕ → ℤ
charged_by p charges j = sum_where (λ need. need.0 == j) p.needs charges

abbrev pub charged_on : SelectionProblem → List ℤ → ℕ → ℤ
charged_on p charges i = sum_where (λ need. need.1 == i) p.needs charges

-- a charge for each need, none below 0: those of a product are at most its gain, and those on a part at most the price of its cost
pub record AreCharges (p : SelectionProblem) (x : Fraction) (charges : List ℤ) : Type 0 where
  pub full : length charges ≡ length p.needs
  pub low : (k : ℕ) → k < length p.needs → pos 0 ≤ℤ at_arc charges k
  pub product_high : (j : ℕ) → j < length p.gains → charged_by p charges j ≤ℤ (x.q *ℤ at_arc p.gains j)
  pub part_high : (i : ℕ) → i < length p.costs → charged_on p charges i ≤ℤ (x.p *ℤ at_arc p.costs i)

-- The rules that the dropped parts and products keep: a part that is not charged its whole price is dropped, a product that needs a
-- dropped part is dropped, and so is a part that a dropped product charges.
pub record KeepsRules (p : SelectionProblem) (x : Fraction) (charges : List ℤ) (parts products : List Bool) : Type 0 where
  pub cheap : (i : ℕ) → i < length p.costs → charged_on p charges i <ℤ (x.p *ℤ at_arc p.costs i) → has parts i ≡ true
  pub needing : (k : ℕ) → k < length p.needs → has parts (part_at p k) ≡ true → has products (product_at p k) ≡ true
  pub charging : (k : ℕ) → k < length p.needs → has products (product_at p k) ≡ true → pos 0 <ℤ at_arc charges k →
      has parts (part_at p k) ≡ true

-- the least sets that keep them
pub record IsDropped (p : SelectionProblem) (x : Fraction) (charges : List ℤ) (parts products : List Bool) : Type 0 where
  pub rules : KeepsRules p x charges parts products
  pub least_parts : (other_parts other_products : List Bool) → KeepsRules p x charges other_parts other_products → IsContained parts other_parts
  pub least_products : (other_parts other_products : List Bool) → KeepsRules p x charges other_parts other_products →
      IsContained products other_products

-- what the charges at a price prove of the selection before it: each dropped product charges its whole gain, and the parts of the
-- selection are those not dropped
pub record CertifiesPrice (p : SelectionProblem) (x : Fraction) (charges : List ℤ) (set : List Bool) : Type 0 where
  pub charges_are : AreCharges p x charges
  pub parts : List Bool
  pub products : List Bool
  pub dropped : IsDropped p x charges parts products
  pub paid : (j : ℕ) → j < length p.gains → has products j ≡ true → charged_by p charges j ≡ x.q *ℤ at_arc p.gains j
  pub rest : (i : ℕ) → i < length p.costs → has set i ≡ not (has parts i)

-- some product needs the part
pub record IsNeeded (p : SelectionProblem) (i : ℕ) : Type 0 where
  pub need : ℕ
  pub there : need < length p.needs
  pub part : part_at p need ≡ i

abbrev pub charges_at : List (List ℤ) → ℕ → List ℤ
charges_at charges j = slice_index_or charges j []

-- Prices above 0 that rise, selections that fall from all needed parts to none, and at each price charges that prove the selection
-- before it best, and the one after it of equal worth.
pub record CertifiesSchedule (p : SelectionProblem) (prices : List Fraction) (selections : List (List Bool)) (charges : List (List ℤ)) : Type 0 where
  pub count : length selections ≡ suc (length prices)
  pub charges_count : length charges ≡ length prices
  pub full : (j : ℕ) → j < suc (length prices) → length (selection_at selections j) ≡ length p.costs
  pub parameters : (j : ℕ) → j < length prices → IsParameter (price_at prices (suc j))
  pub rise : (j : ℕ) → j < length prices → IsBelow (price_at prices j) (price_at prices (suc j))
  pub fall : (j : ℕ) → j < length prices → IsProperPart (selection_at selections (suc j)) (selection_at selections j)
  pub first_needed : (i : ℕ) → i < length p.costs → has (selection_at selections 0) i ≡ true → IsNeeded p i
  pub needed_first : (i : ℕ) → IsNeeded p i → has (selection_at selections 0) i ≡ true
  pub last_empty : (i : ℕ) → i < length p.costs → has (selection_at selections (length prices)) i ≡ false
  pub each : (j : ℕ) → j < length prices → CertifiesPrice p (price_at prices (suc j)) (charges_at charges j) (selection_at selections j)
  pub equal : (j : ℕ) → j < length prices →
      worth p (price_at prices (suc j)) (selection_at selections j) ≡ worth p (price_at prices (suc j)) (selection_at selections (suc j))
