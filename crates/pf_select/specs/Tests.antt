-- The parts of the certificate of a schedule, each of which one function tests.
use Rattle.std.specs.Prelude.{◌≡◌, ℕ, suc, ◌<◌, ◌^◌, ℤ, ◌≤ℤ◌, ◌<ℤ◌, pos, Bool, true, not, List, length, take, slice_index_or}
use Rattle.pf_model.specs.Fraction.{Fraction, IsBelow}
use Rattle.pf_model.specs.Cut.{has, at_arc}
use Rattle.pf_select.specs.Problem.{SelectionProblem, is_gained, worth, price_at, selection_at, IsProperPart}
use Rattle.pf_select.specs.Certificate.{CertifiesPrice, IsNeeded, charges_at}

-- the prices rise strictly, from above 0
pub record PricesRise (prices : List Fraction) : Type 0 where
  pub each : (j : ℕ) → j < length prices → IsBelow (price_at prices j) (price_at prices (suc j))

-- each selection is a proper part of the one before it
pub record SelectionsFall (selections : List (List Bool)) (count : ℕ) : Type 0 where
  pub each : (j : ℕ) → j < count → IsProperPart (selection_at selections (suc j)) (selection_at selections j)

-- the first places have these truth values, which are those of the parts that the first needs name
pub record AreNeeded (needs : List (ℕ × ℕ)) (count : ℕ) (marks : List Bool) : Type 0 where
  pub marked : (k : ℕ) → k < count → has marks (slice_index_or needs k (0, 0)).1 ≡ true
  pub only : (i : ℕ) → has marks i ≡ true → (k : ℕ) × (k < count × ((slice_index_or needs k (0, 0)).1 ≡ i))

-- a product is marked where the first needs name no part for it that is not in the set
pub record AreGained (needs : List (ℕ × ℕ)) (count : ℕ) (set products : List Bool) : Type 0 where
  pub each : (j : ℕ) → j < length products → has products j ≡ is_gained (take count needs) set j

-- no number is below 0, and each is below 2 ^ 104
pub record AreSizes (charges : List ℤ) (count : ℕ) : Type 0 where
  pub low : (k : ℕ) → k < count → pos 0 ≤ℤ at_arc charges k
  pub high : (k : ℕ) → k < count → at_arc charges k <ℤ pos (2 ^ 104)

-- no number of the first ones is below 0
pub record AreNonnegative (numbers : List ℤ) (count : ℕ) : Type 0 where
  pub each : (k : ℕ) → k < count → pos 0 ≤ℤ at_arc numbers k

-- where a place is marked, the number there is 0
pub record ArePaid (numbers : List ℤ) (marks : List Bool) (count : ℕ) : Type 0 where
  pub each : (j : ℕ) → j < count → has marks j ≡ true → at_arc numbers j ≡ pos 0

-- a part is in the set where it is not marked, and nowhere else
pub record IsRest (set marks : List Bool) : Type 0 where
  pub each : (i : ℕ) → i < length set → has set i ≡ not (has marks i)

-- charges certify the selection up to price j, and the next one is worth the same there
pub record CertifiesChange (p : SelectionProblem) (prices : List Fraction) (selections : List (List Bool)) (charges : List (List ℤ)) (j : ℕ) : Type 0 where
  pub each : CertifiesPrice p (price_at prices (suc j)) (charges_at charges j) (selection_at selections j)
  pub equal : worth p (price_at prices (suc j)) (selection_at selections j) ≡ worth p (price_at prices (suc j)) (selection_at selections (suc j))

-- so at each price
pub record CertifiesChanges (p : SelectionProblem) (prices : List Fraction) (selections : List (List Bool)) (charges : List (List ℤ)) : Type 0 where
  pub each : (j : ℕ) → j < length prices → CertifiesChange p prices selections charges j

-- the first selection is the set of the needed parts
pub record BeginsNeeded (p : SelectionProblem) (selections : List (List Bool)) : Type 0 where
  pub first_needed : (i : ℕ) → i < length p.costs → has (selection_at selections 0) i ≡ true → IsNeeded p i
  pub needed_first : (i : ℕ) → IsNeeded p i → has (selection_at selections 0) i ≡ true
