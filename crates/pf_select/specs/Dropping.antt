-- The search for the dropped parts and products.
use Rattle.std.specs.Prelude.{◌≡◌, ℕ, ◌+◌, ◌<◌, ◌≤◌, ◌^◌, ℤ, ◌-ℤ◌, ◌*ℤ◌, ◌≤ℤ◌, ◌<ℤ◌, pos, neg_ℤ, Bool, true, false, if◌then◌else◌, ◌==◌, List, length, take, slice_index_or}
use Rattle.pf_model.specs.Fraction.{Fraction}
use Rattle.pf_model.specs.Cut.{has, at_arc, IsContained, size, sum_where}
use Rattle.pf_select.specs.Problem.{SelectionProblem, product_at, part_at}
use Rattle.pf_select.specs.Certificate.{charged_by, charged_on, KeepsRules}

-- what each part may still be charged at the price, and what each product may still charge
pub record HasSlacks (p : SelectionProblem) (x : Fraction) (charges on_parts by_products : List ℤ) : Type 0 where
  pub parts : (i : ℕ) → i < length p.costs → at_arc on_parts i ≡ (x.p *ℤ at_arc p.costs i) -ℤ charged_on p charges i
  pub products : (j : ℕ) → j < length p.gains → at_arc by_products j ≡ (x.q *ℤ at_arc p.gains j) -ℤ charged_by p charges j

-- the first places hold the products of a number with these
pub record IsScaled (k : ℤ) (numbers : List ℕ) (count : ℕ) (sums : List ℤ) : Type 0 where
  pub each : (i : ℕ) → i < count → at_arc sums i ≡ k *ℤ pos (slice_index_or numbers i 0)
  pub low : (i : ℕ) → i < count → neg_ℤ (pos (2 ^ 107)) ≤ℤ at_arc sums i
  pub high : (i : ℕ) → i < count → at_arc sums i ≤ℤ pos (2 ^ 107)

-- the ends of needs have places, whose numbers are small
pub record ArePlaces (key : ℕ × ℕ → ℕ) (needs : List (ℕ × ℕ)) (sums : List ℤ) : Type 0 where
  pub there : (k : ℕ) → k < length needs → key (slice_index_or needs k (0, 0)) < length sums
  pub low : (k : ℕ) → k < length needs → neg_ℤ (pos (2 ^ 107)) ≤ℤ at_arc sums (key (slice_index_or needs k (0, 0)))
  pub high : (k : ℕ) → k < length needs → at_arc sums (key (slice_index_or needs k (0, 0))) ≤ℤ pos (2 ^ 107)

-- from each place the charges of the first needs with this end are taken
pub record IsTaken (key : ℕ × ℕ → ℕ) (needs : List (ℕ × ℕ)) (charges : List ℤ) (count : ℕ) (sums sums' : List ℤ) : Type 0 where
  pub full : length sums' ≡ length sums
  pub each : (v : ℕ) → v < length sums →
      at_arc sums' v ≡ at_arc sums v -ℤ sum_where (λ need. key need == v) (take count needs) (take count charges)

-- each marked part and product is in all sets that keep the rules
pub record IsForced (p : SelectionProblem) (x : Fraction) (charges : List ℤ) (parts products : List Bool) : Type 0 where
  pub parts_forced : (other_parts other_products : List Bool) → KeepsRules p x charges other_parts other_products → IsContained parts other_parts
  pub products_forced : (other_parts other_products : List Bool) → KeepsRules p x charges other_parts other_products →
      IsContained products other_products

-- how many parts and products are marked
abbrev pub marked : List Bool → List Bool → ℕ
marked parts products = size parts + size products

-- a need with this charge keeps both rules
pub record KeepsNeed (product part : ℕ) (charge : ℤ) (parts products : List Bool) : Type 0 where
  pub needing : has parts part ≡ true → has products product ≡ true
  pub charging : has products product ≡ true → pos 0 <ℤ charge → has parts part ≡ true

-- the part or the product of a need is marked where the other one drops it, and the result tells whether that was so
pub record IsNeedDropped (product part : ℕ) (charge : ℤ) (parts parts' products products' : List Bool) (result : Bool) : Type 0 where
  pub parts_full : length parts' ≡ length parts
  pub products_full : length products' ≡ length products
  pub more_parts : IsContained parts parts'
  pub more_products : IsContained products products'
  pub grows : marked parts products + (if result then 1 else 0) ≤ marked parts' products'
  pub still_parts : result ≡ false → parts' ≡ parts
  pub still_products : result ≡ false → products' ≡ products
  pub parts_forced : (other_parts other_products : List Bool) → KeepsNeed product part charge other_parts other_products →
      IsContained parts other_parts → IsContained products other_products → IsContained parts' other_parts
  pub products_forced : (other_parts other_products : List Bool) → KeepsNeed product part charge other_parts other_products →
      IsContained parts other_parts → IsContained products other_products → IsContained products' other_products
  pub kept : result ≡ false → KeepsNeed product part charge parts' products'

-- the first needs were looked at once, and the result tells whether one of them marked a part or a product
pub record IsRound (p : SelectionProblem) (charges : List ℤ) (parts parts' products products' : List Bool) (count : ℕ) (result : Bool) : Type 0 where
  pub parts_full : length parts' ≡ length parts
  pub products_full : length products' ≡ length products
  pub more_parts : IsContained parts parts'
  pub more_products : IsContained products products'
  pub grows : marked parts products + (if result then 1 else 0) ≤ marked parts' products'
  pub still_parts : result ≡ false → parts' ≡ parts
  pub still_products : result ≡ false → products' ≡ products
  pub forced : (x : Fraction) → IsForced p x charges parts products → IsForced p x charges parts' products'
  pub kept : result ≡ false → (k : ℕ) → k < count → KeepsNeed (product_at p k) (part_at p k) (at_arc charges k) parts' products'

-- just the parts that may still be charged are marked, among the first, and none after
pub record AreCheap (slacks : List ℤ) (count : ℕ) (marks : List Bool) : Type 0 where
  pub cheap : (i : ℕ) → i < count → pos 0 <ℤ at_arc slacks i → has marks i ≡ true
  pub only : (i : ℕ) → has marks i ≡ true → i < count
  pub above : (i : ℕ) → has marks i ≡ true → pos 0 <ℤ at_arc slacks i

-- no mark
pub record IsUnmarked (marks : List Bool) : Type 0 where
  pub none : (i : ℕ) → has marks i ≡ false

-- each part that may still be charged is marked
pub record HasCheap (slacks : List ℤ) (count : ℕ) (marks : List Bool) : Type 0 where
  pub cheap : (i : ℕ) → i < count → pos 0 <ℤ at_arc slacks i → has marks i ≡ true
