-- Least ratio closures: items with costs and weights, which items need which, and the best ratio over all closures.
use Rattle.std.specs.Prelude.{◌≡◌, ℕ, ◌<◌, ◌≤◌, ℤ, ◌+ℤ◌, ◌*ℤ◌, ◌≤ℤ◌, pos, neg_ℤ, Bool, true, if◌then◌else◌, List, [], ◌∷◌, length, slice_index_or}
use Rattle.pf_model.specs.Fraction.{Fraction, IsParameter}
use Rattle.pf_model.specs.Cut.{has, at_arc, IsContained}

-- Items are numbered from 0. A need is the pair of an item and the item that it needs.
pub record ClosureProblem : Type 0 where
  pub costs : List ℤ
  pub weights : List ℤ
  pub needs : List (ℕ × ℕ)

-- the item that needs, and the item that is needed, in need k
abbrev pub needing_at : ClosureProblem → ℕ → ℕ
needing_at p k = (slice_index_or p.needs k (0, 0)).0

abbrev pub needed_at : ClosureProblem → ℕ → ℕ
needed_at p k = (slice_index_or p.needs k (0, 0)).1

-- there is an item, each has a weight, of at least 1, and needs name items
pub record IsClosureProblem (p : ClosureProblem) : Type 0 where
  pub some : 0 < length p.costs
  pub full : length p.weights ≡ length p.costs
  pub heavy : (i : ℕ) → i < length p.costs → pos 1 ≤ℤ at_arc p.weights i
  pub needing : (k : ℕ) → k < length p.needs → needing_at p k < length p.costs
  pub needed : (k : ℕ) → k < length p.needs → needed_at p k < length p.costs

-- the limits of a text: how many items and needs there are, and the sizes of their numbers
pub record IsBoundedProblem (p : ClosureProblem) : Type 0 where
  pub problem : IsClosureProblem p
  pub few_items : length p.costs ≤ 1000
  pub few_needs : length p.needs ≤ 10000
  pub cost_low : (i : ℕ) → i < length p.costs → neg_ℤ (pos 1000000) ≤ℤ at_arc p.costs i
  pub cost_high : (i : ℕ) → i < length p.costs → at_arc p.costs i ≤ℤ pos 1000000
  pub weight_high : (i : ℕ) → i < length p.costs → at_arc p.weights i ≤ℤ pos 1000000

-- a set of items is a list of truth values; the sum of the numbers of the items in it
abbrev pub sum_of_side : List Bool → List ℤ → ℤ
sum_of_side [] numbers = pos 0
sum_of_side (b ∷ set) [] = pos 0
sum_of_side (b ∷ set) (x ∷ numbers) = (if b then x else pos 0) +ℤ sum_of_side set numbers

-- the sum of the numbers of all items
abbrev pub sum_of_all : List ℤ → ℤ
sum_of_all [] = pos 0
sum_of_all (x ∷ numbers) = x +ℤ sum_of_all numbers

abbrev pub cost_of : ClosureProblem → List Bool → ℤ
cost_of p set = sum_of_side set p.costs

abbrev pub weight_of : ClosureProblem → List Bool → ℤ
weight_of p set = sum_of_side set p.weights

-- a closure holds with each item all that it needs
pub record IsClosure (p : ClosureProblem) (set : List Bool) : Type 0 where
  pub full : length set ≡ length p.costs
  pub closed : (k : ℕ) → k < length p.needs → has set (needing_at p k) ≡ true → has set (needed_at p k) ≡ true

pub record IsNonempty (set : List Bool) : Type 0 where
  pub item : ℕ
  pub held : has set item ≡ true

-- the least ratio of cost over weight of a nonempty closure, with the closure that contains all others of that ratio
pub record IsLeastRatio (p : ClosureProblem) (x : Fraction) (set : List Bool) : Type 0 where
  pub parameter : IsParameter x
  pub closure : IsClosure p set
  pub some : IsNonempty set
  pub ratio : x.q *ℤ cost_of p set ≡ x.p *ℤ weight_of p set
  pub least : (other : List Bool) → IsClosure p other → IsNonempty other →
      (x.p *ℤ weight_of p other) ≤ℤ (x.q *ℤ cost_of p other)
  pub greatest : (other : List Bool) → IsClosure p other → IsNonempty other →
      x.q *ℤ cost_of p other ≡ x.p *ℤ weight_of p other → IsContained other set
