-- Sums over the items of a set.
use Rattle.std.proofs.Common.{◌≡◌, ℕ, zero, suc, ◌<◌, ◌≤◌, List, [], ◌∷◌, length, take, refl, Bool, true, cond, not, arith}
use Rattle.std.specs.Prelude.{ℤ, ◌+ℤ◌, ◌≤ℤ◌, pos, map}
use Rattle.std.proofs.lemmas.Int.{ints}
use Rattle.pf_model.specs.Cut.{has, at_arc}
use Rattle.pf_closure.specs.Problem.{sum_of_side}
use Rattle.pf_model.proofs.Sums.{none_after, take_whole}
use Rattle.pf_model.proofs.Facts.{add_before, first_step, later_step, some_step}

-- one item more
pub sum_of_suc : (set : List Bool) (xs : List ℤ) (k : ℕ) → length xs ≡ length set → k < length set →
    sum_of_side (take (suc k) set) (take (suc k) xs) ≡ sum_of_side (take k set) (take k xs) +ℤ cond (has set k) (at_arc xs k) (pos 0)
sum_of_suc [] xs k full low = absurd (omega arith)
sum_of_suc (b ∷ set) [] k full low = absurd (omega arith)
sum_of_suc (b ∷ set) (x ∷ xs) zero full low = none_after (cond b x (pos 0))
sum_of_suc (b ∷ set) (x ∷ xs) (suc k) full low =
    add_before (cond b x (pos 0)) _ _ _ (sum_of_suc set xs k (omega arith) (omega arith))

pub sum_of_none : (set : List Bool) (xs : List ℤ) → sum_of_side (take 0 set) (take 0 xs) ≡ pos 0
sum_of_none [] xs = refl
sum_of_none (b ∷ set) [] = refl
sum_of_none (b ∷ set) (x ∷ xs) = refl

pub sum_of_whole : (set : List Bool) (xs : List ℤ) (k : ℕ) → length set ≤ k → length xs ≤ k →
    sum_of_side (take k set) (take k xs) ≡ sum_of_side set xs
sum_of_whole set xs k h l = rw (take_whole set k h, take_whole xs k l) refl

pub weight_low : (set : List Bool) (xs : List ℤ) → ((i : ℕ) → i < length xs → pos 1 ≤ℤ at_arc xs i) → pos 0 ≤ℤ sum_of_side set xs
weight_low [] xs h = omega (arith, ints)
weight_low (b ∷ set) [] h = omega (arith, ints)
weight_low (b ∷ set) (x ∷ xs) h = some_step b x _ (h 0 (omega arith)) (weight_low set xs (λ i low. h (suc i) (omega (arith, low))))

pub weight_some : (set : List Bool) (xs : List ℤ) (i : ℕ) → ((i : ℕ) → i < length xs → pos 1 ≤ℤ at_arc xs i) → length set ≡ length xs →
    has set i ≡ true → pos 1 ≤ℤ sum_of_side set xs
weight_some [] xs i h full e = cc
weight_some (b ∷ set) [] i h full e = absurd (omega arith)
weight_some (b ∷ set) (x ∷ xs) zero h full e =
    first_step b x _ e (h 0 (omega arith)) (weight_low set xs (λ j low. h (suc j) (omega (arith, low))))
weight_some (b ∷ set) (x ∷ xs) (suc i) h full e =
    later_step b x _ (h 0 (omega arith)) (weight_some set xs i (λ j low. h (suc j) (omega (arith, low))) (omega arith) e)

-- the items that are not in the set
pub has_not : (set : List Bool) (i : ℕ) → i < length set → has (map not set) i ≡ not (has set i)
has_not [] i low = absurd (omega arith)
has_not (b ∷ set) zero low = refl
has_not (b ∷ set) (suc i) low = has_not set i (omega arith)
