-- Sums over unions of sets.
use Rattle.std.proofs.Common.{◌≡◌, ℕ, zero, suc, ◌<◌, List, [], ◌∷◌, length, refl, Bool, true, false, cond, ◌&&◌, ◌||◌, arith}
use Rattle.std.specs.Prelude.{ℤ, ◌+ℤ◌, ◌≤ℤ◌, pos}
use Rattle.std.proofs.lemmas.Int.{ints}
use Rattle.pf_model.specs.Cut.{has, at_arc, union, intersection, IsContained, sum_where}
use Rattle.pf_graph.specs.WeightedGraph.{cost_of}
use Rattle.pf_closure.specs.Problem.{sum_of_side}
use Rattle.pf_layers.specs.Layers.{IsApart}
use Rattle.pf_model.proofs.Facts.{none_before}
use Rattle.pf_model.proofs.Sums.{none_after}

-- of two sets that have no element in common
union_step : (p q : Bool) (x a b c : ℤ) → (q ≡ true → p ≡ false) → c ≡ a +ℤ b → cond (p || q) x (pos 0) +ℤ c ≡ (cond p x (pos 0) +ℤ a) +ℤ (cond q x (pos 0) +ℤ b)
union_step true true x a b c apart e = let h = apart refl in cc
union_step true false x a b c apart e = omega (arith, ints, e)
union_step false true x a b c apart e = omega (arith, ints, e)
union_step false false x a b c apart e = omega (arith, ints, e)

none_added : (a : ℤ) → a ≡ a +ℤ pos 0
none_added a = omega (arith, ints)

pub rest_apart : (p q : Bool) (taken set : List Bool) → IsApart (p ∷ taken) (q ∷ set) → IsApart taken set
rest_apart p q taken set apart = record { outside = λ v h. apart.outside (suc v) h }

pub cost_of_union : (costs : List ℤ) (taken set : List Bool) → IsApart taken set → cost_of costs (union taken set) ≡ cost_of costs taken +ℤ cost_of costs set
cost_of_union [] taken set apart = refl
cost_of_union (x ∷ costs) [] set apart = none_before (cost_of (x ∷ costs) set)
cost_of_union (x ∷ costs) (p ∷ taken) [] apart = none_added (cost_of (x ∷ costs) (p ∷ taken))
cost_of_union (x ∷ costs) (p ∷ taken) (q ∷ set) apart =
    union_step p q x _ _ _ (apart.outside 0) (cost_of_union costs taken set (rest_apart p q taken set apart))

pub sum_of_union : (taken set : List Bool) (xs : List ℤ) → IsApart taken set → sum_of_side (union taken set) xs ≡ sum_of_side taken xs +ℤ sum_of_side set xs
sum_of_union [] set xs apart = none_before (sum_of_side set xs)
sum_of_union (p ∷ taken) [] xs apart = none_added (sum_of_side (p ∷ taken) xs)
sum_of_union (p ∷ taken) (q ∷ set) [] apart = refl
sum_of_union (p ∷ taken) (q ∷ set) (x ∷ xs) apart =
    union_step p q x _ _ _ (apart.outside 0) (sum_of_union taken set xs (rest_apart p q taken set apart))

-- of any two sets, with their intersection
modular_step : (p q : Bool) (x a b c d : ℤ) → c +ℤ d ≡ a +ℤ b →
    (cond (p || q) x (pos 0) +ℤ c) +ℤ (cond (p && q) x (pos 0) +ℤ d) ≡ (cond p x (pos 0) +ℤ a) +ℤ (cond q x (pos 0) +ℤ b)
modular_step true true x a b c d e = omega (arith, ints, e)
modular_step true false x a b c d e = omega (arith, ints, e)
modular_step false true x a b c d e = omega (arith, ints, e)
modular_step false false x a b c d e = omega (arith, ints, e)

pub sum_modular : (first second : List Bool) (xs : List ℤ) →
    sum_of_side (union first second) xs +ℤ sum_of_side (intersection first second) xs ≡ sum_of_side first xs +ℤ sum_of_side second xs
sum_modular [] second xs = none_after (sum_of_side second xs)
sum_modular (p ∷ first) [] xs = refl
sum_modular (p ∷ first) (q ∷ second) [] = refl
sum_modular (p ∷ first) (q ∷ second) (x ∷ xs) = modular_step p q x _ _ _ _ (sum_modular first second xs)

-- a set that holds another one and one element more weighs more
least_step : (p q : Bool) (x a b : ℤ) → pos 1 ≤ℤ x → (p ≡ true → q ≡ true) → a ≤ℤ b → (cond p x (pos 0) +ℤ a) ≤ℤ (cond q x (pos 0) +ℤ b)
least_step true true x a b h c e = omega (arith, ints, e)
least_step true false x a b h c e = let k = c refl in cc
least_step false true x a b h c e = omega (arith, ints, h, e)
least_step false false x a b h c e = omega (arith, ints, e)

first_step : (p q : Bool) (x a b : ℤ) → pos 1 ≤ℤ x → q ≡ true → p ≡ false → a ≤ℤ b → ((cond p x (pos 0) +ℤ a) +ℤ pos 1) ≤ℤ (cond q x (pos 0) +ℤ b)
first_step true true x a b h on off e = cc
first_step true false x a b h on off e = cc
first_step false true x a b h on off e = omega (arith, ints, h, e)
first_step false false x a b h on off e = cc

later_step : (p q : Bool) (x a b : ℤ) → pos 1 ≤ℤ x → (p ≡ true → q ≡ true) → (a +ℤ pos 1) ≤ℤ b → ((cond p x (pos 0) +ℤ a) +ℤ pos 1) ≤ℤ (cond q x (pos 0) +ℤ b)
later_step true true x a b h c e = omega (arith, ints, e)
later_step true false x a b h c e = let k = c refl in cc
later_step false true x a b h c e = omega (arith, ints, h, e)
later_step false false x a b h c e = omega (arith, ints, e)

pub weight_within : (small large : List Bool) (xs : List ℤ) → length small ≡ length large → ((i : ℕ) → i < length xs → pos 1 ≤ℤ at_arc xs i) → IsContained small large →
    sum_of_side small xs ≤ℤ sum_of_side large xs
weight_within [] [] xs e h c = omega (arith, ints)
weight_within [] (q ∷ large) xs e h c = absurd (omega arith)
weight_within (p ∷ small) [] xs e h c = absurd (omega arith)
weight_within (p ∷ small) (q ∷ large) [] e h c = omega (arith, ints)
weight_within (p ∷ small) (q ∷ large) (x ∷ xs) e h c =
    least_step p q x _ _ (h 0 (omega arith)) (c 0) (weight_within small large xs (omega arith) (λ i low. h (suc i) (omega (arith, low))) (λ i. c (suc i)))

pub weight_more : (small large : List Bool) (xs : List ℤ) (v : ℕ) → length small ≡ length large → length large ≡ length xs →
    ((i : ℕ) → i < length xs → pos 1 ≤ℤ at_arc xs i) → IsContained small large → has large v ≡ true → has small v ≡ false → (sum_of_side small xs +ℤ pos 1) ≤ℤ sum_of_side large xs
weight_more [] [] xs v e f h c on off = cc
weight_more [] (q ∷ large) xs v e f h c on off = absurd (omega arith)
weight_more (p ∷ small) [] xs v e f h c on off = cc
weight_more (p ∷ small) (q ∷ large) [] v e f h c on off = absurd (omega arith)
weight_more (p ∷ small) (q ∷ large) (x ∷ xs) zero e f h c on off =
    first_step p q x _ _ (h 0 (omega arith)) on off (weight_within small large xs (omega arith) (λ i low. h (suc i) (omega (arith, low))) (λ i. c (suc i)))
weight_more (p ∷ small) (q ∷ large) (x ∷ xs) (suc v) e f h c on off =
    later_step p q x _ _ (h 0 (omega arith)) (c 0)
    (weight_more small large xs v (omega arith) (omega arith) (λ i low. h (suc i) (omega (arith, low))) (λ i. c (suc i)) on off)

-- numbers not below 0 sum to more where more arcs pass
pub sum_where_wider : (test other : ℕ × ℕ → Bool) (arcs : List (ℕ × ℕ)) (xs : List ℤ) → ((i : ℕ) → i < length arcs → pos 0 ≤ℤ at_arc xs i) →
    ((arc : ℕ × ℕ) → test arc ≡ true → other arc ≡ true) → sum_where test arcs xs ≤ℤ sum_where other arcs xs
sum_where_wider test other [] xs h c = omega (arith, ints)
sum_where_wider test other (arc ∷ arcs) [] h c = omega (arith, ints)
sum_where_wider test other (arc ∷ arcs) (x ∷ xs) h c =
    wider_step (test arc) (other arc) x _ _ (h 0 (omega arith)) (c arc) (sum_where_wider test other arcs xs (λ i low. h (suc i) (omega (arith, low))) c)
  where
    wider_step : (p q : Bool) (x a b : ℤ) → pos 0 ≤ℤ x → (p ≡ true → q ≡ true) → a ≤ℤ b → (cond p x (pos 0) +ℤ a) ≤ℤ (cond q x (pos 0) +ℤ b)
    wider_step true true x a b h c e = omega (arith, ints, e)
    wider_step true false x a b h c e = let k = c refl in cc
    wider_step false true x a b h c e = omega (arith, ints, h, e)
    wider_step false false x a b h c e = omega (arith, ints, e)
