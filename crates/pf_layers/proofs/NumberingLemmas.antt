-- The elements before a layer, and those of it.
use Rattle.std.proofs.Common.{◌≡◌, ℕ, zero, suc, ◌<◌, ◌≤◌, List, [], ◌∷◌, length, map, refl, Bool, true, false, ◌||◌, arith, ap, sym, ◌∙◌, inl, inr}
use Rattle.std.specs.Prelude.{◌<ℤ◌, ℤ, ◌≤ℤ◌, pos, negsuc, int_lt}
use Rattle.std.specs.Ordering.{int_eq}
use Rattle.std.proofs.lemmas.Int.{ints, by_lt_z}
use Rattle.std.proofs.lemmas.Bool.{or_cases, or_left, or_right}
use Rattle.std.proofs.lemmas.Bool.Decides.{Decides-int_eq}
use Rattle.pf_model.specs.Cut.{has, at_arc, union}
use Rattle.pf_layers.specs.Layers.{before, layer, IsApart}
use Rattle.pf_model.proofs.Unique.{same_truth}

pub less_told : (a b : ℤ) → int_lt a b ≡ true → a <ℤ b
less_told a b e = omega (arith, ints, e)

pub less_true : (a b : ℤ) → a <ℤ b → int_lt a b ≡ true
less_true a b e = grind (arith, ints)

pub less_false : (a b : ℤ) → b ≤ℤ a → int_lt a b ≡ false
less_false a b e = grind (arith, ints)

-- the places of a list of tests
pub map_length : (f : ℤ → Bool) (xs : List ℤ) → length (map f xs) ≡ length xs
map_length f [] = refl
map_length f (x ∷ xs) = ap suc (map_length f xs)

pub has_map : (f : ℤ → Bool) (xs : List ℤ) (v : ℕ) → v < length xs → has (map f xs) v ≡ f (at_arc xs v)
has_map f [] v low = absurd (omega (arith, low))
has_map f (x ∷ xs) zero low = refl
has_map f (x ∷ xs) (suc v) low = has_map f xs v (omega (arith, low))

pub layer_length : (layers : List ℤ) (j : ℕ) → length (layer layers j) ≡ length layers
layer_length layers j = map_length (λ number. int_eq number (pos j)) layers

pub before_length : (layers : List ℤ) (j : ℕ) → length (before layers j) ≡ length layers
before_length layers j = map_length (λ number. int_lt number (pos j)) layers

-- what is below one more is below, or equal
below_more : (x : ℤ) (j : ℕ) → int_lt x (pos (suc j)) ≡ (int_lt x (pos j) || int_eq x (pos j))
below_more x j =
    same_truth (int_lt x (pos (suc j))) (int_lt x (pos j) || int_eq x (pos j))
    (λ h.
    let less = less_told x (pos (suc j)) h in
    by_lt_z x (pos j) (λ below. or_left (int_lt x (pos j)) _ (less_true x (pos j) below))
    (λ most. or_right (int_lt x (pos j)) _ ((Decides-int_eq x (pos j)).1 (omega (arith, ints, less, most)))))
    (λ h. elim (or_cases (int_lt x (pos j)) (int_eq x (pos j)) h) [
      | inl less ↦ let below = less_told x (pos j) less in less_true x (pos (suc j)) (omega (arith, ints, below))
      | inr equal ↦ let e = (Decides-int_eq x (pos j)).0 equal in less_true x (pos (suc j)) (omega (arith, ints, e))
    ])

pub before_more : (layers : List ℤ) (j : ℕ) → before layers (suc j) ≡ union (before layers j) (layer layers j)
before_more [] j = refl
before_more (x ∷ layers) j = rw (below_more x j, before_more layers j) refl

-- a layer holds nothing of those before it
apart_step : (x : ℤ) (j : ℕ) → int_eq x (pos j) ≡ true → int_lt x (pos j) ≡ false
apart_step x j h = let e = (Decides-int_eq x (pos j)).0 h in less_false x (pos j) (omega (arith, ints, e))

layer_outside : (layers : List ℤ) (j v : ℕ) → has (layer layers j) v ≡ true → has (before layers j) v ≡ false
layer_outside [] j v h = cc
layer_outside (x ∷ layers) j zero h = apart_step x j h
layer_outside (x ∷ layers) j (suc v) h = layer_outside layers j v h

pub layer_apart : (layers : List ℤ) (j : ℕ) → IsApart (before layers j) (layer layers j)
layer_apart layers j = record { outside = layer_outside layers j }

-- before layer 1 there is nothing, whatever the list
none_first : (xs ys : List ℤ) → length xs ≡ length ys → ((v : ℕ) → v < length xs → pos 1 ≤ℤ at_arc xs v) →
    ((v : ℕ) → v < length ys → pos 1 ≤ℤ at_arc ys v) → before xs 1 ≡ before ys 1
none_first [] [] e low low' = refl
none_first [] (y ∷ ys) e low low' = absurd (omega arith)
none_first (x ∷ xs) [] e low low' = absurd (omega arith)
none_first (x ∷ xs) (y ∷ ys) e low low' =
    let rest = none_first xs ys (omega arith) (λ v h. low (suc v) (omega (arith, h))) (λ v h. low' (suc v) (omega (arith, h))) in
    rw (less_false x (pos 1) (low 0 (omega arith)), less_false y (pos 1) (low' 0 (omega arith)), rest) refl

pub before_first : (xs ys : List ℤ) (n : ℕ) → length xs ≡ n → length ys ≡ n → ((v : ℕ) → v < n → pos 1 ≤ℤ at_arc xs v) →
    ((v : ℕ) → v < n → pos 1 ≤ℤ at_arc ys v) → before xs 1 ≡ before ys 1
before_first xs ys n e f low low' =
    none_first xs ys (e ∙ sym f) (λ v h. low v (omega (arith, h, e))) (λ v h. low' v (omega (arith, h, f)))

-- numbers from 1 to k with the same elements before each layer are the same
head_of : (a b : Bool) (xs ys : List Bool) → a ∷ xs ≡ b ∷ ys → a ≡ b
head_of a b xs ys e = ap (λ l. has l 0) e

abbrev behind_first : List Bool → List Bool
behind_first [] = []
behind_first (b ∷ xs) = xs

tail_of : (a b : Bool) (xs ys : List Bool) → a ∷ xs ≡ b ∷ ys → xs ≡ ys
tail_of a b xs ys e = ap behind_first e

not_less : (x y : ℤ) (k : ℕ) → pos 1 ≤ℤ x → x ≤ℤ pos k → ((j : ℕ) → j ≤ k → int_lt x (pos (suc j)) ≡ int_lt y (pos (suc j))) → y ≤ℤ x
not_less (pos a) y k low high same =
    let e = same a (omega (arith, ints, high)) in
    let here = less_true (pos a) (pos (suc a)) (omega (arith, ints)) in
    let there = less_told y (pos (suc a)) (sym e ∙ here) in
    omega (arith, ints, there)
not_less (negsuc a) y k low high same = absurd (omega (arith, ints, low))

same_number : (x y : ℤ) (k : ℕ) → pos 1 ≤ℤ x → x ≤ℤ pos k → pos 1 ≤ℤ y → y ≤ℤ pos k →
    ((j : ℕ) → j ≤ k → int_lt x (pos (suc j)) ≡ int_lt y (pos (suc j))) → x ≡ y
same_number x y k low high low' high' same =
    let one = not_less x y k low high same in
    let two = not_less y x k low' high' (λ j h. sym (same j h)) in
    omega (arith, ints, one, two)

pub same_numbers : (xs ys : List ℤ) (k : ℕ) → length xs ≡ length ys → ((v : ℕ) → v < length xs → pos 1 ≤ℤ at_arc xs v) → ((v : ℕ) → v < length xs → at_arc xs v ≤ℤ pos k) →
    ((v : ℕ) → v < length ys → pos 1 ≤ℤ at_arc ys v) → ((v : ℕ) → v < length ys → at_arc ys v ≤ℤ pos k) →
    ((j : ℕ) → j ≤ k → before xs (suc j) ≡ before ys (suc j)) → xs ≡ ys
same_numbers [] [] k e low high low' high' same = refl
same_numbers [] (y ∷ ys) k e low high low' high' same = absurd (omega arith)
same_numbers (x ∷ xs) [] k e low high low' high' same = absurd (omega arith)
same_numbers (x ∷ xs) (y ∷ ys) k e low high low' high' same =
    let here : x ≡ y = same_number x y k (low 0 (omega arith)) (high 0 (omega arith)) (low' 0 (omega arith)) (high' 0 (omega arith))
    (λ j h. head_of (int_lt x (pos (suc j))) (int_lt y (pos (suc j))) _ _ (same j h)) in
    let rest = same_numbers xs ys k (omega arith) (λ v h. low (suc v) (omega (arith, h))) (λ v h. high (suc v) (omega (arith, h)))
    (λ v h. low' (suc v) (omega (arith, h))) (λ v h. high' (suc v) (omega (arith, h)))
    (λ j h. tail_of (int_lt x (pos (suc j))) (int_lt y (pos (suc j))) _ _ (same j h)) in
    rw (here, rest) refl
