-- Sums over marked places, and which products a selection gains, need by need.
use Rattle.std.proofs.Common.{◌≡◌, ℕ, zero, suc, ◌+◌, ◌*◌, ◌<◌, ◌≤◌, List, [], ◌∷◌, length, get_or, set, take, refl, Bool, true, false, cond, not, ◌&&◌, ◌||◌, eqb, arith, ap, sym, ◌∙◌, inl, inr, add-one}
use Rattle.std.specs.Prelude.{ℤ, ◌+ℤ◌, pos, map, ◌==◌}
use Rattle.std.proofs.lemmas.Int.{ints}
use Rattle.std.proofs.lemmas.Bool.{cases_eq, eq-eqb, ne_eqb}
use Rattle.std.proofs.lemmas.List.{length-set, get_or-set_same, get_or-set_other}
use Rattle.pf_model.specs.Cut.{has}
use Rattle.pf_select.specs.Problem.{SelectionProblem, is_gained, sum_of}
use Rattle.pf_select.specs.Tests.{AreGained}
use Rattle.pf_select.proofs.Grouping.{sum_same}
use Rattle.pf_model.proofs.Sums.{none_after, take_whole}
use Rattle.pf_model.proofs.Facts.{add_before}

sum_suc : (test : ℕ → Bool) (xs : List ℕ) (i : ℕ) → i < length xs →
    sum_of test (map pos (take (suc i) xs)) ≡ sum_of test (map pos (take i xs)) +ℤ cond (test i) (pos (get_or xs i 0)) (pos 0)
sum_suc test [] i low = absurd (omega (arith, low))
sum_suc test (x ∷ xs) zero low = none_after (cond (test 0) (pos x) (pos 0))
sum_suc test (x ∷ xs) (suc i) low =
    add_before (cond (test 0) (pos x) (pos 0)) _ _ _ (sum_suc (λ j. test (suc j)) xs i (omega (arith, low)))

pick_pos : (here : Bool) (x y : ℕ) → x ≡ cond here y 0 → pos x ≡ cond here (pos y) (pos 0)
pick_pos true x y e = ap pos e
pick_pos false x y e = ap pos e

pub sum_more : (test : ℕ → Bool) (xs : List ℕ) (i s x : ℕ) → i < length xs → pos s ≡ sum_of test (map pos (take i xs)) →
    x ≡ cond (test i) (get_or xs i 0) 0 → pos (s + x) ≡ sum_of test (map pos (take (i + 1) xs))
sum_more test xs i s x low before picked =
    let next = sum_suc test xs i low in
    let here = pick_pos (test i) x (get_or xs i 0) picked in
    let whole : pos (s + x) ≡ sum_of test (map pos (take (suc i) xs)) = omega (arith, ints, before, next, here) in
    whole ∙ sym (ap (λ n. sum_of test (map pos (take n xs))) (add-one i))

pick_small : (here : Bool) (x y : ℕ) → x ≡ cond here y 0 → y ≤ 1000000 → x ≤ 1000000
pick_small true x y e h = omega (arith, e, h)
pick_small false x y e h = omega (arith, e)

pub sum_small : (here : Bool) (i s x y : ℕ) → s ≤ i * 1000000 → x ≡ cond here y 0 → y ≤ 1000000 → s + x ≤ (i + 1) * 1000000
sum_small here i s x y before picked small = let h = pick_small here x y picked small in omega (arith, before, h)

-- one need more
and_assoc : (a b c : Bool) → ((a && b) && c) ≡ (a && (b && c))
and_assoc true b c = refl
and_assoc false b c = refl

and_true : (a : Bool) → (a && true) ≡ a
and_true true = refl
and_true false = refl

gained_suc : (needs : List (ℕ × ℕ)) (set : List Bool) (k j : ℕ) → k < length needs →
    is_gained (take (suc k) needs) set j
    ≡ (is_gained (take k needs) set j && (not (eqb (get_or needs k (0, 0)).0 j) || has set (get_or needs k (0, 0)).1))
gained_suc [] set k j low = absurd (omega (arith, low))
gained_suc (need ∷ needs) set zero j low = and_true (not (need.0 == j) || has set need.1)
gained_suc (need ∷ needs) set (suc k) j low =
    ap (λ b. (not (need.0 == j) || has set need.1) && b) (gained_suc needs set k j (omega (arith, low)))
    ∙ sym (and_assoc (not (need.0 == j) || has set need.1) (is_gained (take k needs) set j) _)

or_true : (a : Bool) → (a || true) ≡ true
or_true true = refl
or_true false = refl

and_false : (a : Bool) → (a && false) ≡ false
and_false true = refl
and_false false = refl

unmarked_at : (products : List Bool) (u j : ℕ) → j < length products → has (set products u false) j ≡ (has products j && (not (eqb u j) || false))
unmarked_at products u j low = elim (cases_eq j u) [
  | inl same ↦ (let less : u < length products = omega (arith, low, same) in rw (same, get_or-set_same, eq-eqb u u refl) (sym (and_false (has products u))))
  | inr other ↦ rw (get_or-set_other, ne_eqb u j (λ e. other (sym e))) (sym (and_true (has products j)))
]

marks_more : (held : Bool) (products products' : List Bool) (u j : ℕ) → products' ≡ cond held products (set products u false) → j < length products →
    has products' j ≡ (has products j && (not (eqb u j) || held))
marks_more true products products' u j e low =
    ap (λ l. has l j) e ∙ sym (ap (λ b. has products j && b) (or_true (not (eqb u j))) ∙ and_true (has products j))
marks_more false products products' u j e low = ap (λ l. has l j) e ∙ unmarked_at products u j low

marks_length : (held : Bool) (products products' : List Bool) (u : ℕ) → products' ≡ cond held products (set products u false) →
    length products' ≡ length products
marks_length true products products' u e = ap length e
marks_length false products products' u e = ap length e ∙ length-set products u false

pub unmarked_length : (held : Bool) (products products' : List Bool) (u : ℕ) → products' ≡ cond held products (set products u false) →
    length products' ≡ length products
unmarked_length held products products' u e = marks_length held products products' u e

pub gained_more : (needs : List (ℕ × ℕ)) (set' : List Bool) (products products' : List Bool) (k : ℕ) → AreGained needs k set' products → k < length needs →
    products' ≡ cond (has set' (get_or needs k (0, 0)).1) products (set products (get_or needs k (0, 0)).0 false) → AreGained needs (k + 1) set' products'
gained_more needs set' products products' k g low e = record {
  each = λ j less.
      let wide = marks_length (has set' (get_or needs k (0, 0)).1) products products' _ e in
      marks_more (has set' (get_or needs k (0, 0)).1) products products' (get_or needs k (0, 0)).0 j e (omega (arith, less, wide))
      ∙ ap (λ b. b && (not (eqb (get_or needs k (0, 0)).0 j) || has set' (get_or needs k (0, 0)).1)) (g.each j (omega (arith, less, wide)))
      ∙ sym (gained_suc needs set' k j low) ∙ sym (ap (λ n. is_gained (take n needs) set' j) (add-one k));
}

-- the sum of what a selection gains
pub gains_of : (p : SelectionProblem) (set' products : List Bool) (gains : List ℕ) → AreGained p.needs (length p.needs) set' products →
    p.gains ≡ map pos gains → length p.gains ≤ length products → sum_of (has products) (map pos gains) ≡ sum_of (is_gained p.needs set') p.gains
gains_of p set' products gains g e wide =
    sym (ap (sum_of (has products)) e)
    ∙ sum_same (has products) (is_gained p.needs set') p.gains
    (λ j low. g.each j (omega (arith, low, wide)) ∙ ap (λ l. is_gained l set' j) (take_whole p.needs (length p.needs) (omega arith)))
