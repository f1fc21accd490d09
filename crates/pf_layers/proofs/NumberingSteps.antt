-- Numbers are put cut by cut.
use Rattle.std.proofs.Common.{◌≡◌, ℕ, zero, suc, ◌<◌, List, [], ◌∷◌, length, replicate, refl, Bool, true, false, not, arith, ap, sym, ◌∙◌, inl, inr, subst}
use Rattle.std.specs.Prelude.{ℤ, pos, int_lt}
use Rattle.std.proofs.lemmas.Int.{ints}
use Rattle.std.proofs.lemmas.Bool.{cases_Bool, cases_lt, both_ways, false_from_ne_true}
use Rattle.std.proofs.lemmas.List.{length-replicate}
use Rattle.pf_model.specs.Cut.{has, at_arc, IsContained}
use Rattle.pf_layers.specs.Layers.{before}
use Rattle.pf_layers.specs.Reading.{IsNumbered, IsPut}
use Rattle.pf_layers.proofs.NumberingLemmas.{less_false, has_map, before_length, less_true}

same_places : (xs ys : List Bool) (n : ℕ) → length xs ≡ n → length ys ≡ n → ((v : ℕ) → v < n → has xs v ≡ has ys v) → xs ≡ ys
same_places [] [] n e f h = refl
same_places [] (y ∷ ys) n e f h = absurd (omega (arith, e, f))
same_places (x ∷ xs) [] n e f h = absurd (omega (arith, e, f))
same_places (x ∷ xs) (y ∷ ys) zero e f h = absurd (omega (arith, e))
same_places (x ∷ xs) (y ∷ ys) (suc n) e f h =
    let first : x ≡ y = h 0 (omega arith) in
    let rest = same_places xs ys n (omega (arith, e)) (omega (arith, f)) (λ v low. h (suc v) (omega (arith, low))) in
    rw (first, rest) refl

one_at : (n v : ℕ) → v < n → at_arc (replicate n (pos 1)) v ≡ pos 1
one_at zero v low = absurd (omega (arith, low))
one_at (suc n) zero low = refl
one_at (suc n) (suc v) low = one_at n v (omega (arith, low))

-- before the first layer there is nothing
pub numbers_begin : (n : ℕ) (sets : ℕ → List Bool) (layers : List ℤ) → layers ≡ replicate n (pos 1) → length (sets 0) ≡ n → ((v : ℕ) → v < n → has (sets 0) v ≡ false) →
    IsNumbered n sets layers 1
numbers_begin n sets layers same full none =
    let long : length layers ≡ n = ap length same ∙ length-replicate n (pos 1) in
    let one : (v : ℕ) → v < n → at_arc layers v ≡ pos 1 = λ v low. ap (λ l. at_arc l v) same ∙ one_at n v low in
    record {
      full = long;
      low = λ v low. let e = one v low in omega (arith, ints, e);
      high = λ v low. let e = one v low in omega (arith, ints, e);
      before_is = λ j low.
          let e : 0 ≡ j = omega (arith, low) in
          subst (λ i. before layers (suc i) ≡ sets i) e
          (same_places (before layers 1) (sets 0) n (before_length layers 1 ∙ long) full
          (λ v h.
          has_map (λ number. int_lt number (pos 1)) layers v (omega (arith, h, long))
          ∙ less_false (at_arc layers v) (pos 1) (let e = one v h in omega (arith, ints, e)) ∙ sym (none v h)));
    }

-- the elements outside the next set get the next number
pub numbers_more : (n : ℕ) (sets : ℕ → List Bool) (layers layers' : List ℤ) (test : ℕ → Bool) (count : ℕ) → IsNumbered n sets layers count → length (sets count) ≡ n →
    ((v : ℕ) → v < n → has (sets count) v ≡ not (test v)) → ((j : ℕ) → j < count → IsContained (sets j) (sets count)) → IsPut test (pos (suc count)) layers layers' →
    IsNumbered n sets layers' (suc count)
numbers_more n sets layers layers' test count m wide told nested put =
    let full = m.full in
    let long : length layers' ≡ n = put.full ∙ full in
    let off : (v : ℕ) → v < n → test v ≡ false → at_arc layers' v ≡ at_arc layers v = λ v low e. put.kept v (omega (arith, low, full)) e in
    let on : (v : ℕ) → v < n → test v ≡ true → at_arc layers' v ≡ pos (suc count) = λ v low e. put.put v (omega (arith, low, full)) e in
    let new_at : (j v : ℕ) → v < n → has (before layers' (suc j)) v ≡ int_lt (at_arc layers' v) (pos (suc j)) =
    λ j v low. has_map (λ number. int_lt number (pos (suc j))) layers' v (omega (arith, low, long)) in
    let old_at : (j v : ℕ) → v < n → has (before layers (suc j)) v ≡ int_lt (at_arc layers v) (pos (suc j)) =
    λ j v low. has_map (λ number. int_lt number (pos (suc j))) layers v (omega (arith, low, full)) in
    record {
      full = long;
      low = λ v low. elim (cases_Bool (test v)) [
        | inl e ↦ let a = on v low e in omega (arith, ints, a)
        | inr e ↦ let a = off v low e in let b = m.low v low in omega (arith, ints, a, b)
      ];
      high = λ v low. elim (cases_Bool (test v)) [
        | inl e ↦ let a = on v low e in omega (arith, ints, a)
        | inr e ↦ let a = off v low e in let b = m.high v low in omega (arith, ints, a, b)
      ];
      before_is = λ j low. elim (cases_lt j count) [
        | inl less ↦
            let here = m.before_is j less in
            same_places (before layers' (suc j)) (before layers (suc j)) n (before_length layers' (suc j) ∙ long) (before_length layers (suc j) ∙ full)
            (λ v h. elim (cases_Bool (test v)) [
              | inr e ↦ new_at j v h ∙ ap (λ x. int_lt x (pos (suc j))) (off v h e) ∙ sym (old_at j v h)
              | inl e ↦
                  let a = on v h e in
                  let out : has (sets count) v ≡ false = told v h ∙ ap not e in
                  let none = false_from_ne_true (has (sets j) v) (λ held. both_ways _ out (nested j less v held)) in
                  new_at j v h ∙ less_false (at_arc layers' v) (pos (suc j)) (omega (arith, ints, a, less)) ∙ sym (ap (λ l. has l v) here ∙ none)
            ])
            ∙ here
        | inr most ↦
            let same : count ≡ j = omega (arith, low, most) in
            subst (λ i. before layers' (suc i) ≡ sets i) same
            (same_places (before layers' (suc count)) (sets count) n (before_length layers' (suc count) ∙ long) wide
            (λ v h. elim (cases_Bool (test v)) [
              | inl e ↦
                  let a = on v h e in
                  new_at count v h ∙ less_false (at_arc layers' v) (pos (suc count)) (omega (arith, ints, a)) ∙ sym (told v h ∙ ap not e)
              | inr e ↦
                  let a = off v h e in
                  let b = m.high v h in
                  new_at count v h ∙ less_true (at_arc layers' v) (pos (suc count)) (omega (arith, ints, a, b)) ∙ sym (told v h ∙ ap not e)
            ]))
      ];
    }

-- sets that grow from each to the next
pub grown : (sets : ℕ → List Bool) (count : ℕ) → ((i : ℕ) → suc i < count → IsContained (sets i) (sets (suc i))) → (k j : ℕ) → j < k → k < count → IsContained (sets j) (sets k)
grown sets count each zero j low within v h = absurd (omega (arith, low))
grown sets count each (suc k) j low within v h = elim (cases_lt j k) [
  | inl less ↦ each k within v (grown sets count each k j less (omega (arith, within)) v h)
  | inr most ↦ let same : j ≡ k = omega (arith, low, most) in each k within v (subst (λ i. has (sets i) v ≡ true) same h)
]
