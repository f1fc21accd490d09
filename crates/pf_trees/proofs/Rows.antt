-- The table of cuts as a row is added to another, as an edge takes a slot, and at first.
use Rattle.std.proofs.Common.{◌≡◌, ◌≢◌, ℕ, ◌+◌, ◌*◌, ◌%◌, ◌<◌, ◌≤◌, List, length, set, refl, Bool, true, false, not, ◌&&◌, ltb, arith, ap, sym, ◌∙◌, inl, inr}
use Rattle.std.specs.Prelude.{◌==◌}
use Rattle.std.proofs.Math.Bool.{beq}
use Rattle.std.proofs.lemmas.Bool.{cases_eq, eq-eqb, ne_eqb, cases_lt}
use Rattle.std.proofs.lemmas.Bool.Decides.{nat_tests}
use Rattle.std.proofs.lemmas.List.{get_or-set_same, get_or-set_other}
use Rattle.std.proofs.lemmas.Nat.{same_from_place, mul-le}
use Rattle.pf_trees.specs.Sides.{differ, separates, cut_at, exchanged, first_cut, IsReduced}
use Rattle.pf_trees.proofs.Bases.{crosses_same}

pub differ_is : (a b : Bool) → not (beq a b) ≡ differ a b
differ_is true true = refl
differ_is true false = refl
differ_is false true = refl
differ_is false false = refl

-- one write into the table
write_here : (cuts : List Bool) (n s v : ℕ) (b : Bool) → s * n + v < length cuts → cut_at (set cuts (s * n + v) b) n s v ≡ b
write_here cuts n s v b h = rw get_or-set_same refl

write_other : (cuts : List Bool) (n s v r u : ℕ) (b : Bool) → v < n → u < n → ((r ≡ s) × (u ≡ v) → ⊥) → cut_at (set cuts (s * n + v) b) n r u ≡ cut_at cuts n r u
write_other cuts n s v r u b hv hu apart =
    let ne : r * n + u ≢ s * n + v = λ e. apart (same_from_place r u s v n hu hv e) in
    rw get_or-set_other refl

-- the first v places of row s have those of row t added
pub record IsAdding (old : List Bool) (n s t v : ℕ) (cuts : List Bool) : Type 0 where
  pub is : (r u : ℕ) → u < n → cut_at cuts n r u ≡ differ (cut_at old n r u) (cut_at old n t u && ((r == s) && ltb u v))

adding_tests : (a b : Bool) (r s u v : ℕ) → ((r ≡ s) × (u ≡ v) → ⊥) → differ a (b && ((r == s) && ltb u v)) ≡ differ a (b && ((r == s) && ltb u (v + 1)))
adding_tests a b r s u v h = ap (λ c. differ a (b && c)) (adding_same r s u v h)
  where
    adding_same : (r s u v : ℕ) → ((r ≡ s) × (u ≡ v) → ⊥) → ((r == s) && ltb u v) ≡ ((r == s) && ltb u (v + 1))
    adding_same r s u v h = elim (cases_eq r s) [
      | inl e ↦ let ne : u ≢ v = λ f. h (e, f) in grind (arith, nat_tests)
      | inr ne ↦ rw (ne_eqb r s ne) refl
    ]

adding_here : (s v : ℕ) (a b : Bool) → differ a b ≡ differ a (b && ((s == s) && ltb v (v + 1)))
adding_here s v a b = ap (differ a) (adding_both s v b)
  where
    adding_both : (s v : ℕ) (b : Bool) → b ≡ (b && ((s == s) && ltb v (v + 1)))
    adding_both s v true = grind (arith, nat_tests)
    adding_both s v false = refl

not_yet : (s t v : ℕ) (a b : Bool) → differ a (b && ((s == t) && ltb v v)) ≡ a
not_yet s t v true true = grind (arith, nat_tests)
not_yet s t v true false = grind (arith, nat_tests)
not_yet s t v false true = grind (arith, nat_tests)
not_yet s t v false false = grind (arith, nat_tests)

pub adding_more : (old : List Bool) (n s t v : ℕ) (cuts : List Bool) (b : Bool) → s * n + n ≤ length cuts → v < n → IsAdding old n s t v cuts →
    b ≡ differ (cut_at cuts n s v) (cut_at cuts n t v) → t ≢ s → IsAdding old n s t (v + 1) (set cuts (s * n + v) b)
adding_more old n s t v cuts b room hv a e apart = record {
  is = λ r u hu. elim (cases_eq r s) [
    | inl er ↦ elim (cases_eq u v) [
      | inl eu ↦
          let now : cut_at cuts n s v ≡ cut_at old n s v = a.is s v hv ∙ not_yet s s v (cut_at old n s v) (cut_at old n t v) in
          let other : cut_at cuts n t v ≡ cut_at old n t v = a.is t v hv ∙ not_yet t s v (cut_at old n t v) (cut_at old n t v) in
          let place : s * n + v < length cuts = omega arith in
          rw (er, eu) (write_here cuts n s v b place ∙ e ∙ ap (λ x. differ x (cut_at cuts n t v)) now ∙ ap (differ (cut_at old n s v)) other
          ∙ adding_here s v (cut_at old n s v) (cut_at old n t v))
      | inr ne ↦ write_other cuts n s v r u b hv hu (λ p. ne p.1) ∙ a.is r u hu ∙ adding_tests _ _ r s u v (λ p. ne p.1)
    ]
    | inr ne ↦ write_other cuts n s v r u b hv hu (λ p. ne p.0) ∙ a.is r u hu ∙ adding_tests _ _ r s u v (λ p. ne p.0)
  ];
}

-- the slots from lo to below s have been seen as the edge takes slot t
pub record IsExchanging (old : List Bool) (n lo t : ℕ) (edge : ℕ × ℕ) (s : ℕ) (cuts : List Bool) : Type 0 where
  pub is : (r u : ℕ) → u < n → cut_at cuts n r u ≡ exchanged old n lo s t edge r u

no_add : (a b c t : Bool) → t ≡ false → a ≡ differ a (b && (t && c))
no_add a b c true e = absurd cc
no_add true true c false e = refl
no_add true false c false e = refl
no_add false true c false e = refl
no_add false false c false e = refl

between_less : (r lo s : ℕ) → s ≤ r → (not (ltb r lo) && ltb r s) ≡ false
between_less r lo s h = elim (cases_lt r lo) [
  | inl low ↦ grind (arith, nat_tests)
  | inr high ↦ grind (arith, nat_tests)
]

between_same : (r lo s : ℕ) → r ≢ s → (not (ltb r lo) && ltb r s) ≡ (not (ltb r lo) && ltb r (s + 1))
between_same r lo s ne = elim (cases_lt r lo) [
  | inl low ↦ grind (arith, nat_tests)
  | inr high ↦ grind (arith, nat_tests)
]

between_here : (lo s : ℕ) → lo ≤ s → (not (ltb s lo) && ltb s (s + 1)) ≡ true
between_here lo s h = grind (arith, nat_tests)

no_row : (a b c t : Bool) → t ≡ false → differ a (b && (t && c)) ≡ a
no_row a b c t e = sym (no_add a b c t e)

not_it : (a b c t : Bool) → differ a (b && (c && (not true && t))) ≡ a
not_it true true true t = refl
not_it true true false t = refl
not_it true false c t = refl
not_it false true true t = refl
not_it false true false t = refl
not_it false false c t = refl

-- neither the row s nor the row t has changed yet
row_s : (old : List Bool) (n lo t : ℕ) (edge : ℕ × ℕ) (s : ℕ) (cuts : List Bool) → IsExchanging old n lo t edge s cuts → (u : ℕ) → u < n → cut_at cuts n s u ≡ cut_at old n s u
row_s old n lo t edge s cuts x u h =
    x.is s u h ∙ no_row (cut_at old n s u) (cut_at old n t u) (not (s == t) && separates (cut_at old n s) edge) (not (ltb s lo) && ltb s s) (between_less s lo s (omega arith))

row_t : (old : List Bool) (n lo t : ℕ) (edge : ℕ × ℕ) (s : ℕ) (cuts : List Bool) → IsExchanging old n lo t edge s cuts → (u : ℕ) → u < n → cut_at cuts n t u ≡ cut_at old n t u
row_t old n lo t edge s cuts x u h =
    x.is t u h ∙ itself (cut_at old n t u) (cut_at old n t u) (not (ltb t lo) && ltb t s) (t == t) (separates (cut_at old n t) edge) (eq-eqb t t refl)
  where
    itself : (a b c d t : Bool) → d ≡ true → differ a (b && (c && (not d && t))) ≡ a
    itself a b c true t e = not_it a b c t
    itself a b c false t e = absurd cc

exchanging_here : (old : List Bool) (n lo t : ℕ) (edge : ℕ × ℕ) (s : ℕ) (cuts cuts' : List Bool) → lo ≤ s → edge.0 < n → edge.1 < n →
    IsExchanging old n lo t edge s cuts → IsReduced cuts n s t edge cuts' → (u : ℕ) → u < n → cut_at cuts' n s u ≡ exchanged old n lo (s + 1) t edge s u
exchanging_here old n lo t edge s cuts cuts' low first second x d u hu =
    let c : separates (cut_at cuts n s) edge ≡ separates (cut_at old n s) edge =
    crosses_same (cut_at cuts n s) (cut_at old n s) edge (row_s old n lo t edge s cuts x edge.0 first) (row_s old n lo t edge s cuts x edge.1 second) in
    d.is s u hu
    ∙ ap (λ a. differ a (cut_at cuts n t u && ((s == s) && (not (s == t) && separates (cut_at cuts n s) edge)))) (row_s old n lo t edge s cuts x u hu)
    ∙ ap (λ a. differ (cut_at old n s u) (a && ((s == s) && (not (s == t) && separates (cut_at cuts n s) edge)))) (row_t old n lo t edge s cuts x u hu)
    ∙ ap (λ a. differ (cut_at old n s u) (cut_at old n t u && ((s == s) && (not (s == t) && a)))) c
    ∙ ap (λ a. differ (cut_at old n s u) (cut_at old n t u && (a && (not (s == t) && separates (cut_at old n s) edge)))) (eq-eqb s s refl ∙ sym (between_here lo s low))

pub exchanging_more : (old : List Bool) (n lo t : ℕ) (edge : ℕ × ℕ) (s : ℕ) (cuts cuts' : List Bool) → lo ≤ s → edge.0 < n → edge.1 < n →
    IsExchanging old n lo t edge s cuts → IsReduced cuts n s t edge cuts' → IsExchanging old n lo t edge (s + 1) cuts'
exchanging_more old n lo t edge s cuts cuts' low first second x d = record {
  is = λ r u hu. elim (cases_eq r s) [
    | inl e ↦ rw e (exchanging_here old n lo t edge s cuts cuts' low first second x d u hu)
    | inr ne ↦
        d.is r u hu
        ∙ no_row (cut_at cuts n r u) (cut_at cuts n t u) (not (s == t) && separates (cut_at cuts n s) edge) (r == s) (ne_eqb r s ne)
        ∙ x.is r u hu
        ∙ ap (λ b. differ (cut_at old n r u) (cut_at old n t u && (b && (not (r == t) && separates (cut_at old n r) edge)))) (between_same r lo s ne)
  ];
}

-- the first t rows have been written at first
pub record IsBeginning (n width t : ℕ) (cuts : List Bool) : Type 0 where
  pub is : (r u : ℕ) → u < n → cut_at cuts n r u ≡ (ltb r t && first_cut width r u)

pub beginning_more : (n width t : ℕ) (cuts : List Bool) → t % width + 1 < n → t * n + n ≤ length cuts → IsBeginning n width t cuts →
    IsBeginning n width (t + 1) (set cuts (t * n + (t % width + 1)) true)
beginning_more n width t cuts low room b = record {
  is = λ r u hu. elim (cases_eq r t) [
    | inl er ↦ elim (cases_eq u (t % width + 1)) [
      | inl eu ↦
          let place : t * n + (t % width + 1) < length cuts = omega arith in
          rw (er, eu) (write_here cuts n t (t % width + 1) true place ∙ written t (t % width + 1))
      | inr ne ↦ write_other cuts n t (t % width + 1) r u true low hu (λ p. ne p.1) ∙ b.is r u hu ∙ ap (λ x. ltb x t && first_cut width x u) er ∙ beside t u (t % width + 1) ne
          ∙ ap (λ x. ltb x (t + 1) && first_cut width x u) (sym er)
    ]
    | inr ne ↦ write_other cuts n t (t % width + 1) r u true low hu (λ p. ne p.0) ∙ b.is r u hu ∙ ap (λ c. c && first_cut width r u) (same_test r t ne)
  ];
}
  where
    written : (t v : ℕ) → true ≡ (ltb t (t + 1) && (v == v))
    written t v = grind (arith, nat_tests)

    beside : (t u v : ℕ) → u ≢ v → (ltb t t && (u == v)) ≡ (ltb t (t + 1) && (u == v))
    beside t u v ne = grind (arith, nat_tests)

    same_test : (r t : ℕ) → r ≢ t → ltb r t ≡ ltb r (t + 1)
    same_test r t ne = grind (arith, nat_tests)

pub row_room : (r t n m : ℕ) → r < t → t * n ≤ m → r * n + n ≤ m
row_room r t n m h k = let e = mul-le (r + 1) n t n (omega arith) (omega arith) in let f : (r + 1) * n ≡ r * n + n = grind arith in omega (arith, e, f)
