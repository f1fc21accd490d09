-- What is left of prices and gains when charges are taken from them, need by need.
use Rattle.std.proofs.Common.{◌≡◌, ℕ, zero, suc, ◌+◌, ◌*◌, ◌^◌, ◌<◌, ◌≤◌, List, [], ◌∷◌, length, get_or, set, take, refl, Bool, true, false, cond, eqb, arith, ap, sym, ◌∙◌, inl, inr, add-one}
use Rattle.std.specs.Prelude.{ℤ, ◌+ℤ◌, ◌-ℤ◌, ◌*ℤ◌, ◌≤ℤ◌, ◌<ℤ◌, pos, neg_ℤ, map, ◌==◌}
use Rattle.std.proofs.lemmas.Int.{ints}
use Rattle.std.proofs.lemmas.Bool.{cases_eq, eq-eqb, ne_eqb}
use Rattle.std.proofs.lemmas.List.{length-set, get_or-set_same, get_or-set_other}
use Rattle.pf_model.specs.Cut.{sum_where, at_arc}
use Rattle.pf_model.specs.Fraction.{Fraction}
use Rattle.pf_model.proofs.Sums.{sum_where_more, sum_all}
use Rattle.pf_select.specs.Problem.{SelectionProblem, IsSelectionProblem, product_at, part_at}
use Rattle.pf_select.specs.Dropping.{HasSlacks, IsScaled, ArePlaces, IsTaken}
use Rattle.pf_select.specs.Tests.{AreSizes}
use Rattle.pf_model.proofs.Facts.{raised_here, raised_there}

-- numbers of the code as those of the definitions
pub at_pos : (xs : List ℕ) (i : ℕ) → at_arc (map pos xs) i ≡ pos (get_or xs i 0)
at_pos [] i = refl
at_pos (x ∷ xs) zero = refl
at_pos (x ∷ xs) (suc i) = at_pos xs i

pub length_pos : (xs : List ℕ) → length (map pos xs) ≡ length xs
length_pos [] = refl
length_pos (x ∷ xs) = ap suc (length_pos xs)

-- the sum of the first charges with this end
record IsSmallSum (k : ℕ) (sum : ℤ) : Type 0 where
  pub low : pos 0 ≤ℤ sum
  pub high : sum ≤ℤ pos (k * 2 ^ 104)

small_step : (here : Bool) (k : ℕ) (old x new : ℤ) → IsSmallSum k old → pos 0 ≤ℤ x → x <ℤ pos (2 ^ 104) → new ≡ old +ℤ cond here x (pos 0) → IsSmallSum (suc k) new
small_step true k old x new s l h e = let a = s.low in let b = s.high in record { low = omega (arith, ints); high = omega (arith, ints) }
small_step false k old x new s l h e = let a = s.low in let b = s.high in record { low = omega (arith, ints); high = omega (arith, ints) }

first_sum : (test : ℕ × ℕ → Bool) (needs : List (ℕ × ℕ)) (charges : List ℤ) → AreSizes charges (length charges) → length charges ≡ length needs →
    (k : ℕ) → k ≤ length needs → IsSmallSum k (sum_where test (take k needs) (take k charges))
first_sum test needs charges s full zero low = record { low = omega (arith, ints); high = omega (arith, ints) }
first_sum test needs charges s full (suc k) low =
    let before = first_sum test needs charges s full k (omega (arith, low)) in
    let less : k < length charges = omega (arith, low, full) in
    small_step (test (get_or needs k (0, 0))) k _ (at_arc charges k) _ before (s.low k less) (s.high k less)
    (sym (ap (λ n. sum_where test (take n needs) (take n charges)) (add-one k)) ∙ sum_where_more test needs charges k full (omega (arith, low)))

-- one number is lowered
lowered_at : (sums : List ℤ) (u v : ℕ) (x : ℤ) → u < length sums → at_arc (set sums u (at_arc sums u -ℤ x)) v ≡ at_arc sums v -ℤ cond (eqb u v) x (pos 0)
lowered_at sums u v x low = elim (cases_eq v u) [
  | inl same ↦ rw (same, get_or-set_same, eq-eqb u u refl) refl
  | inr other ↦ rw (get_or-set_other, ne_eqb u v (λ e. other (sym e))) (omega (arith, ints))
]

pub taken_more : (key : ℕ × ℕ → ℕ) (needs : List (ℕ × ℕ)) (charges sums mid sums' : List ℤ) (k u : ℕ) (x : ℤ) → IsTaken key needs charges k sums mid →
    length charges ≡ length needs → k < length needs → u ≡ key (get_or needs k (0, 0)) → u < length sums →
    sums' ≡ set mid u (at_arc mid u -ℤ x) → x ≡ at_arc charges k → IsTaken key needs charges (k + 1) sums sums'
taken_more key needs charges sums mid sums' k u x t full low here there e same = record {
  full = ap length e ∙ length-set mid u _ ∙ t.full;
  each = λ v less.
      let wide = t.full in
      let before = t.each v less in
      let step = ap (λ l. at_arc l v) e ∙ lowered_at mid u v x (omega (arith, there, wide)) in
      let more = sum_where_more (λ need. key need == v) needs charges k full low in
      let turn : cond (eqb u v) x (pos 0) ≡ cond (eqb (key (get_or needs k (0, 0))) v) (at_arc charges k) (pos 0) =
      ap (λ n. cond (eqb n v) x (pos 0)) here ∙ ap (λ n. cond (eqb (key (get_or needs k (0, 0))) v) n (pos 0)) same in
      omega (arith, ints, before, step, more, turn);
}

pub record IsSmall (number : ℤ) : Type 0 where
  pub low : neg_ℤ (pos (2 ^ 120)) ≤ℤ number
  pub high : number ≤ℤ pos (2 ^ 120)

pub taken_small : (key : ℕ × ℕ → ℕ) (needs : List (ℕ × ℕ)) (charges sums sums' : List ℤ) (k u : ℕ) → IsTaken key needs charges k sums sums' →
    ArePlaces key needs sums → AreSizes charges (length charges) → length charges ≡ length needs → length needs ≤ 10000 → k < length needs →
    u ≡ key (get_or needs k (0, 0)) → IsSmall (at_arc sums' u)
taken_small key needs charges sums sums' k u t p s full few low here =
    rw here
    (let e = t.each (key (get_or needs k (0, 0))) (p.there k low) in
    let sum = first_sum (λ need. key need == key (get_or needs k (0, 0))) needs charges s full k (omega (arith, low)) in
    let a = sum.low in
    let b = sum.high in
    let l = p.low k low in
    let h = p.high k low in
    record { low = omega (arith, ints, e, a, b, l, h, few, low); high = omega (arith, ints, e, a, b, l, h, few, low) })

pub taken_all : (key : ℕ × ℕ → ℕ) (needs : List (ℕ × ℕ)) (charges sums sums' : List ℤ) → IsTaken key needs charges (length needs) sums sums' →
    length charges ≡ length needs → (v : ℕ) → v < length sums → at_arc sums' v ≡ at_arc sums v -ℤ sum_where (λ need. key need == v) needs charges
taken_all key needs charges sums sums' t full v low =
    let e = t.each v low in
    let all = sum_all (λ need. key need == v) needs charges (length needs) full (omega arith) in
    omega (arith, ints, e, all)

-- products of a number with costs or gains
pub scaled_more : (k : ℤ) (numbers : List ℕ) (sums sums' : List ℤ) (i : ℕ) (y y' : ℤ) → IsScaled k numbers i sums → i < length sums →
    sums' ≡ set sums i y' → y' ≡ y → y ≡ k *ℤ pos (get_or numbers i 0) → neg_ℤ (pos (2 ^ 107)) ≤ℤ y → y ≤ℤ pos (2 ^ 107) → IsScaled k numbers (i + 1) sums'
scaled_more k numbers sums sums' i y y' s low e stripped value l h = record {
  each = λ v less. elim (cases_eq v i) [
    | inl here ↦ rw here (raised_here sums sums' i y' low e ∙ stripped ∙ value)
    | inr other ↦ raised_there sums sums' i v y' other e ∙ s.each v (omega (arith, less, other))
  ];
  low = λ v less. elim (cases_eq v i) [
    | inl here ↦ rw here (let a = raised_here sums sums' i y' low e in omega (arith, ints, a, stripped, l))
    | inr other ↦ rw (raised_there sums sums' i v y' other e) (s.low v (omega (arith, less, other)))
  ];
  high = λ v less. elim (cases_eq v i) [
    | inl here ↦ rw here (let a = raised_here sums sums' i y' low e in omega (arith, ints, a, stripped, h))
    | inr other ↦ rw (raised_there sums sums' i v y' other e) (s.high v (omega (arith, less, other)))
  ];
}

pub small_numbers : (xs : List ℤ) (numbers : List ℕ) → xs ≡ map pos numbers → ((i : ℕ) → i < length xs → at_arc xs i ≤ℤ pos 1000000) →
    (i : ℕ) → i < length numbers → get_or numbers i 0 ≤ 1000000
small_numbers xs numbers e h i low =
    let full = ap length e ∙ length_pos numbers in
    let most = h i (omega (arith, full, low)) in
    let here = ap (λ l. at_arc l i) e ∙ at_pos numbers i in
    omega (arith, ints, most, here)

-- from prices and gains
pub slacks_are : (p : SelectionProblem) (x : Fraction) (charges parts parts' products products' : List ℤ) (costs gains : List ℕ) (k k' : ℤ) →
    k ≡ x.p → k' ≡ x.q → p.costs ≡ map pos costs → p.gains ≡ map pos gains → length charges ≡ length p.needs → length p.costs ≤ length parts → length p.gains ≤ length products →
    IsScaled k costs (length costs) parts → IsScaled k' gains (length gains) products →
    IsTaken (λ need. need.1) p.needs charges (length p.needs) parts parts' → IsTaken (λ need. need.0) p.needs charges (length p.needs) products products' →
    HasSlacks p x charges parts' products'
slacks_are p x charges parts parts' products products' costs gains k k' is is' c g full wide wide' s s' t t' = record {
  parts = λ i low.
      let less : i < length costs = let e = ap length c ∙ length_pos costs in omega (arith, e, low) in
      let a = taken_all (λ need. need.1) p.needs charges parts parts' t full i (omega (arith, low, wide)) in
      let b = s.each i less ∙ ap (λ n. n *ℤ pos (get_or costs i 0)) is ∙ ap (λ n. x.p *ℤ n) (sym (at_pos costs i) ∙ sym (ap (λ l. at_arc l i) c)) in
      omega (arith, ints, a, b);
  products = λ j low.
      let less : j < length gains = let e = ap length g ∙ length_pos gains in omega (arith, e, low) in
      let a = taken_all (λ need. need.0) p.needs charges products products' t' full j (omega (arith, low, wide')) in
      let b = s'.each j less ∙ ap (λ n. n *ℤ pos (get_or gains j 0)) is' ∙ ap (λ n. x.q *ℤ n) (sym (at_pos gains j) ∙ sym (ap (λ l. at_arc l j) g)) in
      omega (arith, ints, a, b);
}

pub places_are : (key : ℕ × ℕ → ℕ) (needs : List (ℕ × ℕ)) (k : ℤ) (numbers : List ℕ) (sums : List ℤ) → IsScaled k numbers (length numbers) sums →
    length numbers ≤ length sums → ((i : ℕ) → i < length needs → key (get_or needs i (0, 0)) < length numbers) → ArePlaces key needs sums
places_are key needs k numbers sums s wide h = record {
  there = λ i low. let less = h i low in omega (arith, less, wide);
  low = λ i low. s.low (key (get_or needs i (0, 0))) (h i low);
  high = λ i low. s.high (key (get_or needs i (0, 0))) (h i low);
}

pub product_places : (p : SelectionProblem) (needs : List (ℕ × ℕ)) (gains : List ℕ) → IsSelectionProblem p → needs ≡ p.needs → p.gains ≡ map pos gains →
    (i : ℕ) → i < length needs → (get_or needs i (0, 0)).0 < length gains
product_places p needs gains problem e g i low =
    let full = ap length g ∙ length_pos gains in
    let wide = ap length e in
    let h = problem.product i (omega (arith, wide, low)) in
    let same : (get_or needs i (0, 0)).0 ≡ product_at p i = ap (λ (l : List (ℕ × ℕ)). (get_or l i (0, 0)).0) e in
    omega (arith, h, full, same)

pub part_places : (p : SelectionProblem) (needs : List (ℕ × ℕ)) (costs : List ℕ) → IsSelectionProblem p → needs ≡ p.needs → p.costs ≡ map pos costs →
    (i : ℕ) → i < length needs → (get_or needs i (0, 0)).1 < length costs
part_places p needs costs problem e g i low =
    let full = ap length g ∙ length_pos costs in
    let wide = ap length e in
    let h = problem.part i (omega (arith, wide, low)) in
    let same : (get_or needs i (0, 0)).1 ≡ part_at p i = ap (λ (l : List (ℕ × ℕ)). (get_or l i (0, 0)).1) e in
    omega (arith, h, full, same)
