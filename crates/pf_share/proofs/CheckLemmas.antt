-- The steps of the test of shares.
use Rattle.std.proofs.Common.{◌≡◌, ◌≢◌, ℕ, ◌+◌, ◌*◌, ◌^◌, ◌<◌, ◌≤◌, List, length, get_or, set, map, refl, Bool, true, false, cond, not, ◌&&◌, eqb, arith, ap, sym, ◌∙◌, inl, inr}
use Rattle.std.specs.Prelude.{ℤ, ◌+ℤ◌, ◌*ℤ◌, ◌≤ℤ◌, pos, neg_ℤ, ◌==◌}
use Rattle.std.proofs.lemmas.Int.{ints}
use Rattle.std.proofs.lemmas.Bool.{cases_eq, ne_eqb}
use Rattle.std.proofs.lemmas.List.{length-map, get_or_default, get_or-set_same, get_or-set_other}
use Rattle.pf_model.specs.Cut.{at_arc}
use Rattle.pf_model.proofs.Integers.{add_mul}
use Rattle.pf_model.proofs.Sums.{sum_where_more, sum_all}
use Rattle.pf_frame.proofs.Balances.{raised, raised_length}
use Rattle.pf_share.specs.Problem.{ShareProblem, tail_of, head_of}
use Rattle.pf_share.specs.Certificate.{SharesAnswer, node_level, is_lower}
use Rattle.pf_share.specs.Tests.{whole_of, brought, AreOwn, first_entering, AreFirstBalances, AreBalances, AreKept, AreZero}
use Rattle.pf_model.proofs.Facts.{number_at}

pub length_numbers : (numbers : List ℕ) → length (map pos numbers) ≡ length numbers
length_numbers numbers = length-map numbers pos

pub high_number : (numbers : List ℕ) (i y bound : ℕ) → i < length numbers → y ≡ get_or numbers i y → at_arc (map pos numbers) i ≤ℤ pos bound → y ≤ bound
high_number numbers i y bound low e h =
    let a = number_at numbers i low in
    let b = e ∙ get_or_default numbers i y 0 low in
    omega (arith, ints, a, b, h)

-- the share of each node, one after the other
own_at : (sums : List ℤ) (v k : ℕ) (y : ℤ) → v ≢ k → at_arc (set sums v y) k ≡ at_arc sums k
own_at sums v k y ne = let other : k ≢ v = λ e. ne (sym e) in rw get_or-set_other refl

pub own_more : (p : ShareProblem) (a : SharesAnswer) (v : ℕ) (sums sums' : List ℤ) (y x : ℤ) → AreOwn p a v sums → v < length sums → sums' ≡ set sums v y → y ≡ neg_ℤ x →
    x ≡ (node_level a.levels a.groups v).p *ℤ at_arc p.weights v → neg_ℤ (pos (2 ^ 103)) ≤ℤ x → x ≤ℤ pos (2 ^ 103) → AreOwn p a (v + 1) sums'
own_more p a v sums sums' y x h low e turned value least most =
    let here : at_arc sums' v ≡ y = rw (e, get_or-set_same) refl in
    let beside : (k : ℕ) → v ≢ k → at_arc sums' k ≡ at_arc sums k = λ k ne. ap (λ l. at_arc l k) e ∙ own_at sums v k y ne in
    record {
      each = λ k less. elim (cases_eq v k) [
        | inl same ↦ rw (← same) (here ∙ turned ∙ ap neg_ℤ value)
        | inr other ↦ beside k other ∙ h.each k (omega (arith, less, other))
      ];
      low = λ k less. elim (cases_eq v k) [
        | inl same ↦ rw (← same) (omega (arith, ints, here, turned, least, most))
        | inr other ↦ (let b = beside k other in let l = h.low k (omega (arith, less, other)) in omega (arith, ints, b, l))
      ];
      high = λ k less. elim (cases_eq v k) [
        | inl same ↦ rw (← same) (omega (arith, ints, here, turned, least, most))
        | inr other ↦ (let b = beside k other in let l = h.high k (omega (arith, less, other)) in omega (arith, ints, b, l))
      ];
    }

-- one arc more
enter_step : (here lower : Bool) (s t s' t' number c q : ℤ) → s' ≡ s +ℤ cond (here && not lower) number (pos 0) → t' ≡ t +ℤ cond (here && lower) c (pos 0) →
    s' +ℤ (t' *ℤ q) ≡ (s +ℤ (t *ℤ q)) +ℤ cond here (cond lower (c *ℤ q) number) (pos 0)
enter_step true true s t s' t' number c q e f = let m = ap (λ n. n *ℤ q) f ∙ add_mul t c q in omega (arith, ints, e, m)
enter_step true false s t s' t' number c q e f =
    let m = ap (λ n. n *ℤ q) f ∙ add_mul t (pos 0) q in
    let none : pos 0 *ℤ q ≡ pos 0 = omega (arith, ints) in
    omega (arith, ints, e, m, none)
enter_step false true s t s' t' number c q e f =
    let m = ap (λ n. n *ℤ q) f ∙ add_mul t (pos 0) q in
    let none : pos 0 *ℤ q ≡ pos 0 = omega (arith, ints) in
    omega (arith, ints, e, m, none)
enter_step false false s t s' t' number c q e f =
    let m = ap (λ n. n *ℤ q) f ∙ add_mul t (pos 0) q in
    let none : pos 0 *ℤ q ≡ pos 0 = omega (arith, ints) in
    omega (arith, ints, e, m, none)

-- the arc brings the same to the node, where it is the head
at_head : (p : ShareProblem) (a : SharesAnswer) (k v : ℕ) →
    cond (eqb (head_of p k) v) (cond (is_lower a.levels a.groups (tail_of p k) v) (whole_of p a k v) (at_arc a.flow k)) (pos 0)
    ≡ cond (eqb (head_of p k) v) (brought p a k) (pos 0)
at_head p a k v = elim (cases_eq (head_of p k) v) [
  | inl same ↦ ap (λ n. cond (eqb (head_of p k) v) (cond (is_lower a.levels a.groups (tail_of p k) n) (whole_of p a k n) (at_arc a.flow k)) (pos 0)) (sym same)
  | inr other ↦ (let off = ne_eqb (head_of p k) v other in rw off refl)
]

entering_more : (p : ShareProblem) (a : SharesAnswer) (k v : ℕ) → length a.flow ≡ length p.ends → length p.capacities ≡ length p.ends → k < length p.ends →
    first_entering p a (k + 1) v ≡ first_entering p a k v +ℤ cond (eqb (head_of p k) v) (brought p a k) (pos 0)
entering_more p a k v full wide low =
    let s = sum_where_more (λ arc. (arc.1 == v) && not (is_lower a.levels a.groups arc.0 v)) p.ends a.flow k full low in
    let t = sum_where_more (λ arc. (arc.1 == v) && is_lower a.levels a.groups arc.0 v) p.ends p.capacities k wide low in
    let e = enter_step (eqb (head_of p k) v) (is_lower a.levels a.groups (tail_of p k) v) _ _ _ _ (at_arc a.flow k) (at_arc p.capacities k)
    (node_level a.levels a.groups v).q s t in
    omega (arith, ints, e, at_head p a k v)

negated : (here : Bool) (x y : ℤ) → y ≡ neg_ℤ x → cond here y (pos 0) ≡ neg_ℤ (cond here x (pos 0))
negated true x y e = e
negated false x y e = refl

-- bounds
bound_step : (p q : Bool) (k : ℕ) (a b x y : ℤ) → b ≡ (a +ℤ cond p x (pos 0)) +ℤ cond q y (pos 0) → neg_ℤ (pos (2 ^ 104)) ≤ℤ x → x ≤ℤ pos (2 ^ 104) →
    neg_ℤ (pos (2 ^ 104)) ≤ℤ y → y ≤ℤ pos (2 ^ 104) → neg_ℤ (pos ((k + 1) * 2 ^ 105)) ≤ℤ a → a ≤ℤ pos ((k + 1) * 2 ^ 105) →
    (neg_ℤ (pos (((k + 1) + 1) * 2 ^ 105)) ≤ℤ b) × (b ≤ℤ pos (((k + 1) + 1) * 2 ^ 105))
bound_step true true k a b x y e l h m n low high = (omega (arith, ints), omega (arith, ints))
bound_step true false k a b x y e l h m n low high = (omega (arith, ints), omega (arith, ints))
bound_step false true k a b x y e l h m n low high = (omega (arith, ints), omega (arith, ints))
bound_step false false k a b x y e l h m n low high = (omega (arith, ints), omega (arith, ints))

one_bound : (p : Bool) (k : ℕ) (a b x : ℤ) → b ≡ a +ℤ cond p x (pos 0) → k ≤ 10000 → neg_ℤ (pos (2 ^ 104)) ≤ℤ x → x ≤ℤ pos (2 ^ 104) →
    neg_ℤ (pos ((k + 1) * 2 ^ 105)) ≤ℤ a → a ≤ℤ pos ((k + 1) * 2 ^ 105) → (neg_ℤ (pos (2 ^ 120)) ≤ℤ b) × (b ≤ℤ pos (2 ^ 120))
one_bound true k a b x e few l h low high = (omega (arith, ints), omega (arith, ints))
one_bound false k a b x e few l h low high = (omega (arith, ints), omega (arith, ints))

-- a raised number keeps within a bound
pub within_bound : (k : ℕ) (x : ℤ) → k ≤ 10000 → neg_ℤ (pos ((k + 1) * 2 ^ 105)) ≤ℤ x → x ≤ℤ pos ((k + 1) * 2 ^ 105) →
    (neg_ℤ (pos (2 ^ 120)) ≤ℤ x) × (x ≤ℤ pos (2 ^ 120))
within_bound k x few low high = (omega (arith, ints), omega (arith, ints))

pub raised_bound : (k u w : ℕ) (sums sums' : List ℤ) (x : ℤ) → sums' ≡ set sums u (at_arc sums u +ℤ x) → u < length sums → k ≤ 10000 →
    neg_ℤ (pos (2 ^ 104)) ≤ℤ x → x ≤ℤ pos (2 ^ 104) → neg_ℤ (pos ((k + 1) * 2 ^ 105)) ≤ℤ at_arc sums w → at_arc sums w ≤ℤ pos ((k + 1) * 2 ^ 105) →
    (neg_ℤ (pos (2 ^ 120)) ≤ℤ at_arc sums' w) × (at_arc sums' w ≤ℤ pos (2 ^ 120))
raised_bound k u w sums sums' x e low few l h least most =
    one_bound (eqb u w) k (at_arc sums w) (at_arc sums' w) x (raised sums sums' u w x e low) few l h least most

pub balances_begin : (p : ShareProblem) (a : SharesAnswer) (sums : List ℤ) → AreOwn p a p.nodes sums → p.nodes ≤ length sums → AreFirstBalances p a 0 sums
balances_begin p a sums own wide = record {
  places = wide;
  each = λ v low.
      let e = own.each v low in
      let none : pos 0 *ℤ (node_level a.levels a.groups v).q ≡ pos 0 = omega (arith, ints) in
      omega (arith, ints, e, none);
  low = λ v low. let l = own.low v low in omega (arith, ints, l);
  high = λ v low. let l = own.high v low in omega (arith, ints, l);
}

pub balances_more : (p : ShareProblem) (a : SharesAnswer) (k u w : ℕ) (sums sums' sums'' : List ℤ) (x y z : ℤ) → AreFirstBalances p a k sums →
    length a.flow ≡ length p.ends → length p.capacities ≡ length p.ends → k < length p.ends → u ≡ tail_of p k → w ≡ head_of p k → u < p.nodes → w < p.nodes →
    sums' ≡ set sums u (at_arc sums u +ℤ x) → sums'' ≡ set sums' w (at_arc sums' w +ℤ y) → x ≡ at_arc a.flow k → y ≡ neg_ℤ z → z ≡ brought p a k →
    neg_ℤ (pos (2 ^ 104)) ≤ℤ x → x ≤ℤ pos (2 ^ 104) → neg_ℤ (pos (2 ^ 104)) ≤ℤ z → z ≤ℤ pos (2 ^ 104) → AreFirstBalances p a (k + 1) sums''
balances_more p a k u w sums sums' sums'' x y z b full wide low tail head low_u low_w e e' is turned value xl xh zl zh =
    let places = b.places in
    let l = raised_length sums sums' u _ e in
    let l' = raised_length sums' sums'' w _ e' in
    let step : (v : ℕ) → at_arc sums'' v ≡ (at_arc sums v +ℤ cond (eqb u v) x (pos 0)) +ℤ cond (eqb w v) y (pos 0) = λ v.
    let here = raised sums sums' u v x e (omega (arith, low_u, places)) in
    let there = raised sums' sums'' w v y e' (omega (arith, low_w, places, l)) in
    omega (arith, ints, here, there) in
    let yl : neg_ℤ (pos (2 ^ 104)) ≤ℤ y = omega (arith, ints, turned, zl, zh) in
    let yh : y ≤ℤ pos (2 ^ 104) = omega (arith, ints, turned, zl, zh) in
    record {
      places = omega (arith, places, l, l');
      each = λ v small.
          let s = step v in
          let before = b.each v small in
          let out = sum_where_more (λ arc. arc.0 == v) p.ends a.flow k full low in
          let into = entering_more p a k v full wide low in
          let out_here : cond (eqb u v) x (pos 0) ≡ cond (eqb (tail_of p k) v) (at_arc a.flow k) (pos 0) =
          ap (λ n. cond (eqb n v) x (pos 0)) tail ∙ ap (λ n. cond (eqb (tail_of p k) v) n (pos 0)) is in
          let in_here : cond (eqb w v) y (pos 0) ≡ neg_ℤ (cond (eqb (head_of p k) v) (brought p a k) (pos 0)) =
          ap (λ n. cond (eqb n v) y (pos 0)) head ∙ negated (eqb (head_of p k) v) (brought p a k) y (turned ∙ ap neg_ℤ value) in
          omega (arith, ints, s, before, out, into, out_here, in_here);
      low = λ v small. (bound_step (eqb u v) (eqb w v) k (at_arc sums v) (at_arc sums'' v) x y (step v) xl xh yl yh (b.low v small) (b.high v small)).0;
      high = λ v small. (bound_step (eqb u v) (eqb w v) k (at_arc sums v) (at_arc sums'' v) x y (step v) xl xh yl yh (b.low v small) (b.high v small)).1;
    }

pub balances_all : (p : ShareProblem) (a : SharesAnswer) (k : ℕ) (sums : List ℤ) → AreFirstBalances p a k sums → length a.flow ≡ length p.ends →
    length p.capacities ≡ length p.ends → length p.ends ≤ k → AreBalances p a sums
balances_all p a k sums b full wide done = record {
  each = λ v low.
      let s = b.each v low in
      let out = sum_all (λ arc. arc.0 == v) p.ends a.flow k full done in
      let first = sum_all (λ arc. (arc.1 == v) && not (is_lower a.levels a.groups arc.0 v)) p.ends a.flow k full done in
      let second = sum_all (λ arc. (arc.1 == v) && is_lower a.levels a.groups arc.0 v) p.ends p.capacities k wide done in
      let turn = ap (λ n. n *ℤ (node_level a.levels a.groups v).q) second in
      omega (arith, ints, s, out, first, turn);
}

-- from sums that are 0, and back
pub kept_from : (p : ShareProblem) (a : SharesAnswer) (sums : List ℤ) → AreBalances p a sums → AreZero p.sink sums p.nodes → AreKept p a
kept_from p a sums b z = record {
  each = λ v low apart. let e = b.each v low in let f = z.each v low apart in omega (arith, ints, e, f);
}

pub zero_from : (p : ShareProblem) (a : SharesAnswer) (sums : List ℤ) → AreBalances p a sums → AreKept p a → AreZero p.sink sums p.nodes
zero_from p a sums b k = record {
  each = λ v low apart. let e = b.each v low in let f = k.each v low apart in omega (arith, ints, e, f);
}
