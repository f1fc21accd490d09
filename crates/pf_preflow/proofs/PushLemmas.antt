-- What a preflow and its labels keep when an amount is pushed along one arc.
use Rattle.std.proofs.Common.{◌≡◌, ◌≢◌, ℕ, ◌+◌, ◌<◌, ◌≤◌, List, length, get_or, set, refl, Bool, true, false, cond, eqb, arith, ap, sym, ◌∙◌, inl, inr}
use Rattle.std.specs.Prelude.{ℤ, ◌+ℤ◌, ◌-ℤ◌, ◌≤ℤ◌, ◌<ℤ◌, pos, ◌⊎◌, ◌==◌}
use Rattle.std.proofs.lemmas.Int.{ints}
use Rattle.std.proofs.lemmas.Bool.{cases_eq, eq-eqb, ne_eqb, eqb-true}
use Rattle.std.proofs.lemmas.List.{length-set, get_or-set_same, get_or-set_other}
use Rattle.pf_model.proofs.Augment.{within_set}
use Rattle.pf_model.specs.Cut.{FlowNetwork, at_arc, tail_at, head_at}
use Rattle.pf_model.specs.Flow.{IsWithin, sum_out, sum_in}
use Rattle.pf_model.specs.Residual.{IsResidual, HasValidLabels}
use Rattle.pf_model.proofs.Augment.{sum_where_set}
use Rattle.pf_preflow.specs.Residual.{IsResidualArc}
use Rattle.pf_preflow.specs.State.{IsExcess, IsState, CanPush, pushed_flow, pushed_excess}

-- ---- within the capacities

at_set : (numbers : List ℤ) (i k : ℕ) (y : ℤ) → i < length numbers → at_arc (set numbers i y) k ≡ cond (eqb k i) y (at_arc numbers k)
at_set numbers i k y low = elim (cases_eq k i) [
  | inl same ↦
      let e : at_arc (set numbers i y) k ≡ y = rw (same, get_or-set_same) refl in
      let f = ap (λ b. cond b y (at_arc numbers k)) (eq-eqb k i same) in
      e ∙ sym f
  | inr other ↦
      let ne : k ≢ i = other in
      let e : at_arc (set numbers i y) k ≡ at_arc numbers k = rw get_or-set_other refl in
      let f = ap (λ b. cond b y (at_arc numbers k)) (ne_eqb k i other) in
      e ∙ sym f
]

pushed_within : (g : FlowNetwork) (flow excess : List ℤ) (v i : ℕ) (back : Bool) (amount : ℤ) → IsWithin g flow → i < length g.ends →
    CanPush g flow excess v i back amount → IsWithin g (pushed_flow flow i back amount)
pushed_within g flow excess v i true amount w low c =
    let a = w.low i low in
    let b = w.high i low in
    let d = c.some in
    let e = c.fits in
    within_set g flow i (at_arc flow i -ℤ amount) w low (omega (arith, ints, e)) (omega (arith, ints, b, d))
pushed_within g flow excess v i false amount w low c =
    let a = w.low i low in
    let b = w.high i low in
    let d = c.some in
    let e = c.fits in
    within_set g flow i (at_arc flow i +ℤ amount) w low (omega (arith, ints, a, d)) (omega (arith, ints, e))

-- ---- the excess

less_at : (numbers : List ℤ) (i k : ℕ) (d : ℤ) → i < length numbers →
    at_arc (set numbers i (at_arc numbers i -ℤ d)) k ≡ cond (eqb k i) (at_arc numbers k -ℤ d) (at_arc numbers k)
less_at numbers i k d low = elim (cases_eq k i) [
  | inl same ↦ at_set numbers i k (at_arc numbers i -ℤ d) low ∙ ap (λ j. cond (eqb k i) (at_arc numbers j -ℤ d) (at_arc numbers k)) (sym same)
  | inr other ↦ at_set numbers i k (at_arc numbers i -ℤ d) low ∙ rw (ne_eqb k i other) refl
]

more_at : (numbers : List ℤ) (i k : ℕ) (d : ℤ) → i < length numbers →
    at_arc (set numbers i (at_arc numbers i +ℤ d)) k ≡ cond (eqb k i) (at_arc numbers k +ℤ d) (at_arc numbers k)
more_at numbers i k d low = elim (cases_eq k i) [
  | inl same ↦ at_set numbers i k (at_arc numbers i +ℤ d) low ∙ ap (λ j. cond (eqb k i) (at_arc numbers j +ℤ d) (at_arc numbers k)) (sym same)
  | inr other ↦ at_set numbers i k (at_arc numbers i +ℤ d) low ∙ rw (ne_eqb k i other) refl
]

-- one node's excess after an amount was pushed from v to w
pub record Moved (excess after : List ℤ) (v w u : ℕ) (amount : ℤ) : Type 0 where
  pub between : ℤ
  pub first : between ≡ cond (eqb u v) (at_arc excess u -ℤ amount) (at_arc excess u)
  pub second : at_arc after u ≡ cond (eqb u w) (between +ℤ amount) between

pub moved : (excess : List ℤ) (v w u : ℕ) (amount : ℤ) → v < length excess → w < length excess → Moved excess (pushed_excess excess v w amount) v w u amount
moved excess v w u amount a b = record {
  between = at_arc (set excess v (at_arc excess v -ℤ amount)) u;
  first = less_at excess v u amount a;
  second = more_at (set excess v (at_arc excess v -ℤ amount)) w u amount (omega (arith, length-set excess v (at_arc excess v -ℤ amount), b));
}

pub excess_step : (into out into' out' a c x y z : ℤ) (from to : Bool) → x ≡ into -ℤ out → into' ≡ into +ℤ cond to c (pos 0) → out' ≡ out +ℤ cond from c (pos 0) → c ≡ a →
    y ≡ cond from (x -ℤ a) x → z ≡ cond to (y +ℤ a) y → z ≡ into' -ℤ out'
excess_step into out into' out' a c x y z true true h i o e p q = omega (arith, ints)
excess_step into out into' out' a c x y z true false h i o e p q = omega (arith, ints)
excess_step into out into' out' a c x y z false true h i o e p q = omega (arith, ints)
excess_step into out into' out' a c x y z false false h i o e p q = omega (arith, ints)

excess_back : (into out into' out' a c x y z : ℤ) (from to : Bool) → x ≡ into -ℤ out → into' ≡ into +ℤ cond from c (pos 0) → out' ≡ out +ℤ cond to c (pos 0) → c ≡ pos 0 -ℤ a →
    y ≡ cond from (x -ℤ a) x → z ≡ cond to (y +ℤ a) y → z ≡ into' -ℤ out'
excess_back into out into' out' a c x y z true true h i o e p q = omega (arith, ints)
excess_back into out into' out' a c x y z true false h i o e p q = omega (arith, ints)
excess_back into out into' out' a c x y z false true h i o e p q = omega (arith, ints)
excess_back into out into' out' a c x y z false false h i o e p q = omega (arith, ints)

eqb_sym : (x y : ℕ) → eqb x y ≡ eqb y x
eqb_sym x y = elim (cases_eq x y) [
  | inl same ↦ eq-eqb x y same ∙ sym (eq-eqb y x (sym same))
  | inr other ↦ ne_eqb x y other ∙ sym (ne_eqb y x (λ e. other (sym e)))
]

pub same_test : (base c : ℤ) (x y u : ℕ) (new : ℤ) → x ≡ y → new ≡ base +ℤ cond (eqb x u) c (pos 0) → new ≡ base +ℤ cond (eqb u y) c (pos 0)
same_test base c x y u new e h = h ∙ ap (λ b. base +ℤ cond b c (pos 0)) (ap (λ k. eqb k u) e ∙ eqb_sym y u)

pushed_excess_is : (g : FlowNetwork) (flow excess : List ℤ) (v w i : ℕ) (back : Bool) (amount : ℤ) → IsExcess g flow excess → length flow ≡ length g.ends →
    v < g.nodes → w < g.nodes → IsResidualArc g flow v w i back → IsExcess g (pushed_flow flow i back amount) (pushed_excess excess v w amount)
pushed_excess_is g flow excess v w i false amount s full a b along =
    let s_full = s.full in
    let o = along.forward refl in
    record {
      full = length-set (set excess v (at_arc excess v -ℤ amount)) w _ ∙ length-set excess v _ ∙ s.full;
      is = λ u low.
          let m = moved excess v w u amount (omega (arith, s_full, a)) (omega (arith, s_full, b)) in
          let into = sum_where_set (λ arc. arc.1 == u) g.ends flow i (at_arc flow i +ℤ amount) full along.in_range in
          let out = sum_where_set (λ arc. arc.0 == u) g.ends flow i (at_arc flow i +ℤ amount) full along.in_range in
          excess_step (sum_in g.ends flow u) (sum_out g.ends flow u) _ _ amount ((at_arc flow i +ℤ amount) -ℤ at_arc flow i) (at_arc excess u) m.between _ (eqb u v) (eqb u w)
          (s.is u low)
          (same_test _ _ _ w u _ o.to into) (same_test _ _ _ v u _ o.from out) (omega (arith, ints)) m.first m.second;
    }
pushed_excess_is g flow excess v w i true amount s full a b along =
    let s_full = s.full in
    let o = along.backward refl in
    record {
      full = length-set (set excess v (at_arc excess v -ℤ amount)) w _ ∙ length-set excess v _ ∙ s.full;
      is = λ u low.
          let m = moved excess v w u amount (omega (arith, s_full, a)) (omega (arith, s_full, b)) in
          let into = sum_where_set (λ arc. arc.1 == u) g.ends flow i (at_arc flow i -ℤ amount) full along.in_range in
          let out = sum_where_set (λ arc. arc.0 == u) g.ends flow i (at_arc flow i -ℤ amount) full along.in_range in
          excess_back (sum_in g.ends flow u) (sum_out g.ends flow u) _ _ amount ((at_arc flow i -ℤ amount) -ℤ at_arc flow i) (at_arc excess u) m.between _ (eqb u v) (eqb u w)
          (s.is u low)
          (same_test _ _ _ v u _ o.from into) (same_test _ _ _ w u _ o.to out) (omega (arith, ints)) m.first m.second;
    }

still_some : (a x y z : ℤ) (from to : Bool) → pos 0 ≤ℤ x → pos 0 <ℤ a → (from ≡ true → a ≤ℤ x) → y ≡ cond from (x -ℤ a) x → z ≡ cond to (y +ℤ a) y → pos 0 ≤ℤ z
still_some a x y z true true low some h p q = omega (arith, ints)
still_some a x y z true false low some h p q = let e : a ≤ℤ x = h refl in omega (arith, ints)
still_some a x y z false true low some h p q = omega (arith, ints)
still_some a x y z false false low some h p q = omega (arith, ints)

enough_at : (excess : List ℤ) (v u : ℕ) (amount : ℤ) → amount ≤ℤ at_arc excess v → eqb u v ≡ true → amount ≤ℤ at_arc excess u
enough_at excess v u amount h e = rw (eqb-true u v e) h

-- ---- the labels

other_arc : (numbers : List ℤ) (i k : ℕ) (y : ℤ) → k ≢ i → at_arc (set numbers i y) k ≡ at_arc numbers k
other_arc numbers i k y other = let ne : k ≢ i = other in rw get_or-set_other refl

residual_before : (g : FlowNetwork) (flow : List ℤ) (i : ℕ) (y : ℤ) (p q : ℕ) (r : IsResidual g (set flow i y) p q) → r.arc ≢ i → IsResidual g flow p q
residual_before g flow i y p q r other =
    let e = other_arc flow i r.arc y other in
    record {
      arc = r.arc;
      in_range = r.in_range;
      by = elim r.by [
        | inl o ↦ inl (record { from = o.from; to = o.to; room = let h = o.room in omega (arith, ints, e, h) })
        | inr o ↦ inr (record { from = o.from; to = o.to; room = let h = o.room in omega (arith, ints, e, h) })
      ];
    }

-- the two ends of the arc
record Joins (g : FlowNetwork) (v w i : ℕ) : Type 0 where
  ends : ((tail_at g i ≡ v) × (head_at g i ≡ w)) ⊎ ((tail_at g i ≡ w) × (head_at g i ≡ v))

along_joins : (g : FlowNetwork) (flow : List ℤ) (v w i : ℕ) (back : Bool) → IsResidualArc g flow v w i back → Joins g v w i
along_joins g flow v w i false along = let o = along.forward refl in record { ends = inl (o.from, o.to) }
along_joins g flow v w i true along = let o = along.backward refl in record { ends = inr (o.to, o.from) }

label_eq : (labels : List ℕ) (p v : ℕ) → p ≡ v → get_or labels p 0 ≡ get_or labels v 0
label_eq labels p v e = ap (λ k. get_or labels k 0) e

near_ends : (labels : List ℕ) (p q a b v w : ℕ) → get_or labels v 0 ≡ get_or labels w 0 + 1 → ((a ≡ v) × (b ≡ w)) ⊎ ((a ≡ w) × (b ≡ v)) →
    a ≡ p → b ≡ q → get_or labels p 0 ≤ get_or labels q 0 + 1
near_ends labels p q a b v w down (inl h) e f =
    let x = label_eq labels p v (sym e ∙ h.0) in
    let y = label_eq labels q w (sym f ∙ h.1) in
    omega (arith, x, y, down)
near_ends labels p q a b v w down (inr h) e f =
    let x = label_eq labels p w (sym e ∙ h.0) in
    let y = label_eq labels q v (sym f ∙ h.1) in
    omega (arith, x, y, down)

swap_ends : (a b v w : ℕ) → ((a ≡ v) × (b ≡ w)) ⊎ ((a ≡ w) × (b ≡ v)) → ((b ≡ v) × (a ≡ w)) ⊎ ((b ≡ w) × (a ≡ v))
swap_ends a b v w (inl h) = inr (h.1, h.0)
swap_ends a b v w (inr h) = inl (h.1, h.0)

pushed_valid : (g : FlowNetwork) (flow : List ℤ) (labels : List ℕ) (v w i : ℕ) (back : Bool) (y : ℤ) → HasValidLabels g flow labels → IsResidualArc g flow v w i back →
    get_or labels v 0 ≡ get_or labels w 0 + 1 → HasValidLabels g (set flow i y) labels
pushed_valid g flow labels v w i back y d along down = record {
  full = d.full;
  at_source = d.at_source;
  at_sink = d.at_sink;
  step = λ p q r. elim (cases_eq r.arc i) [
    | inr other ↦ d.step p q (residual_before g flow i y p q r other)
    | inl same ↦
        let j = along_joins g flow v w i back along in
        elim r.by [
          | inl o ↦ near_ends labels p q (tail_at g i) (head_at g i) v w down j.ends (ap (tail_at g) (sym same) ∙ o.from) (ap (head_at g) (sym same) ∙ o.to)
          | inr o ↦ near_ends labels p q (head_at g i) (tail_at g i) v w down (swap_ends (tail_at g i) (head_at g i) v w j.ends) (ap (head_at g) (sym same) ∙ o.from) (ap (tail_at g) (sym same) ∙ o.to)
        ]
  ];
}

-- ---- all together

at_least_none : (s a b : ℤ) → s ≡ a -ℤ b → b ≤ℤ a → pos 0 ≤ℤ s
at_least_none s a b e h = omega (arith, ints)

not_more : (s a b : ℤ) → s ≡ a -ℤ b → pos 0 ≤ℤ s → b ≤ℤ a
not_more s a b e h = omega (arith, ints)

pub pushed : (g : FlowNetwork) (flow : List ℤ) (labels : List ℕ) (excess : List ℤ) (v w i : ℕ) (back : Bool) (amount : ℤ) → IsState g flow labels excess →
    v < g.nodes → w < g.nodes → IsResidualArc g flow v w i back → get_or labels v 0 ≡ get_or labels w 0 + 1 → CanPush g flow excess v i back amount →
    IsState g (pushed_flow flow i back amount) labels (pushed_excess excess v w amount)
pushed g flow labels excess v w i back amount s a b along down c =
    let after = pushed_excess_is g flow excess v w i back amount s.excess s.preflow.within.full a b along in
    let s_full = s.excess.full in
    record {
      preflow = record {
        within = pushed_within g flow excess v i back amount s.preflow.within along.in_range c;
        given = λ u low p q.
            let m = moved excess v w u amount (omega (arith, s_full, a)) (omega (arith, s_full, b)) in
            not_more _ _ _ (after.is u low)
            (still_some amount (at_arc excess u) m.between _ (eqb u v) (eqb u w)
            (at_least_none _ _ _ (s.excess.is u low) (s.preflow.given u low p q)) c.some (enough_at excess v u amount c.there) m.first m.second);
      };
      valid = pushed_valid g flow labels v w i back _ s.valid along down;
      low = s.low;
      excess = after;
    }
