-- What leaves each node less what enters it, arc by arc.
use Rattle.std.proofs.Common.{◌≡◌, ℕ, zero, suc, ◌+◌, ◌*◌, ◌^◌, ◌<◌, ◌≤◌, List, length, get_or, set, take, replicate, refl, Bool, true, false, cond, eqb, arith, ap, sym, ◌∙◌, inl, inr}
use Rattle.std.specs.Prelude.{ℤ, ◌+ℤ◌, ◌-ℤ◌, ◌≤ℤ◌, ◌<ℤ◌, pos}
use Rattle.std.proofs.lemmas.Int.{ints}
use Rattle.std.proofs.lemmas.Bool.{cases_eq, eq-eqb, ne_eqb}
use Rattle.std.proofs.lemmas.List.{length-set, length-replicate, get_or-set_same, get_or-set_other}
use Rattle.pf_model.specs.Cut.{at_arc}
use Rattle.pf_model.specs.Flow.{flow_value}
use Rattle.pf_model.proofs.Sums.{sum_where_more, sum_all}

-- one number of a list is raised
raised_at : (sums : List ℤ) (u v : ℕ) (x : ℤ) → u < length sums → at_arc (set sums u (at_arc sums u +ℤ x)) v ≡ at_arc sums v +ℤ cond (eqb u v) x (pos 0)
raised_at sums u v x low = elim (cases_eq v u) [
  | inl same ↦ rw (same, get_or-set_same, eq-eqb u u refl) refl
  | inr other ↦ rw (get_or-set_other, ne_eqb u v (λ e. other (sym e))) (omega (arith, ints))
]

-- the same, of a list that is known by an equation
pub raised : (sums sums' : List ℤ) (u v : ℕ) (x : ℤ) → sums' ≡ set sums u (at_arc sums u +ℤ x) → u < length sums →
    at_arc sums' v ≡ at_arc sums v +ℤ cond (eqb u v) x (pos 0)
raised sums sums' u v x e low = rw e (raised_at sums u v x low)

pub raised_length : (sums sums' : List ℤ) (u : ℕ) (x : ℤ) → sums' ≡ set sums u x → length sums' ≡ length sums
raised_length sums sums' u x e = rw e (length-set sums u x)

-- one arc more
value_more : (ends : List (ℕ × ℕ)) (flow : List ℤ) (i u w v : ℕ) → length flow ≡ length ends → i < length ends →
    u ≡ (get_or ends i (0, 0)).0 → w ≡ (get_or ends i (0, 0)).1 →
    flow_value (take (i + 1) ends) (take (i + 1) flow) v
    ≡ (flow_value (take i ends) (take i flow) v +ℤ cond (eqb u v) (at_arc flow i) (pos 0)) -ℤ cond (eqb w v) (at_arc flow i) (pos 0)
value_more ends flow i u w v full low tail head =
    let out = sum_where_more (λ arc. eqb arc.0 v) ends flow i full low in
    let into = sum_where_more (λ arc. eqb arc.1 v) ends flow i full low in
    rw (tail, head) (omega (arith, ints, out, into))

-- the sums of the nodes over the first arcs, and bounds that so many arcs give
pub record HasBalances (nodes : ℕ) (ends : List (ℕ × ℕ)) (flow sums : List ℤ) (i : ℕ) : Type 0 where
  pub places : nodes ≤ length sums
  pub sums_are : (v : ℕ) → v < nodes → at_arc sums v ≡ flow_value (take i ends) (take i flow) v
  pub low : (v : ℕ) → v < nodes → (pos 0 -ℤ pos (i * 2 ^ 104)) ≤ℤ at_arc sums v
  pub high : (v : ℕ) → v < nodes → at_arc sums v ≤ℤ pos (i * 2 ^ 104)

one_more : (a b x : ℤ) (i : ℕ) (p q : Bool) → b ≡ (a +ℤ cond p x (pos 0)) -ℤ cond q x (pos 0) → pos 0 ≤ℤ x → x <ℤ pos (2 ^ 104) →
    (pos 0 -ℤ pos (i * 2 ^ 104)) ≤ℤ a → a ≤ℤ pos (i * 2 ^ 104) → ((pos 0 -ℤ pos ((i + 1) * 2 ^ 104)) ≤ℤ b) × (b ≤ℤ pos ((i + 1) * 2 ^ 104))
one_more a b x i true true e low high l h = (omega (arith, ints), omega (arith, ints))
one_more a b x i true false e low high l h = (omega (arith, ints), omega (arith, ints))
one_more a b x i false true e low high l h = (omega (arith, ints), omega (arith, ints))
one_more a b x i false false e low high l h = (omega (arith, ints), omega (arith, ints))

negated : (here : Bool) (x : ℤ) → cond here (pos 0 -ℤ x) (pos 0) ≡ pos 0 -ℤ cond here x (pos 0)
negated true x = refl
negated false x = refl

pub zero_at : (n v : ℕ) → at_arc (replicate n (pos 0)) v ≡ pos 0
zero_at zero v = refl
zero_at (suc n) zero = refl
zero_at (suc n) (suc v) = zero_at n v

no_arcs : (ends : List (ℕ × ℕ)) (flow : List ℤ) (v : ℕ) → flow_value (take 0 ends) (take 0 flow) v ≡ pos 0
no_arcs ends flow v = refl

within_step : (a b x : ℤ) (i : ℕ) (p : Bool) → b ≡ a +ℤ cond p x (pos 0) → i ≤ 32768 → pos 0 ≤ℤ x → x <ℤ pos (2 ^ 104) →
    (pos 0 -ℤ pos (i * 2 ^ 104)) ≤ℤ a → a ≤ℤ pos (i * 2 ^ 104) → ((pos 0 -ℤ pos (2 ^ 120)) ≤ℤ b) × (b ≤ℤ pos (2 ^ 120))
within_step a b x i true e few low high l h = (omega (arith, ints), omega (arith, ints))
within_step a b x i false e few low high l h = (omega (arith, ints), omega (arith, ints))

pub balances_more : (nodes : ℕ) (ends : List (ℕ × ℕ)) (flow sums sums' sums'' : List ℤ) (i u w : ℕ) (y : ℤ) → HasBalances nodes ends flow sums i →
    length flow ≡ length ends → i < length ends → u ≡ (get_or ends i (0, 0)).0 → w ≡ (get_or ends i (0, 0)).1 → u < nodes → w < nodes →
    pos 0 ≤ℤ at_arc flow i → at_arc flow i <ℤ pos (2 ^ 104) →
    sums' ≡ set sums u (at_arc sums u +ℤ at_arc flow i) → sums'' ≡ set sums' w (at_arc sums' w +ℤ y) → y ≡ pos 0 -ℤ at_arc flow i →
    HasBalances nodes ends flow sums'' (i + 1)
balances_more nodes ends flow sums sums' sums'' i u w y b full low tail head low_u low_w least most e e' neg =
    let places = b.places in
    let l = raised_length sums sums' u _ e in
    let l' = raised_length sums' sums'' w _ e' in
    let step : (v : ℕ) → at_arc sums'' v ≡ (at_arc sums v +ℤ cond (eqb u v) (at_arc flow i) (pos 0)) -ℤ cond (eqb w v) (at_arc flow i) (pos 0) =
    λ v.
    let here = raised sums sums' u v _ e (omega arith) in
    let there = raised sums' sums'' w v y e' (omega arith) in
    let turned = ap (λ n. cond (eqb w v) n (pos 0)) neg in
    let split = negated (eqb w v) (at_arc flow i) in
    omega (arith, ints, here, there, turned, split) in
    record {
      places = omega arith;
      sums_are = λ v h.
          let s = b.sums_are v h in
          let t = step v in
          let more = value_more ends flow i u w v full low tail head in
          omega (arith, ints, s, t, more);
      low = λ v h. (one_more _ _ (at_arc flow i) i (eqb u v) (eqb w v) (step v) least most (b.low v h) (b.high v h)).0;
      high = λ v h. (one_more _ _ (at_arc flow i) i (eqb u v) (eqb w v) (step v) least most (b.low v h) (b.high v h)).1;
    }

-- all sums are 0 before the first arc
pub balances_start : (nodes : ℕ) (ends : List (ℕ × ℕ)) (flow sums : List ℤ) (n : ℕ) → sums ≡ replicate n (pos 0) → nodes ≤ n →
    HasBalances nodes ends flow sums 0
balances_start nodes ends flow sums n e room = rw e (record {
  places = omega (arith, length-replicate n (pos 0));
  sums_are = λ v h. zero_at n v ∙ sym (no_arcs ends flow v);
  low = λ v h. let z = zero_at n v in omega (arith, ints, z);
  high = λ v h. let z = zero_at n v in omega (arith, ints, z);
})

pub balances_all : (nodes : ℕ) (ends : List (ℕ × ℕ)) (flow sums : List ℤ) (i : ℕ) → HasBalances nodes ends flow sums i →
    length flow ≡ length ends → length ends ≤ i → (v : ℕ) → v < nodes → at_arc sums v ≡ flow_value ends flow v
balances_all nodes ends flow sums i b full done v low =
    let s = b.sums_are v low in
    let out = sum_all (λ arc. eqb arc.0 v) ends flow i full done in
    let into = sum_all (λ arc. eqb arc.1 v) ends flow i full done in
    omega (arith, ints, s, out, into)

-- a raised number keeps within a bound
pub raised_within : (sums sums' : List ℤ) (u v i : ℕ) (x : ℤ) → sums' ≡ set sums u (at_arc sums u +ℤ x) → u < length sums → i ≤ 32768 →
    pos 0 ≤ℤ x → x <ℤ pos (2 ^ 104) → (pos 0 -ℤ pos (i * 2 ^ 104)) ≤ℤ at_arc sums v → at_arc sums v ≤ℤ pos (i * 2 ^ 104) →
    ((pos 0 -ℤ pos (2 ^ 120)) ≤ℤ at_arc sums' v) × (at_arc sums' v ≤ℤ pos (2 ^ 120))
raised_within sums sums' u v i x e low few least most l h = within_step (at_arc sums v) (at_arc sums' v) x i (eqb u v) (raised sums sums' u v x e low) few least most l h
