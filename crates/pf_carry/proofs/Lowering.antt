-- One number is lowered, and what its ends give.
use Rattle.std.proofs.Common.{◌≡◌, ◌≢◌, ℕ, suc, ◌*◌, ◌^◌, ◌<◌, ◌≤◌, List, [], ◌∷◌, length, get_or, set, refl, Bool, true, false, cond, eqb, arith, ap, sym, ◌∙◌, inl, inr, subst}
use Rattle.std.specs.Prelude.{ℤ, ◌+ℤ◌, ◌-ℤ◌, ◌≤ℤ◌, ◌<ℤ◌, pos, ◌==◌}
use Rattle.std.proofs.lemmas.Int.{ints}
use Rattle.std.proofs.lemmas.Bool.{cases_eq}
use Rattle.std.proofs.lemmas.List.{length-set, get_or-set_same, get_or-set_other}
use Rattle.pf_model.specs.Cut.{at_arc, sum_where}
use Rattle.pf_model.specs.Flow.{sum_out, sum_in}
use Rattle.pf_model.specs.Digraph.{Digraph}
use Rattle.pf_model.proofs.Augment.{sum_where_set}
use Rattle.pf_frame.specs.Numbers.{IsBounded}
use Rattle.pf_frame.proofs.Balances.{raised, raised_length}
use Rattle.pf_carry.specs.Trimming.{IsSummed, HasNoDeficit, IsLowered, less_at}
use Rattle.pf_model.proofs.Facts.{sum_high, sum_low}

-- ---- bounds on the sums

pub record IsSumBelow (n : ℕ) (x : ℤ) : Type 0 where
  pub low : pos 0 ≤ℤ x
  pub high : x ≤ℤ pos (n * 2 ^ 104)

pub sum_below : (test : ℕ × ℕ → Bool) (arcs : List (ℕ × ℕ)) (flow : List ℤ) → ((i : ℕ) → i < length arcs → pos 0 ≤ℤ at_arc flow i) →
    ((i : ℕ) → i < length arcs → at_arc flow i <ℤ pos (2 ^ 104)) → IsSumBelow (length arcs) (sum_where test arcs flow)
sum_below test [] flow low high = record { low = omega (arith, ints); high = omega (arith, ints) }
sum_below test (arc ∷ arcs) [] low high = record { low = omega (arith, ints); high = omega (arith, ints) }
sum_below test (arc ∷ arcs) (x ∷ flow) low high =
    let rest = sum_below test arcs flow (λ i h. low (suc i) (omega arith)) (λ i h. high (suc i) (omega arith)) in
    record {
      low = sum_low (test arc) x _ (low 0 (omega arith)) rest.low;
      high = sum_high (test arc) (length arcs) x _ (low 0 (omega arith)) (high 0 (omega arith)) rest.high;
    }

-- within 2^119
pub record FitsIn (x : ℤ) : Type 0 where
  pub low : (pos 0 -ℤ pos (2 ^ 119)) ≤ℤ x
  pub high : x ≤ℤ pos (2 ^ 119)

fits_step : (n : ℕ) (s out into : ℤ) → n ≤ 32768 → s ≡ out -ℤ into → IsSumBelow n out → IsSumBelow n into → FitsIn s
fits_step n s out into few e a b =
    let al = a.low in let ah = a.high in let bl = b.low in let bh = b.high in
    record { low = omega (arith, ints, e, al, bh, few); high = omega (arith, ints, e, ah, bl, few) }

pub summed_fits : (g : Digraph) (flow sums : List ℤ) (v : ℕ) → IsSummed g flow sums → length g.ends ≤ 32768 → v < g.nodes → FitsIn (at_arc sums v)
summed_fits g flow sums v s few low =
    fits_step (length g.ends) (at_arc sums v) (sum_out g.ends flow v) (sum_in g.ends flow v) few (s.is v low)
    (sum_below (λ arc. arc.0 == v) g.ends flow s.bounded.low s.bounded.high) (sum_below (λ arc. arc.1 == v) g.ends flow s.bounded.low s.bounded.high)

wide_step : (p : Bool) (a b x : ℤ) → FitsIn a → (pos 0 -ℤ pos (2 ^ 104)) ≤ℤ x → x ≤ℤ pos (2 ^ 104) → b ≡ a +ℤ cond p x (pos 0) →
    ((pos 0 -ℤ pos (2 ^ 120)) ≤ℤ b) × (b ≤ℤ pos (2 ^ 120))
wide_step true a b x f low high e = let l = f.low in let h = f.high in (omega (arith, ints, l, low, e), omega (arith, ints, h, high, e))
wide_step false a b x f low high e = let l = f.low in let h = f.high in (omega (arith, ints, l, e), omega (arith, ints, h, e))

pub wide_after : (sums sums' : List ℤ) (u v : ℕ) (x : ℤ) → FitsIn (at_arc sums v) → u < length sums →
    sums' ≡ set sums u (at_arc sums u +ℤ x) → (pos 0 -ℤ pos (2 ^ 104)) ≤ℤ x → x ≤ℤ pos (2 ^ 104) → ((pos 0 -ℤ pos (2 ^ 120)) ≤ℤ at_arc sums' v) × (at_arc sums' v ≤ℤ pos (2 ^ 120))
wide_after sums sums' u v x f low e l h = wide_step (eqb u v) (at_arc sums v) (at_arc sums' v) x f l h (raised sums sums' u v x e low)

-- ---- the number

pub less_here : (flow flow' : List ℤ) (i : ℕ) (a : ℤ) → flow' ≡ less_at flow i a → i < length flow → at_arc flow' i ≡ at_arc flow i -ℤ a
less_here flow flow' i a e low = rw (e, get_or-set_same) refl

less_there : (flow flow' : List ℤ) (i k : ℕ) (a : ℤ) → flow' ≡ less_at flow i a → k ≢ i → at_arc flow' k ≡ at_arc flow k
less_there flow flow' i k a e other = let ne : k ≢ i = other in rw (e, get_or-set_other) refl

pub less_most : (flow flow' : List ℤ) (i k : ℕ) (a : ℤ) → flow' ≡ less_at flow i a → i < length flow → pos 0 ≤ℤ a → at_arc flow' k ≤ℤ at_arc flow k
less_most flow flow' i k a e low some = elim (cases_eq k i) [
  | inl same ↦
      let here = less_here flow flow' i a e low in
      let x = ap (at_arc flow') same in
      let y = ap (at_arc flow) same in
      omega (arith, ints, here, x, y, some)
  | inr other ↦ let there = less_there flow flow' i k a e other in omega (arith, ints, there)
]

less_low : (flow flow' : List ℤ) (i k : ℕ) (a : ℤ) → flow' ≡ less_at flow i a → i < length flow → a ≤ℤ at_arc flow i → pos 0 ≤ℤ at_arc flow k → pos 0 ≤ℤ at_arc flow' k
less_low flow flow' i k a e low most least = elim (cases_eq k i) [
  | inl same ↦
      let here = less_here flow flow' i a e low in
      let x = ap (at_arc flow') same in
      omega (arith, ints, here, x, most)
  | inr other ↦ let there = less_there flow flow' i k a e other in omega (arith, ints, there, least)
]

less_bounded : (g : Digraph) (flow flow' : List ℤ) (i : ℕ) (a : ℤ) → IsBounded g flow → i < length g.ends → pos 0 ≤ℤ a → a ≤ℤ at_arc flow i → flow' ≡ less_at flow i a → IsBounded g flow'
less_bounded g flow flow' i a b low some most e =
    let full = b.full in
    let there : i < length flow = omega (arith, full, low) in
    record {
      full = ap length e ∙ (length-set flow i (at_arc flow i -ℤ a) ∙ b.full);
      low = λ k h. less_low flow flow' i k a e there most (b.low k h);
      high = λ k h. let l = less_most flow flow' i k a e there some in let m = b.high k h in omega (arith, ints, l, m);
    }

-- ---- the sums

value_step : (out into out' into' s s' s'' a c x y : ℤ) (p q : Bool) → s ≡ out -ℤ into → out' ≡ out +ℤ cond p c (pos 0) → into' ≡ into +ℤ cond q c (pos 0) →
    c ≡ pos 0 -ℤ a → x ≡ pos 0 -ℤ a → y ≡ a → s' ≡ s +ℤ cond p x (pos 0) → s'' ≡ s' +ℤ cond q y (pos 0) → s'' ≡ out' -ℤ into'
value_step out into out' into' s s' s'' a c x y true true e f h i j k l m = omega (arith, ints, e, f, h, i, j, k, l, m)
value_step out into out' into' s s' s'' a c x y true false e f h i j k l m = omega (arith, ints, e, f, h, i, j, k, l, m)
value_step out into out' into' s s' s'' a c x y false true e f h i j k l m = omega (arith, ints, e, f, h, i, j, k, l, m)
value_step out into out' into' s s' s'' a c x y false false e f h i j k l m = omega (arith, ints, e, f, h, i, j, k, l, m)

change : (x a : ℤ) → (x -ℤ a) -ℤ x ≡ pos 0 -ℤ a
change x a = omega (arith, ints)

out_less : (ends : List (ℕ × ℕ)) (flow flow' : List ℤ) (i u v : ℕ) (a : ℤ) → length flow ≡ length ends → i < length ends → flow' ≡ less_at flow i a → u ≡ (get_or ends i (0, 0)).0 →
    sum_out ends flow' v ≡ sum_out ends flow v +ℤ cond (eqb u v) ((at_arc flow i -ℤ a) -ℤ at_arc flow i) (pos 0)
out_less ends flow flow' i u v a full low e is =
    ap (λ l. sum_out ends l v) e
    ∙ (sum_where_set (λ arc. arc.0 == v) ends flow i (at_arc flow i -ℤ a) full low
    ∙ ap (λ n. sum_out ends flow v +ℤ cond (eqb n v) ((at_arc flow i -ℤ a) -ℤ at_arc flow i) (pos 0)) (sym is))

into_less : (ends : List (ℕ × ℕ)) (flow flow' : List ℤ) (i w v : ℕ) (a : ℤ) → length flow ≡ length ends → i < length ends → flow' ≡ less_at flow i a → w ≡ (get_or ends i (0, 0)).1 →
    sum_in ends flow' v ≡ sum_in ends flow v +ℤ cond (eqb w v) ((at_arc flow i -ℤ a) -ℤ at_arc flow i) (pos 0)
into_less ends flow flow' i w v a full low e is =
    ap (λ l. sum_in ends l v) e
    ∙ (sum_where_set (λ arc. arc.1 == v) ends flow i (at_arc flow i -ℤ a) full low
    ∙ ap (λ n. sum_in ends flow v +ℤ cond (eqb n v) ((at_arc flow i -ℤ a) -ℤ at_arc flow i) (pos 0)) (sym is))

pub summed_lower : (g : Digraph) (flow flow' sums sums' sums'' : List ℤ) (i u w : ℕ) (a x y : ℤ) → IsSummed g flow sums → i < length g.ends → pos 0 ≤ℤ a → a ≤ℤ at_arc flow i →
    flow' ≡ less_at flow i a → u ≡ (get_or g.ends i (0, 0)).0 → w ≡ (get_or g.ends i (0, 0)).1 → u < g.nodes → w < g.nodes →
    sums' ≡ set sums u (at_arc sums u +ℤ x) → sums'' ≡ set sums' w (at_arc sums' w +ℤ y) → x ≡ pos 0 -ℤ a → y ≡ a → IsSummed g flow' sums''
summed_lower g flow flow' sums sums' sums'' i u w a x y s low some most e tail head low_u low_w e' e'' neg same =
    let room = s.room in
    let long : length sums' ≡ length sums = raised_length sums sums' u _ e' in
    let longer : length sums'' ≡ length sums' = raised_length sums' sums'' w _ e'' in
    record {
      bounded = less_bounded g flow flow' i a s.bounded low some most e;
      room = omega (arith, room, long, longer);
      is = λ v h.
          value_step (sum_out g.ends flow v) (sum_in g.ends flow v) (sum_out g.ends flow' v) (sum_in g.ends flow' v) (at_arc sums v) (at_arc sums' v) (at_arc sums'' v)
          a ((at_arc flow i -ℤ a) -ℤ at_arc flow i) x y (eqb u v) (eqb w v) (s.is v h)
          (out_less g.ends flow flow' i u v a s.bounded.full low e tail) (into_less g.ends flow flow' i w v a s.bounded.full low e head)
          (change (at_arc flow i) a) neg same
          (raised sums sums' u v x e' (omega (arith, room, low_u))) (raised sums' sums'' w v y e'' (omega (arith, room, long, low_w)));
    }

-- ---- what lowering keeps

pub lowered_then : (g : Digraph) (s t : ℕ) (a b c : List ℤ) → IsLowered g s t a b → IsLowered g s t b c → IsLowered g s t a c
lowered_then g s t a b c p q = record {
  most = λ i. let x = p.most i in let y = q.most i in omega (arith, ints, x, y);
  kept = λ h. q.kept (subst (HasNoDeficit g s t) (sym (p.kept h)) h) ∙ p.kept h;
}

short_gives : (g : Digraph) (flow sums : List ℤ) (s t v : ℕ) → IsSummed g flow sums → v < g.nodes → v ≢ s → v ≢ t → pos 0 <ℤ at_arc sums v → HasNoDeficit g s t flow → ⊥
short_gives g flow sums s t v m low a b more h =
    let is = m.is v low in
    let given = h.given v low a b in
    omega (arith, ints, is, given, more)

-- no number rises, and some node gives too much
pub lowered_short : (g : Digraph) (flow flow' sums : List ℤ) (s t v : ℕ) → IsSummed g flow sums → v < g.nodes → v ≢ s → v ≢ t → pos 0 <ℤ at_arc sums v →
    ((i : ℕ) → at_arc flow' i ≤ℤ at_arc flow i) → IsLowered g s t flow flow'
lowered_short g flow flow' sums s t v m low a b more most = record {
  most = most;
  kept = λ h. absurd (short_gives g flow sums s t v m low a b more h);
}
