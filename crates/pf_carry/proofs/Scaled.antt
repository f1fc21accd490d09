-- Numbers that are written in another unit, arc by arc, beside the sums of them.
use Rattle.std.proofs.Common.{◌≡◌, ℕ, zero, suc, ◌+◌, ◌<◌, ◌≤◌, List, [], ◌∷◌, length, get_or, set, refl, arith, ap, sym, ◌∙◌, below_more}
use Rattle.std.specs.Prelude.{ℤ, ◌+ℤ◌, ◌-ℤ◌, ◌≤ℤ◌, pos}
use Rattle.std.proofs.lemmas.Int.{ints}
use Rattle.std.proofs.lemmas.List.{length-set, ext_get_or}
use Rattle.pf_model.specs.Cut.{at_arc}
use Rattle.pf_model.specs.Digraph.{Digraph}
use Rattle.pf_frame.specs.Numbers.{IsBounded}
use Rattle.pf_frame.proofs.Balances.{HasBalances, balances_more, balances_all}
use Rattle.pf_carry.specs.Carry.{IsUnit, IsCarriable, carried, floored}
use Rattle.pf_carry.specs.Trimming.{IsSummed}
use Rattle.pf_carry.proofs.Floors.{carried_low, carried_high}
use Rattle.pf_model.proofs.Facts.{set_here, set_there}

floored_length : (from to : ℤ) (caps flow : List ℤ) → length caps ≡ length flow → length (floored from to caps flow) ≡ length flow
floored_length from to [] [] e = refl
floored_length from to [] (x ∷ flow) e = absurd (omega arith)
floored_length from to (cap ∷ caps) [] e = refl
floored_length from to (cap ∷ caps) (x ∷ flow) e = ap suc (floored_length from to caps flow (omega arith))

pub floored_at : (from to : ℤ) (caps flow : List ℤ) (i : ℕ) → i < length caps → i < length flow → at_arc (floored from to caps flow) i ≡ carried from to (at_arc caps i) (at_arc flow i)
floored_at from to [] flow i h k = absurd (omega arith)
floored_at from to (cap ∷ caps) [] i h k = absurd (omega arith)
floored_at from to (cap ∷ caps) (x ∷ flow) zero h k = refl
floored_at from to (cap ∷ caps) (x ∷ flow) (suc i) h k = floored_at from to caps flow i (omega arith) (omega arith)

pub floored_high : (g : Digraph) (from to : ℤ) (caps flow : List ℤ) (i : ℕ) → length caps ≡ length g.ends → length flow ≡ length g.ends → i < length g.ends →
    at_arc (floored from to caps flow) i ≤ℤ at_arc caps i
floored_high g from to caps flow i e f low =
    let is = floored_at from to caps flow i (omega (arith, e, low)) (omega (arith, f, low)) in
    let most = carried_high from to (at_arc caps i) (at_arc flow i) in
    omega (arith, ints, is, most)

pub floored_bounded : (g : Digraph) (from to : ℤ) (caps flow : List ℤ) → IsUnit from → IsUnit to → IsBounded g caps → IsCarriable g from flow → IsBounded g (floored from to caps flow)
floored_bounded g from to caps flow u w b c = record {
  full = floored_length from to caps flow (b.full ∙ sym c.full) ∙ c.full;
  low = λ i h.
      let is = floored_at from to caps flow i (let e = b.full in omega (arith, e, h)) (let e = c.full in omega (arith, e, h)) in
      let least = carried_low from to (at_arc caps i) (at_arc flow i) u.low (let l = w.low in omega (arith, ints, l)) (b.low i h) (c.low i h) in
      omega (arith, ints, is, least);
  high = λ i h.
      let most = floored_high g from to caps flow i b.full c.full h in
      let cap = b.high i h in
      omega (arith, ints, most, cap);
}

-- the numbers before an index are as wanted, with the sums of them, and those from it on as they were
pub record IsScaled (g : Digraph) (wanted old flow sums : List ℤ) (i : ℕ) : Type 0 where
  pub full : length flow ≡ length old
  pub before : (k : ℕ) → k < i → at_arc flow k ≡ at_arc wanted k
  pub behind : (k : ℕ) → i ≤ k → at_arc flow k ≡ at_arc old k
  pub sums_are : HasBalances g.nodes g.ends wanted sums i

pub scaled_next : (g : Digraph) (wanted old flow flow' sums sums' sums'' : List ℤ) (i u w : ℕ) (y : ℤ) → IsScaled g wanted old flow sums i → IsBounded g wanted →
    length old ≡ length g.ends → i < length g.ends → flow' ≡ set flow i (at_arc wanted i) →
    u ≡ (get_or g.ends i (0, 0)).0 → w ≡ (get_or g.ends i (0, 0)).1 → u < g.nodes → w < g.nodes →
    sums' ≡ set sums u (at_arc sums u +ℤ at_arc wanted i) → sums'' ≡ set sums' w (at_arc sums' w +ℤ y) → y ≡ pos 0 -ℤ at_arc wanted i →
    IsScaled g wanted old flow' sums'' (i + 1)
scaled_next g wanted old flow flow' sums sums' sums'' i u w y s b long low e tail head low_u low_w e' e'' neg =
    let full = s.full in
    record {
      full = ap length e ∙ (length-set flow i (at_arc wanted i) ∙ s.full);
      before = below_more (λ k. at_arc flow' k ≡ at_arc wanted k) i
          (λ k h. set_there flow flow' i k _ e (omega (arith, h)) ∙ s.before k h)
          (set_here flow flow' i _ e (omega (arith, full, low, long)));
      behind = λ k h. set_there flow flow' i k _ e (omega (arith, h)) ∙ s.behind k (omega (arith, h));
      sums_are = balances_more g.nodes g.ends wanted sums sums' sums'' i u w y s.sums_are b.full low tail head low_u low_w (b.low i low) (b.high i low) e' e'' neg;
    }

pub scaled_is : (g : Digraph) (wanted old flow sums : List ℤ) (i : ℕ) → IsScaled g wanted old flow sums i → IsBounded g wanted → length old ≡ length g.ends → length g.ends ≤ i → flow ≡ wanted
scaled_is g wanted old flow sums i s b long done =
    let full = s.full in
    let whole = b.full in
    ext_get_or (pos 0) flow wanted (omega (arith, full, whole, long)) (λ k h. s.before k (omega (arith, h, full, long, done)))

summed_all : (g : Digraph) (wanted sums : List ℤ) (i : ℕ) → HasBalances g.nodes g.ends wanted sums i → IsBounded g wanted → length g.ends ≤ i → IsSummed g wanted sums
summed_all g wanted sums i h b done = record {
  bounded = b;
  room = h.places;
  is = balances_all g.nodes g.ends wanted sums i h b.full done;
}

pub scaled_ends : (g : Digraph) (wanted old flow sums : List ℤ) (i : ℕ) → IsScaled g wanted old flow sums i → IsBounded g wanted → length old ≡ length g.ends → length g.ends ≤ i →
    IsSummed g flow sums
scaled_ends g wanted old flow sums i s b long done =
    rw (scaled_is g wanted old flow sums i s b long done) (summed_all g wanted sums i s.sums_are b done)
