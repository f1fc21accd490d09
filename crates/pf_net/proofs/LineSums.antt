-- The line of a side, summed arc by arc.
use Rattle.std.proofs.Common.{◌≡◌, ℕ, ◌+◌, ◌*◌, ◌^◌, ◌<◌, List, length, get_or, take, map, Bool, true, false, cond, arith, ap, ◌∙◌, sym}
use Rattle.std.specs.Prelude.{ℤ, ◌+ℤ◌, ◌≤ℤ◌, neg_ℤ, pos, All}
use Rattle.std.proofs.lemmas.Int.{ints}
use Rattle.std.proofs.lemmas.List.{length-map, get_or-map}
use Rattle.pf_model.specs.declared.AffineArc.{AffineArc}
use Rattle.pf_model.specs.Cut.{sum_where, leaves}
use Rattle.pf_model.specs.Network.{ends_of}
use Rattle.pf_model.proofs.Sums.{sum_next}
use Rattle.pf_model.proofs.Affine.{no_arc}
use Rattle.pf_net.specs.Limits.{IsSmallArc}

-- the sums of the constants and of the slopes over the first arcs that leave the side, and what so many arcs can add
pub record IsSum (side : List Bool) (arcs : List AffineArc) (i : ℕ) (a b : ℤ) : Type 0 where
  pub a_is : a ≡ sum_where (leaves side) (take i (map ends_of arcs)) (take i (map (λ arc. arc.a) arcs))
  pub b_is : b ≡ sum_where (leaves side) (take i (map ends_of arcs)) (take i (map (λ arc. arc.b) arcs))
  pub a_low : neg_ℤ (pos (i * 2 ^ 56)) ≤ℤ a
  pub a_high : a ≤ℤ pos (i * 2 ^ 56)
  pub b_low : neg_ℤ (pos (i * 2 ^ 30)) ≤ℤ b
  pub b_high : b ≤ℤ pos (i * 2 ^ 30)

low_step : (here : Bool) (x y z : ℤ) (i m : ℕ) → neg_ℤ (pos (i * m)) ≤ℤ x → neg_ℤ (pos m) ≤ℤ y → z ≡ x +ℤ cond here y (pos 0) → neg_ℤ (pos ((i + 1) * m)) ≤ℤ z
low_step true x y z i m h k e = let more : (i + 1) * m ≡ i * m + m = grind arith in omega (arith, ints, h, k, e, more)
low_step false x y z i m h k e = let more : (i + 1) * m ≡ i * m + m = grind arith in omega (arith, ints, h, e, more)

high_step : (here : Bool) (x y z : ℤ) (i m : ℕ) → x ≤ℤ pos (i * m) → y ≤ℤ pos m → z ≡ x +ℤ cond here y (pos 0) → z ≤ℤ pos ((i + 1) * m)
high_step true x y z i m h k e = let more : (i + 1) * m ≡ i * m + m = grind arith in omega (arith, ints, h, k, e, more)
high_step false x y z i m h k e = let more : (i + 1) * m ≡ i * m + m = grind arith in omega (arith, ints, h, e, more)

-- one more arc, which leaves the side or not
pub next_sum : (side : List Bool) (arcs : List AffineArc) (i : ℕ) (a b a' b' : ℤ) (here : Bool) → All IsSmallArc arcs → i < length arcs →
    IsSum side arcs i a b → leaves side (ends_of (get_or arcs i no_arc)) ≡ here →
    a' ≡ a +ℤ cond here (get_or arcs i no_arc).a (pos 0) → b' ≡ b +ℤ cond here (get_or arcs i no_arc).b (pos 0) →
    IsSum side arcs (i + 1) a' b'
next_sum side arcs i a b a' b' here small low sum is more_a more_b =
    let s = small i no_arc low in
    let place = get_or-map ends_of arcs i no_arc (0, 0) low in
    let first = get_or-map (λ (arc : AffineArc). arc.a) arcs i no_arc (pos 0) low in
    let second = get_or-map (λ (arc : AffineArc). arc.b) arcs i no_arc (pos 0) low in
    let full = length-map arcs ends_of in
    let full_a = length-map arcs (λ (arc : AffineArc). arc.a) in
    let full_b = length-map arcs (λ (arc : AffineArc). arc.b) in
    let leaving : leaves side (get_or (map ends_of arcs) i (0, 0)) ≡ here = ap (leaves side) place ∙ is in
    record {
      a_is = sum_next (leaves side) (map ends_of arcs) (map (λ arc. arc.a) arcs) i a a' here (omega (arith, full, full_a)) (omega (arith, low, full))
          sum.a_is leaving (more_a ∙ ap (λ n. a +ℤ cond here n (pos 0)) (sym first));
      b_is = sum_next (leaves side) (map ends_of arcs) (map (λ arc. arc.b) arcs) i b b' here (omega (arith, full, full_b)) (omega (arith, low, full))
          sum.b_is leaving (more_b ∙ ap (λ n. b +ℤ cond here n (pos 0)) (sym second));
      a_low = low_step here a (get_or arcs i no_arc).a a' i (2 ^ 56) sum.a_low s.a_low more_a;
      a_high = high_step here a (get_or arcs i no_arc).a a' i (2 ^ 56) sum.a_high s.a_high more_a;
      b_low = low_step here b (get_or arcs i no_arc).b b' i (2 ^ 30) sum.b_low s.b_low more_b;
      b_high = high_step here b (get_or arcs i no_arc).b b' i (2 ^ 30) sum.b_high s.b_high more_b;
    }
