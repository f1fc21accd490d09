-- Parameters of one denominator.
use Rattle.std.proofs.Common.{◌≡◌, ℕ, ◌≤◌, ◌^◌, arith, ap, sym, ◌∙◌, subst}
use Rattle.std.specs.Prelude.{ℤ, ◌+ℤ◌, ◌-ℤ◌, ◌*ℤ◌, ◌≤ℤ◌, neg_ℤ, pos, nat_abs}
use Rattle.std.proofs.lemmas.Int.{ints, by_lt_z}
use Rattle.pf_model.specs.Fraction.{Fraction, IsBoundedFraction, IsParameter, IsEqual}
use Rattle.pf_model.specs.Network.{Network, IsMonotone, IsInInterval}
use Rattle.pf_model.proofs.Integers.{mul_add, mul_assoc, mul_comm, mul_most, nonneg_inverse}
use Rattle.pf_model.proofs.Certificate.{at_most_trans}
use Rattle.pf_carry.specs.Scaling.{IsFloor}
use Rattle.pf_net.specs.Limits.{IsBuilt}
use Rattle.pf_sweep.specs.Parameters.{of_units, IsNearEnd, HasNearEnds, IsMultiple, unit_of}

-- ---- the low end

-- the quotient of a multiple is exact
pub quotient_exact : (unit q f : ℤ) → pos 1 ≤ℤ q → IsMultiple unit q → IsFloor unit q f → f *ℤ q ≡ unit
quotient_exact unit q f h m fl =
    let k : ℤ = m.times in
    let is = m.is in
    let low = fl.low in
    let high = fl.high in
    by_lt_z f k
    (λ less.
    let more = mul_most q (f +ℤ pos 1) k (omega (arith, ints, h)) (omega (arith, ints, less)) in
    let split = mul_add q f (pos 1) in
    let a = mul_comm q f in
    let b = mul_comm q k in
    absurd (omega (arith, ints, more, split, a, b, is, high)))
    (λ most.
    let more = mul_most q k f (omega (arith, ints, h)) most in
    let a = mul_comm q f in
    let b = mul_comm q k in
    omega (arith, ints, more, a, b, is, low))

pub start_equal : (p q f unit : ℤ) → f *ℤ q ≡ unit → (p *ℤ f) *ℤ q ≡ p *ℤ unit
start_equal p q f unit e = mul_assoc p f q ∙ ap (λ n. p *ℤ n) e

-- 2^33 in size, in these units
pub start_near : (p q f unit : ℤ) → pos 1 ≤ℤ q → pos 1 ≤ℤ unit → f *ℤ q ≡ unit → neg_ℤ (pos (2 ^ 33) *ℤ q) ≤ℤ p → p ≤ℤ (pos (2 ^ 33) *ℤ q) →
    (neg_ℤ (pos (2 ^ 33) *ℤ unit) ≤ℤ (p *ℤ f)) × ((p *ℤ f) ≤ℤ (pos (2 ^ 33) *ℤ unit))
start_near p q f unit h u e low high =
    let turned = mul_comm q f in
    let some : pos 0 ≤ℤ f = nonneg_inverse q f h (omega (arith, ints, turned, e, u)) in
    let top : ℤ = pos (2 ^ 33) *ℤ q in
    let least = mul_most f (pos 0 -ℤ top) p some (omega (arith, ints, low)) in
    let most = mul_most f p top some high in
    let whole = mul_assoc (pos (2 ^ 33)) q f in
    let a = mul_comm f top in
    let b = mul_comm f p in
    let c = mul_add f (pos 0 -ℤ top) top in
    let none : f *ℤ pos 0 ≡ pos 0 = omega (arith, ints) in
    let gap : (pos 0 -ℤ top) +ℤ top ≡ pos 0 = omega (arith, ints) in
    let zero_is = ap (λ n. f *ℤ n) gap in
    (omega (arith, ints, least, whole, a, b, c, none, zero_is, turned, e), omega (arith, ints, most, whole, a, b, turned, e))

pub near_bounds : (unit r : ℤ) → pos 1 ≤ℤ unit → unit ≤ℤ pos (2 ^ 40) → neg_ℤ (pos (2 ^ 33) *ℤ unit) ≤ℤ r → r ≤ℤ (pos (2 ^ 33) *ℤ unit) → IsBoundedFraction (of_units unit r)
near_bounds unit r h k low high = record {
  p_low = omega (arith, ints, k, low);
  p_high = omega (arith, ints, k, high);
  parameter = h;
  q_high = omega (arith, ints, k);
}

-- the low end, in these units
pub record IsStart (lo : Fraction) (unit r : ℤ) : Type 0 where
  pub size : nat_abs r ≤ 2 ^ 73
  pub equal : r *ℤ lo.q ≡ lo.p *ℤ unit
  pub bounds : IsBoundedFraction (of_units unit r)

pub start_found : (lo : Fraction) (unit p q f : ℤ) → p ≡ lo.p → q ≡ lo.q → pos 1 ≤ℤ unit → unit ≤ℤ pos (2 ^ 40) → pos 1 ≤ℤ q → IsNearEnd lo → IsMultiple unit lo.q → IsFloor unit q f →
    IsStart lo unit (p *ℤ f)
start_found lo unit p q f e g h k some near m fl =
    let whole : f *ℤ lo.q ≡ unit = sym (ap (λ n. f *ℤ n) g) ∙ quotient_exact unit q f some (subst (IsMultiple unit) (sym g) m) fl in
    let one : pos 1 ≤ℤ lo.q = omega (arith, ints, g, some) in
    let near' = start_near lo.p lo.q f unit one h whole near.low near.high in
    let same : p *ℤ f ≡ lo.p *ℤ f = ap (λ n. n *ℤ f) e in
    let low = near'.0 in
    let high = near'.1 in
    record {
      size = omega (arith, ints, same, low, high, h, k);
      equal = ap (λ n. n *ℤ lo.q) same ∙ start_equal lo.p lo.q f unit whole;
      bounds = near_bounds unit (p *ℤ f) h k (omega (arith, ints, same, low)) (omega (arith, ints, same, high));
    }

-- ---- parameters of the interval

pub bounds_inside : (net : Network) (unit p : ℤ) → IsBuilt net → HasNearEnds net → pos 1 ≤ℤ unit → unit ≤ℤ pos (2 ^ 40) → IsInInterval net (of_units unit p) → IsBoundedFraction (of_units unit p)
bounds_inside net unit p b ends h k inside =
    let low_end : Fraction = record { p = neg_ℤ (pos (2 ^ 33)); q = pos 1 } in
    let high_end : Fraction = record { p = pos (2 ^ 33); q = pos 1 } in
    let l = ends.low.low in
    let m = ends.high.high in
    let low = at_most_trans low_end net.low (of_units unit p) (omega (arith, ints)) b.monotone.low h (omega (arith, ints, l)) inside.low in
    let high = at_most_trans (of_units unit p) net.high high_end h b.monotone.high (omega (arith, ints)) inside.high (omega (arith, ints, m)) in
    near_bounds unit p h k (omega (arith, ints, low)) (omega (arith, ints, high))

-- the low end lies in the interval
pub start_inside : (net : Network) (x : Fraction) → IsMonotone net → IsParameter x → IsEqual x net.low → IsInInterval net x
start_inside net x m h e =
    let below = m.interval in
    record {
      parameter = h;
      low = omega (arith, ints, e);
      high = at_most_trans x net.low net.high h m.low m.high (omega (arith, ints, e)) (omega (arith, ints, below));
    }

-- ---- equal steps

-- (a b) c in another order
pub turned : (a b c : ℤ) → (a *ℤ b) *ℤ c ≡ (b *ℤ c) *ℤ a
turned a b c = ap (λ n. n *ℤ c) (mul_comm a b) ∙ mul_assoc b a c ∙ ap (λ n. b *ℤ n) (mul_comm a c) ∙ sym (mul_assoc b c a)

pub some_pair : (a b : ℤ) → pos 1 ≤ℤ a → pos 1 ≤ℤ b → pos 1 ≤ℤ (a *ℤ b)
some_pair a b h l =
    let more = mul_most a (pos 1) b (omega (arith, ints, h)) l in
    let one : a *ℤ pos 1 ≡ a = omega (arith, ints) in
    omega (arith, ints, more, one, h)

pub some_product : (a b k : ℤ) → pos 1 ≤ℤ a → pos 1 ≤ℤ b → pos 1 ≤ℤ k → pos 1 ≤ℤ ((a *ℤ b) *ℤ k)
some_product a b k h l m = some_pair (a *ℤ b) k (some_pair a b h l) m

pub unit_is_multiple : (net : Network) (k : ℕ) → IsMultiple (unit_of net k) net.low.q
unit_is_multiple net k = record { times = net.high.q *ℤ pos k; is = turned net.low.q net.high.q (pos k) }
