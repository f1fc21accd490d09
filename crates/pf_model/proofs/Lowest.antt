-- Fractions in lowest terms: each parameter is equal to one, and to no other.
use Rattle.std.proofs.Common.{◌≡◌, ℕ, zero, suc, ◌*◌, ◌/◌, ◌%◌, ◌<◌, ◌≤◌, arith, ap, sym, ◌∙◌, refl, subst}
use Rattle.std.specs.Prelude.{ℤ, ◌*ℤ◌, ◌<ℤ◌, ◌≤ℤ◌, pos, negsuc, nat_abs, neg_ℤ, int_div, int_lt}
use Rattle.std.specs.Bool.{Decides}
use Rattle.std.specs.Int.{IsGcd}
use Rattle.std.proofs.lemmas.Int.{ints, by_lt_z, unsigned_abs-mul}
use Rattle.std.proofs.lemmas.Nat.Gcd.{IsGcd-from_mod, IsGcd-from_zero, dvd_antisymm, le_of_dvd}
use Rattle.std.proofs.Math.Nat.{div-mul_cancel, one-dvd, eq-one_of_dvd-one, mod-lt, dvd-mul_left, dvd-mul_right, mul-dvd-mul_right, dvd_of_mul-dvd-mul_right, div-le_self}
use Rattle.std.proofs.Math.IntN.{negsuc-*ℤ-pos}
use Rattle.pf_model.specs.Fraction.{Fraction, IsParameter, IsBelow, IsEqual, is_below, IsLowest, divisor_within, lowest}
use Rattle.pf_model.proofs.Integers.{mul_comm, mul_assoc, mul_most, mul_less, mul_most_inverse}
use Prim.Native.Nat.{◌∣◌}

less_test : (a b : ℤ) → Decides (int_lt a b) (a <ℤ b)
less_test a b = (λ e. omega (arith, ints, e), λ h. grind (arith, ints, h))

-- the test of the order
pub below_test : (x y : Fraction) → Decides (is_below x y) (IsBelow x y)
below_test x y = less_test (x.p *ℤ y.q) (y.p *ℤ x.q)

-- the greatest common divisor

pub divisor_is : (steps a b : ℕ) → b < steps → IsGcd a b (divisor_within steps a b)
divisor_is zero a b h = absurd (omega (arith, h))
divisor_is (suc steps) a zero h = IsGcd-from_zero a zero refl
divisor_is (suc steps) a (suc b) h =
    let less = mod-lt a {m = suc b} (omega arith) in
    IsGcd-from_mod a (suc b) (divisor_within steps (suc b) (a % suc b))
    (divisor_is steps (suc b) (a % suc b) (omega (arith, less, h)))

-- no number above 1 divides both, and 1 does
lowest_from_gcd : (a b : ℕ) → IsGcd a b 1 → (d : ℕ) → d ∣ a → d ∣ b → d ≡ 1
lowest_from_gcd a b h d left right = dvd_antisymm (h.2 d left right) (one-dvd d)

-- a whole number is in lowest terms
pub whole_lowest : (p : ℤ) → IsLowest (record { p = p; q = pos 1 })
whole_lowest p = record { alone = λ d h l. eq-one_of_dvd-one l }

gcd_from_lowest : (a b : ℕ) → ((d : ℕ) → d ∣ a → d ∣ b → d ≡ 1) → IsGcd a b 1
gcd_from_lowest a b h =
    let P : ℕ → ℕ → Type 0 = λ d n. d ∣ n in
    (one-dvd a, one-dvd b, λ d left right. subst (P d) (h d left right) (let R : ℕ → Type 0 = λ n. n ∣ d in subst R (sym (h d left right)) (one-dvd d)))

gcd_exists : (a b : ℕ) → (g : ℕ) × IsGcd a b g
gcd_exists a b = (divisor_within (suc b) a b, divisor_is (suc b) a b (omega arith))

-- the greatest common divisor divides exactly

quotient_abs : (z : ℤ) (g : ℕ) → nat_abs (int_div z (pos g)) ≡ nat_abs z / g
quotient_abs (pos a) g = refl
quotient_abs (negsuc a) g = omega (arith, ints)

negative_times : (n g : ℕ) → neg_ℤ (pos n) *ℤ pos g ≡ neg_ℤ (pos (n * g))
negative_times zero g = omega (arith, ints)
negative_times (suc n) g = negsuc-*ℤ-pos n g

quotient_exact : (z : ℤ) (g : ℕ) → g ∣ nat_abs z → int_div z (pos g) *ℤ pos g ≡ z
quotient_exact (pos a) g h = let e = div-mul_cancel g h in omega (arith, ints, e)
quotient_exact (negsuc a) g h =
    let e = div-mul_cancel g h in
    let f = negative_times (suc a / g) g in
    omega (arith, ints, e, f)

-- what is left has no common divisor above 1
gcd_of_quotients : (a b g : ℕ) → 0 < g → IsGcd a b g → IsGcd (a / g) (b / g) 1
gcd_of_quotients a b g low h = (
  one-dvd (a / g),
  one-dvd (b / g),
  λ d l r.
      let P : ℕ → Type 0 = λ n. d * g ∣ n in
      let left = subst P (div-mul_cancel g h.0) (mul-dvd-mul_right d l g) in
      let right = subst P (div-mul_cancel g h.1) (mul-dvd-mul_right d r g) in
      let one_g : g ≡ 1 * g = omega arith in
      dvd_of_mul-dvd-mul_right d low (subst P one_g (h.2 (d * g) left right)),
)

positive_factor : (k g n : ℕ) → k * g ≡ n → 0 < n → 0 < g
positive_factor k g n e h = grind arith

-- the divisor of a parameter's two numbers
pub record IsDivisor (x : Fraction) (g : ℕ) : Type 0 where
  pub common : IsGcd (nat_abs x.p) (nat_abs x.q) g
  pub low : 0 < g
  pub high : g ≤ nat_abs x.q

pub divisor_of : (x : Fraction) (g : ℕ) → IsParameter x → IsGcd (nat_abs x.p) (nat_abs x.q) g → IsDivisor x g
divisor_of x g h common =
    let some : 0 < nat_abs x.q = omega (arith, ints, h) in
    let most = le_of_dvd some common.1 in
    record {
      common = common;
      low = positive_factor (nat_abs x.q / g) g (nat_abs x.q) (div-mul_cancel g common.1) some;
      high = most;
    }

-- y is x, in lowest terms; neither of its numbers is larger than the one of x
pub record IsReduced (x y : Fraction) : Type 0 where
  pub parameter : IsParameter y
  pub lowest : IsLowest y
  pub equal : IsEqual y x
  pub p_size : nat_abs y.p ≤ nat_abs x.p
  pub q_size : nat_abs y.q ≤ nat_abs x.q

abbrev pub divided : Fraction → ℕ → Fraction
divided x g = record { p = int_div x.p (pos g); q = int_div x.q (pos g) }

pub reduced : (x : Fraction) (g : ℕ) → IsParameter x → IsDivisor x g → IsReduced x (divided x g)
reduced x g h d =
    let p' = int_div x.p (pos g) in
    let q' = int_div x.q (pos g) in
    let ep = quotient_exact x.p g d.common.0 in
    let eq = quotient_exact x.q g d.common.1 in
    let ap' = quotient_abs x.p g in
    let aq' = quotient_abs x.q g in
    let dp = div-le_self (nat_abs x.p) g in
    let dq = div-le_self (nat_abs x.q) g in
    let alone = lowest_from_gcd (nat_abs x.p / g) (nat_abs x.q / g) (gcd_of_quotients (nat_abs x.p) (nat_abs x.q) g d.low d.common) in
    let parameter : pos 1 ≤ℤ q' = by_lt_z (pos 0) q' (λ more. omega (arith, ints, more))
    (λ none. absurd (
    let most = mul_most (pos g) q' (pos 0) (omega (arith, ints)) none in
    let nothing : pos g *ℤ pos 0 ≡ pos 0 = omega (arith, ints) in
    let e = mul_comm (pos g) q' in
    omega (arith, ints, most, nothing, e, eq, h))) in
    record {
      parameter = parameter;
      lowest = record { alone = rw (ap', aq') alone };
      equal =
          ap (λ n. p' *ℤ n) (sym eq) ∙ ap (λ n. p' *ℤ n) (mul_comm q' (pos g)) ∙ sym (mul_assoc p' (pos g) q') ∙ ap (λ n. n *ℤ q') ep;
      p_size = rw ap' dp;
      q_size = rw aq' dq;
    }

-- two equal parameters in lowest terms are the same

divides_other : (a b c d : ℕ) → 0 < d → IsGcd a b 1 → a * d ≡ c * b → b ∣ d
divides_other a b c d some alone e =
    let h = gcd_exists (a * d) (b * d) in
    let g = h.0 in
    let k = g / d in
    let whole = div-mul_cancel d (h.1.2 d (dvd-mul_left d a) (dvd-mul_left d b)) in
    let P : ℕ → Type 0 = λ n. n ∣ a * d in
    let Q : ℕ → Type 0 = λ n. n ∣ b * d in
    let left = dvd_of_mul-dvd-mul_right k some (subst P (sym whole) h.1.0) in
    let right = dvd_of_mul-dvd-mul_right k some (subst Q (sym whole) h.1.1) in
    let one : k ≡ 1 = dvd_antisymm (alone.2 k left right) (one-dvd k) in
    let R : ℕ → Type 0 = λ n. b ∣ n in
    let up = h.1.2 b (subst R (sym e) (dvd-mul_left b c)) (dvd-mul_right b d) in
    subst R (sym whole ∙ ap (λ n. n * d) one ∙ (let u : 1 * d ≡ d = omega arith in u)) up

pub same_fraction : (x y : Fraction) → IsParameter x → IsParameter y → IsLowest x → IsLowest y → IsEqual x y → x ≡ y
same_fraction x y px py lx ly e =
    let f : nat_abs x.p * nat_abs y.q ≡ nat_abs y.p * nat_abs x.q =
    sym (unsigned_abs-mul x.p y.q) ∙ ap nat_abs e ∙ unsigned_abs-mul y.p x.q in
    let x_some : 0 < nat_abs x.q = omega (arith, ints, px) in
    let y_some : 0 < nat_abs y.q = omega (arith, ints, py) in
    let one = divides_other (nat_abs x.p) (nat_abs x.q) (nat_abs y.p) (nat_abs y.q) y_some (gcd_from_lowest (nat_abs x.p) (nat_abs x.q) lx.alone) f in
    let other = divides_other (nat_abs y.p) (nat_abs y.q) (nat_abs x.p) (nat_abs x.q) x_some (gcd_from_lowest (nat_abs y.p) (nat_abs y.q) ly.alone) (sym f) in
    let q_same : nat_abs x.q ≡ nat_abs y.q = dvd_antisymm one other in
    let q_is : x.q ≡ y.q = omega (arith, ints, px, py, q_same) in
    let low : pos 0 <ℤ y.q = omega (arith, ints, py) in
    let e' : x.p *ℤ y.q ≡ y.p *ℤ y.q = e ∙ ap (λ n. y.p *ℤ n) q_is in
    let up = mul_most_inverse y.q x.p y.p low (omega (arith, ints, e', mul_comm x.p y.q, mul_comm y.p y.q)) in
    let down = mul_most_inverse y.q y.p x.p low (omega (arith, ints, e', mul_comm x.p y.q, mul_comm y.p y.q)) in
    let p_is : x.p ≡ y.p = omega (arith, ints, up, down) in
    let first : ℤ → Fraction = λ n. record { p = n; q = x.q } in
    let second : ℤ → Fraction = λ n. record { p = y.p; q = n } in
    ap first p_is ∙ ap second q_is

pub equal_both : (x y z : Fraction) → IsParameter x → IsEqual y x → IsEqual z x → IsEqual y z
equal_both x y z h e f =
    let a = mul_comm x.q (y.p *ℤ z.q) ∙ mul_assoc y.p z.q x.q ∙ ap (λ n. y.p *ℤ n) (mul_comm z.q x.q) ∙ sym (mul_assoc y.p x.q z.q) ∙ ap (λ n. n *ℤ z.q) e ∙ mul_assoc x.p y.q z.q in
    let b = mul_comm x.q (z.p *ℤ y.q) ∙ mul_assoc z.p y.q x.q ∙ ap (λ n. z.p *ℤ n) (mul_comm y.q x.q) ∙ sym (mul_assoc z.p x.q y.q) ∙ ap (λ n. n *ℤ y.q) f ∙ mul_assoc x.p z.q y.q in
    let c = ap (λ n. x.p *ℤ n) (mul_comm y.q z.q) in
    let low : pos 0 <ℤ x.q = omega (arith, ints, h) in
    let up = mul_most_inverse x.q (y.p *ℤ z.q) (z.p *ℤ y.q) low (omega (arith, ints, a, b, c)) in
    let down = mul_most_inverse x.q (z.p *ℤ y.q) (y.p *ℤ z.q) low (omega (arith, ints, a, b, c)) in
    omega (arith, ints, up, down)

-- `lowest x` is equal to x and in lowest terms
pub lowest_is : (x : Fraction) → IsParameter x → IsReduced x (lowest x)
unfolding lowest
lowest_is x h =
    let a = nat_abs x.p in
    let b = nat_abs x.q in
    let g = divisor_within (suc b) a b in
    reduced x g h (divisor_of x g h (divisor_is (suc b) a b (omega arith)))

-- and whatever is so is `lowest x`
pub lowest_only : (x y : Fraction) → IsParameter x → IsParameter y → IsEqual y x → IsLowest y → y ≡ lowest x
lowest_only x y h k e alone =
    let l = lowest_is x h in
    same_fraction y (lowest x) k l.parameter alone l.lowest (equal_both x y (lowest x) h e l.equal)

-- equal parameters have the same lowest terms
pub lowest_same : (x y : Fraction) → IsParameter x → IsParameter y → IsEqual x y → lowest x ≡ lowest y
lowest_same x y h k e =
    let l = lowest_is x h in
    lowest_only y (lowest x) k l.parameter (equal_both x (lowest x) y h l.equal (sym e)) l.lowest

pub lowest_stays : (x : Fraction) → IsParameter x → IsLowest x → lowest x ≡ x
lowest_stays x h alone = sym (lowest_only x x h h refl alone)

-- the order is that of the lowest terms

shuffle : (a b c : ℤ) → a *ℤ (b *ℤ c) ≡ b *ℤ (a *ℤ c)
shuffle a b c = sym (mul_assoc a b c) ∙ ap (λ n. n *ℤ c) (mul_comm a b) ∙ mul_assoc b a c

less_inverse : (k a b : ℤ) → pos 1 ≤ℤ k → (k *ℤ a) <ℤ (k *ℤ b) → a <ℤ b
less_inverse k a b h l =
    by_lt_z a b (λ less. less) (λ back. absurd (let e = mul_most k b a (omega (arith, ints, h)) back in omega (arith, ints, e, l)))

pub below_equal : (x y z : Fraction) → IsParameter x → IsParameter y → IsParameter z → IsBelow x y → IsEqual y z → IsBelow x z
below_equal x y z px py pz below e =
    let more = mul_less z.q (x.p *ℤ y.q) (y.p *ℤ x.q) (omega (arith, ints, pz)) below in
    let left = shuffle y.q x.p z.q ∙ ap (λ n. x.p *ℤ n) (mul_comm y.q z.q) ∙ shuffle x.p z.q y.q in
    let right = shuffle y.q z.p x.q ∙ sym (mul_assoc z.p y.q x.q) ∙ ap (λ n. n *ℤ x.q) (sym e) ∙ mul_assoc y.p z.q x.q ∙ shuffle y.p z.q x.q in
    less_inverse y.q (x.p *ℤ z.q) (z.p *ℤ x.q) py (omega (arith, ints, more, left, right))

pub equal_below : (x y z : Fraction) → IsParameter x → IsParameter y → IsParameter z → IsEqual x y → IsBelow y z → IsBelow x z
equal_below x y z px py pz e below =
    let more = mul_less x.q (y.p *ℤ z.q) (z.p *ℤ y.q) (omega (arith, ints, px)) below in
    let left = shuffle y.q x.p z.q ∙ sym (mul_assoc x.p y.q z.q) ∙ ap (λ n. n *ℤ z.q) e ∙ mul_assoc y.p x.q z.q ∙ shuffle y.p x.q z.q in
    let right = shuffle y.q z.p x.q ∙ ap (λ n. z.p *ℤ n) (mul_comm y.q x.q) ∙ shuffle z.p x.q y.q in
    less_inverse y.q (x.p *ℤ z.q) (z.p *ℤ x.q) py (omega (arith, ints, more, left, right))

-- worked by hand
lowest_row : lowest (record { p = pos 8; q = pos 2 }) ≡ record { p = pos 4; q = pos 1 }
unfolding lowest
lowest_row = refl

lowest_row_negative : lowest (record { p = negsuc 5; q = pos 1000000000 }) ≡ record { p = negsuc 2; q = pos 500000000 }
unfolding lowest
lowest_row_negative = refl

lowest_row_zero : lowest (record { p = pos 0; q = pos 7 }) ≡ record { p = pos 0; q = pos 1 }
unfolding lowest
lowest_row_zero = refl
