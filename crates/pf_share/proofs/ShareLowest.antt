-- The product of a level and a weight in lowest terms: the weight meets the level's denominator first.
use Rattle.std.proofs.Common.{◌≡◌, ℕ, zero, suc, ◌*◌, ◌/◌, ◌^◌, ◌<◌, ◌≤◌, arith, ap, sym, subst, ◌∙◌, to_z, of_z}
use Rattle.std.specs.Prelude.{ℤ, ◌*ℤ◌, ◌≤ℤ◌, pos, neg_ℤ, nat_abs}
use Rattle.std.specs.Int.{w128, IsGcd}
use Rattle.std.proofs.lemmas.Int.{ints, unsigned_abs-mul}
use Rattle.std.proofs.lemmas.Nat.Gcd.{dvd_trans, dvd-zero}
use Rattle.std.proofs.Math.Nat.{div-mul_cancel, dvd-mul_left, dvd-mul_right, dvd_of_mul-dvd-mul_right}
use Rattle.pf_model.specs.Fraction.{Fraction, IsParameter, IsEqual, IsLowest, divisor_within, lowest}
use Rattle.pf_model.proofs.Integers.{mul_assoc}
use Rattle.pf_model.proofs.Lowest.{divisor_is, lowest_is, lowest_only}
use Rattle.pf_rat.proofs.Products.{product_abs, comes_back}
use Rattle.pf_share.specs.Certificate.{share_of}
use Prim.Native.Nat.{◌∣◌}

-- no number above 1 divides both
abbrev ArePrime : ℕ → ℕ → Type 0
ArePrime a b = (d : ℕ) → d ∣ a → d ∣ b → d ≡ 1

-- what divides a product, and is prime to the one factor, divides the other
euclid : (a b k d : ℕ) → ArePrime a b → a * d ≡ k * b → b ∣ d
euclid a b k zero alone e = dvd-zero b
euclid a b k (suc c) alone e =
    let d : ℕ = suc c in
    let some : 0 < d = omega arith in
    let g = divisor_within (suc (b * d)) (a * d) (b * d) in
    let common : IsGcd (a * d) (b * d) g = divisor_is (suc (b * d)) (a * d) (b * d) (omega arith) in
    let whole = div-mul_cancel d (common.2 d (dvd-mul_left d a) (dvd-mul_left d b)) in
    let P : ℕ → Type 0 = λ n. n ∣ a * d in
    let Q : ℕ → Type 0 = λ n. n ∣ b * d in
    let left = dvd_of_mul-dvd-mul_right (g / d) some (subst P (sym whole) common.0) in
    let right = dvd_of_mul-dvd-mul_right (g / d) some (subst Q (sym whole) common.1) in
    let one : g / d ≡ 1 = alone (g / d) left right in
    let R : ℕ → Type 0 = λ n. b ∣ n in
    let up = common.2 b (subst R (sym e) (dvd-mul_left b k)) (dvd-mul_right b d) in
    let u : 1 * d ≡ d = omega arith in
    subst R (sym whole ∙ ap (λ n. n * d) one ∙ u) up

-- a product of two numbers that are prime to a third one is prime to it
prime_product : (a b n : ℕ) → ArePrime a n → ArePrime b n → ArePrime (a * b) n
prime_product a b n first second d divides below =
    let apart : ArePrime a d = λ e over under. first e over (dvd_trans e under below) in
    second d (euclid a d (a * b / d) b apart (sym (div-mul_cancel d divides))) below

abbrev pub fraction_by : ℤ → ℤ → Fraction
fraction_by p q = record { p = p; q = q }

-- (weight / q) in lowest terms, times the numerator
pub share_lowest : (level part : Fraction) (weight : ℤ) → IsParameter level → IsLowest level → part ≡ lowest (fraction_by weight level.q) →
    fraction_by (level.p *ℤ part.p) part.q ≡ lowest (share_of level weight)
share_lowest level part weight h alone is =
    let whole = fraction_by weight level.q in
    let l = lowest_is whole h in
    let P : Fraction → Type 0 = λ x. IsParameter x in
    let L : Fraction → Type 0 = λ x. IsLowest x in
    let E : Fraction → Type 0 = λ x. IsEqual x whole in
    let parameter : IsParameter part = subst P (sym is) l.parameter in
    let lone : IsLowest part = subst L (sym is) l.lowest in
    let equal : part.p *ℤ level.q ≡ weight *ℤ part.q = subst E (sym is) l.equal in
    let product = unsigned_abs-mul level.p part.p in
    let cross : nat_abs part.p * nat_abs level.q ≡ nat_abs weight * nat_abs part.q =
    sym (unsigned_abs-mul part.p level.q) ∙ ap nat_abs equal ∙ unsigned_abs-mul weight part.q in
    let divides : nat_abs part.q ∣ nat_abs level.q = euclid (nat_abs part.p) (nat_abs part.q) (nat_abs weight) (nat_abs level.q) lone.alone cross in
    let first : ArePrime (nat_abs level.p) (nat_abs part.q) = λ d over under. alone.alone d over (dvd_trans d under divides) in
    let both = prime_product (nat_abs level.p) (nat_abs part.p) (nat_abs part.q) first lone.alone in
    let D : ℕ → Type 0 = λ n. ArePrime n (nat_abs part.q) in
    lowest_only (share_of level weight) (fraction_by (level.p *ℤ part.p) part.q) h parameter
    (mul_assoc level.p part.p level.q ∙ ap (λ n. level.p *ℤ n) equal ∙ sym (mul_assoc level.p weight part.q))
    (record { alone = subst D (sym product) both })

-- the weight gets no larger by it
pub part_size : (q weight : ℤ) (part : Fraction) → pos 1 ≤ℤ q → part ≡ lowest (fraction_by weight q) → nat_abs part.p ≤ nat_abs weight
part_size q weight part h is =
    let P : Fraction → Type 0 = λ x. nat_abs x.p ≤ nat_abs weight in
    subst P (sym is) (lowest_is (fraction_by weight q) h).p_size

pub part_small : (q : ℤ) (weight : ℕ) (part : Fraction) → pos 1 ≤ℤ q → weight ≤ 1000000 → part ≡ lowest (fraction_by (pos weight) q) →
    (neg_ℤ (pos (2 ^ 20)) ≤ℤ part.p) × (part.p ≤ℤ pos (2 ^ 20))
part_small q weight part h small is =
    let size = part_size q (pos weight) part h is in
    (omega (arith, ints, size, small), omega (arith, ints, size, small))

-- the product of the numerators, which went to bits and back
pub product_kept : (p part : ℤ) → neg_ℤ (pos (2 ^ 73)) ≤ℤ p → p ≤ℤ pos (2 ^ 73) → neg_ℤ (pos (2 ^ 20)) ≤ℤ part → part ≤ℤ pos (2 ^ 20) →
    to_z w128 (of_z w128 (to_z w128 (of_z w128 p) *ℤ to_z w128 (of_z w128 part))) ≡ p *ℤ part
product_kept p part p_low p_high part_low part_high =
    let first : nat_abs p ≤ 2 ^ 73 = omega (arith, ints, p_low, p_high) in
    let second : nat_abs part ≤ 2 ^ 20 = omega (arith, ints, part_low, part_high) in
    let size = product_abs p part (2 ^ 73) (2 ^ 20) first second in
    rw (comes_back p (omega (arith, first)), comes_back part (omega (arith, second))) (comes_back (p *ℤ part) (omega (arith, size)))

pub product_within : (p part : ℤ) → neg_ℤ (pos (2 ^ 73)) ≤ℤ p → p ≤ℤ pos (2 ^ 73) → neg_ℤ (pos (2 ^ 20)) ≤ℤ part → part ≤ℤ pos (2 ^ 20) →
    (neg_ℤ (pos (2 ^ 93)) ≤ℤ (p *ℤ part)) × ((p *ℤ part) ≤ℤ pos (2 ^ 93))
product_within p part p_low p_high part_low part_high =
    let first : nat_abs p ≤ 2 ^ 73 = omega (arith, ints, p_low, p_high) in
    let second : nat_abs part ≤ 2 ^ 20 = omega (arith, ints, part_low, part_high) in
    let size = product_abs p part (2 ^ 73) (2 ^ 20) first second in
    (omega (arith, ints, size), omega (arith, ints, size))
