-- Fractions, and lists of numbers, whose texts are equal are equal.
use Rattle.std.proofs.Common.{◌≡◌, ℕ, ◌<◌, ◌≤◌, ◌^◌, List, [], ◌∷◌, map, refl, arith}
use Rattle.std.specs.Prelude.{ℤ, nat_abs}
use Rattle.std.specs.List.{AllByRecursion}
use Rattle.std.specs.Fmt.{signed_decimal}
use Rattle.std.proofs.lemmas.Int.{ints}
use Rattle.pf_model.specs.Fraction.{Fraction}
use Rattle.pf_model.specs.Answer.{IsWithinSize, IsFractionShape}
use Rattle.pf_text.proofs.NumbersLemmas.{one_number}

pub within_digits : (bound : ℕ) (x : ℤ) → bound ≤ 2 ^ 119 → IsWithinSize bound x → nat_abs x < 10 ^ 64
within_digits bound x most size =
    let low = size.low in
    let high = size.high in
    omega (arith, ints, low, high)

abbrev fraction_of : ℤ → ℤ → Fraction
fraction_of p q = record { p = p; q = q }

of_parts : (p p' q q' : ℤ) → p ≡ p' → q ≡ q' → fraction_of p q ≡ fraction_of p' q'
of_parts p p' q q' e f = cc

pub same_fraction : (x y : Fraction) → IsFractionShape x → IsFractionShape y → signed_decimal x.p ≡ signed_decimal y.p → signed_decimal x.q ≡ signed_decimal y.q → x ≡ y
same_fraction x y shape shape' p q =
    let size : (z : Fraction) → IsFractionShape z → (nat_abs z.p < 10 ^ 64) × (nat_abs z.q < 10 ^ 64) = λ z s. (let a = s.bounds.p_low in let b = s.bounds.p_high in omega (arith, ints, a, b), let c = s.bounds.parameter in let d = s.bounds.q_high in omega (arith, ints, c, d)) in
    let same_p = one_number x.p y.p (size x shape).0 (size y shape').0 p in
    let same_q = one_number x.q y.q (size x shape).1 (size y shape').1 q in
    of_parts x.p y.p x.q y.q same_p same_q

pub same_numbers : (a b : List ℤ) → AllByRecursion (IsWithinSize (2 ^ 104)) a → AllByRecursion (IsWithinSize (2 ^ 104)) b → map signed_decimal a ≡ map signed_decimal b → a ≡ b
same_numbers [] [] sa sb e = refl
same_numbers [] (y ∷ b) sa sb e = absurd cc
same_numbers (x ∷ a) [] sa sb e = absurd cc
same_numbers (x ∷ a) (y ∷ b) sa sb e =
    let first : signed_decimal x ≡ signed_decimal y = cc in
    let later : map signed_decimal a ≡ map signed_decimal b = cc in
    let here = one_number x y (within_digits (2 ^ 104) x (omega arith) sa.0) (within_digits (2 ^ 104) y (omega arith) sb.0) first in
    let back = same_numbers a b sa.1 sb.1 later in
    cc
