-- A fraction within bounds, divided by the greatest common divisor of its two numbers.
use Rattle.std.proofs.Common.{◌≡◌, ℕ, arith, ap, ◌∙◌, subst, to_z, of_z}
use Rattle.std.specs.Prelude.{ℤ, pos, nat_abs, int_div}
use Rattle.std.specs.Int.{IsGcd}
use Rattle.std.proofs.lemmas.Int.{ints}
use Rattle.pf_model.specs.Fraction.{Fraction, IsBoundedFraction, IsLowest, IsEqual, lowest}
use Rattle.pf_model.proofs.Lowest.{IsDivisor, divisor_of, divided, reduced, lowest_only}
use Rattle.pf_rat.proofs.Products.{comes_back}
use mir.Syntax.{w128}

-- the divisor of the two absolute values, as the code has them
pub divisor_of_values : (x : Fraction) (a b g : ℕ) → IsBoundedFraction x → a ≡ nat_abs (to_z w128 (of_z w128 x.p)) → b ≡ nat_abs (to_z w128 (of_z w128 x.q)) →
    IsGcd a b g → IsDivisor x g
divisor_of_values x a b g f e k h =
    let left : a ≡ nat_abs x.p = e ∙ ap nat_abs (comes_back x.p (omega (arith, ints, f.p_low, f.p_high))) in
    let right : b ≡ nat_abs x.q = k ∙ ap nat_abs (comes_back x.q (omega (arith, ints, f.parameter, f.q_high))) in
    let P : ℕ → Type 0 = λ n. IsGcd n (nat_abs x.q) g in
    let Q : ℕ → Type 0 = λ n. IsGcd a n g in
    divisor_of x g f.parameter (subst P left (subst Q right h))

-- a number goes to bits, is divided, and goes to bits again
abbrev returned : ℤ → ℕ → ℤ
returned z g = to_z w128 (of_z w128 (int_div (to_z w128 (of_z w128 z)) (pos g)))

pub record IsDivided (x : Fraction) (g : ℕ) : Type 0 where
  pub value : divided x g ≡ lowest x
  pub equal : IsEqual (divided x g) x
  pub lowest : IsLowest (divided x g)
  pub bounds : IsBoundedFraction (divided x g)
  pub p_back : returned x.p g ≡ int_div x.p (pos g)
  pub q_back : returned x.q g ≡ int_div x.q (pos g)

pub divided_is : (x : Fraction) (g : ℕ) → IsBoundedFraction x → IsDivisor x g → IsDivided x g
divided_is x g f d =
    let r = reduced x g f.parameter d in
    let p = int_div x.p (pos g) in
    let q = int_div x.q (pos g) in
    record {
      value = lowest_only x (divided x g) f.parameter r.parameter r.equal r.lowest;
      equal = r.equal;
      lowest = r.lowest;
      bounds = record {
        p_low = omega (arith, ints, r.p_size, f.p_low, f.p_high);
        p_high = omega (arith, ints, r.p_size, f.p_low, f.p_high);
        parameter = r.parameter;
        q_high = omega (arith, ints, r.parameter, r.q_size, f.parameter, f.q_high);
      };
      p_back =
          ap (λ n. to_z w128 (of_z w128 (int_div n (pos g)))) (comes_back x.p (omega (arith, ints, f.p_low, f.p_high)))
          ∙ comes_back p (omega (arith, ints, r.p_size, f.p_low, f.p_high));
      q_back =
          ap (λ n. to_z w128 (of_z w128 (int_div n (pos g)))) (comes_back x.q (omega (arith, ints, f.parameter, f.q_high)))
          ∙ comes_back q (omega (arith, ints, r.q_size, f.parameter, f.q_high));
    }
