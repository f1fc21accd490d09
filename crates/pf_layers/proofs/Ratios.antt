-- Fractions of two sums, against each other.
use Rattle.std.proofs.Common.{◌≡◌, arith, ap, sym, ◌∙◌}
use Rattle.std.specs.Prelude.{ℤ, ◌*ℤ◌, ◌≤ℤ◌, pos}
use Rattle.std.proofs.lemmas.Int.{ints}
use Rattle.pf_model.proofs.Integers.{mul_assoc, mul_comm, mul_most, mul_most_inverse}

scaled : (q p' q' a b : ℤ) → q' *ℤ a ≡ p' *ℤ b → q' *ℤ (q *ℤ a) ≡ b *ℤ (p' *ℤ q)
scaled q p' q' a b same =
    sym (mul_assoc q' q a) ∙ ap (λ n. n *ℤ a) (mul_comm q' q) ∙ mul_assoc q q' a ∙ ap (λ n. q *ℤ n) same
    ∙ sym (mul_assoc q p' b) ∙ mul_comm (q *ℤ p') b ∙ ap (λ n. b *ℤ n) (mul_comm q p')

pub scaled_plain : (p q' b : ℤ) → q' *ℤ (p *ℤ b) ≡ b *ℤ (p *ℤ q')
scaled_plain p q' b = sym (mul_assoc q' p b) ∙ mul_comm (q' *ℤ p) b ∙ ap (λ n. b *ℤ n) (mul_comm q' p)

-- where a / b is p' / q' and at most p / q, or at least
pub at_most_by : (p q p' q' a b : ℤ) → pos 1 ≤ℤ q' → pos 1 ≤ℤ b → (q *ℤ a) ≤ℤ (p *ℤ b) → q' *ℤ a ≡ p' *ℤ b → (p' *ℤ q) ≤ℤ (p *ℤ q')
at_most_by p q p' q' a b unit heavy most same =
    let more = mul_most q' (q *ℤ a) (p *ℤ b) (omega (arith, ints, unit)) most in
    let left = scaled q p' q' a b same in
    let right = scaled_plain p q' b in
    mul_most_inverse b (p' *ℤ q) (p *ℤ q') (omega (arith, ints, heavy)) (omega (arith, ints, more, left, right))

pub at_least_by : (p q p' q' a b : ℤ) → pos 1 ≤ℤ q' → pos 1 ≤ℤ b → (p *ℤ b) ≤ℤ (q *ℤ a) → q' *ℤ a ≡ p' *ℤ b → (p *ℤ q') ≤ℤ (p' *ℤ q)
at_least_by p q p' q' a b unit heavy most same =
    let more = mul_most q' (p *ℤ b) (q *ℤ a) (omega (arith, ints, unit)) most in
    let left = scaled q p' q' a b same in
    let right = scaled_plain p q' b in
    mul_most_inverse b (p *ℤ q') (p' *ℤ q) (omega (arith, ints, heavy)) (omega (arith, ints, more, left, right))

-- what is the one fraction is an equal one too
pub carried_over : (p q p' q' a b : ℤ) → pos 1 ≤ℤ q' → p *ℤ q' ≡ p' *ℤ q → q' *ℤ a ≡ p' *ℤ b → q *ℤ a ≡ p *ℤ b
carried_over p q p' q' a b unit equal same =
    let e : q' *ℤ (q *ℤ a) ≡ q' *ℤ (p *ℤ b) = scaled q p' q' a b same ∙ ap (λ n. b *ℤ n) (sym equal) ∙ sym (scaled_plain p q' b) in
    let one = mul_most_inverse q' (q *ℤ a) (p *ℤ b) (omega (arith, ints, unit)) (omega (arith, ints, e)) in
    let two = mul_most_inverse q' (p *ℤ b) (q *ℤ a) (omega (arith, ints, unit)) (omega (arith, ints, e)) in
    omega (arith, ints, one, two)
