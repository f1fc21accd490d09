-- A graph has one strength.
use Rattle.std.proofs.Common.{◌≡◌, ℕ, List, ap, sym, ◌∙◌, arith}
use Rattle.std.specs.Prelude.{ℤ, ◌-ℤ◌, ◌*ℤ◌, ◌≤ℤ◌, pos}
use Rattle.std.proofs.lemmas.Int.{ints}
use Rattle.pf_model.specs.Fraction.{Fraction, IsAtMost, IsEqual}
use Rattle.pf_model.proofs.Integers.{mul_comm, mul_most, mul_most_inverse, swap}
use Rattle.pf_model.proofs.Lowest.{same_fraction}
use Rattle.pf_graph.specs.WeightedGraph.{WeightedGraph}
use Rattle.pf_graph.specs.Labels.{parts}
use Rattle.pf_graph.specs.Best.{crossing_of, IsStrength}
use Rattle.pf_strength.specs.Right.{IsRightStrength}

-- p/q is at most the ratio c/k, which is p'/q'
at_most_ratio : (p q p' q' c k : ℤ) → pos 1 ≤ℤ q' → pos 1 ≤ℤ k → (p *ℤ k) ≤ℤ (q *ℤ c) → q' *ℤ c ≡ p' *ℤ k → (p *ℤ q') ≤ℤ (p' *ℤ q)
at_most_ratio p q p' q' c k unit some most ratio =
    let a = mul_most q' (p *ℤ k) (q *ℤ c) (omega (arith, ints, unit)) most in
    let left : q' *ℤ (p *ℤ k) ≡ k *ℤ (p *ℤ q') = swap q' p k ∙ ap (λ n. p *ℤ n) (mul_comm k q') ∙ sym (swap k p q') in
    let right : q' *ℤ (q *ℤ c) ≡ k *ℤ (p' *ℤ q) =
    swap q' q c ∙ ap (λ n. q *ℤ n) (mul_comm c q' ∙ ratio) ∙ swap q p' k ∙ ap (λ n. p' *ℤ n) (mul_comm k q) ∙ sym (swap k p' q) in
    mul_most_inverse k (p *ℤ q') (p' *ℤ q) (omega (arith, ints, some)) (omega (arith, ints, a, left, right))

-- no strength is above another
at_most_strength : (g : WeightedGraph) (x y : Fraction) (d r : List ℕ) → IsStrength g x d → IsStrength g y r → IsAtMost x y
at_most_strength g x y d r a b =
    let two = b.two in
    at_most_ratio x.p x.q y.p y.q (crossing_of g r) (pos (parts r) -ℤ pos 1) b.parameter (omega (arith, ints, two))
    (a.least r b.partition.full two) b.attained

pub one_strength : (g : WeightedGraph) (x y : Fraction) (d r : List ℕ) → IsStrength g x d → IsStrength g y r → IsEqual x y
one_strength g x y d r a b =
    let to = at_most_strength g x y d r a b in
    let back = at_most_strength g y x r d b a in
    omega (arith, ints, to, back)

pub one_level : (g : WeightedGraph) (text other : List ℕ) (a : IsRightStrength g text) (b : IsRightStrength g other) → a.answer.level ≡ b.answer.level
one_level g text other a b =
    same_fraction a.answer.level b.answer.level a.best.parameter b.best.parameter a.shape.level.lowest b.shape.level.lowest
    (one_strength g a.answer.level b.answer.level a.answer.parts b.answer.parts a.best b.best)
