-- At most one ratio and one closure are best.
use Rattle.std.proofs.Common.{◌≡◌, List, Bool, arith, ap, sym, ◌∙◌}
use Rattle.std.specs.Prelude.{ℤ, ◌*ℤ◌, ◌≤ℤ◌, pos}
use Rattle.std.proofs.lemmas.Int.{ints}
use Rattle.pf_model.specs.Fraction.{Fraction, IsEqual, IsLowest}
use Rattle.pf_model.proofs.Integers.{mul_assoc, mul_comm, mul_most, mul_most_inverse}
use Rattle.pf_model.proofs.Unique.{same_sides}
use Rattle.pf_model.proofs.Lowest.{same_fraction}
use Rattle.pf_closure.specs.Problem.{ClosureProblem, IsClosureProblem, IsLeastRatio, cost_of, weight_of}
use Rattle.pf_closure.specs.Laws.{IsSameAnswer}
use Rattle.pf_closure.proofs.ItemSums.{weight_some}

-- x.p w is at most x.q c, and y.q c is y.p w
ratio_at_most : (p q p' q' c w : ℤ) → pos 1 ≤ℤ q' → pos 1 ≤ℤ w → (p *ℤ w) ≤ℤ (q *ℤ c) → q' *ℤ c ≡ p' *ℤ w → (p *ℤ q') ≤ℤ (p' *ℤ q)
ratio_at_most p q p' q' c w unit heavy most same =
    let a = mul_most q' (p *ℤ w) (q *ℤ c) (omega (arith, ints, unit)) most in
    let left : q' *ℤ (p *ℤ w) ≡ w *ℤ (p *ℤ q') =
    sym (mul_assoc q' p w) ∙ mul_comm (q' *ℤ p) w ∙ ap (λ n. w *ℤ n) (mul_comm q' p) in
    let right : q' *ℤ (q *ℤ c) ≡ w *ℤ (p' *ℤ q) =
    sym (mul_assoc q' q c) ∙ ap (λ n. n *ℤ c) (mul_comm q' q) ∙ mul_assoc q q' c ∙ ap (λ n. q *ℤ n) same
    ∙ sym (mul_assoc q p' w) ∙ mul_comm (q *ℤ p') w ∙ ap (λ n. w *ℤ n) (mul_comm q p') in
    mul_most_inverse w (p *ℤ q') (p' *ℤ q) (omega (arith, ints, heavy)) (omega (arith, ints, a, left, right))

-- with equal ratios, a closure of the one is of the other too
carried_over : (p q p' q' c w : ℤ) → pos 1 ≤ℤ q' → p *ℤ q' ≡ p' *ℤ q → q' *ℤ c ≡ p' *ℤ w → q *ℤ c ≡ p *ℤ w
carried_over p q p' q' c w unit equal same =
    let e : q' *ℤ (q *ℤ c) ≡ q' *ℤ (p *ℤ w) =
    sym (mul_assoc q' q c) ∙ ap (λ n. n *ℤ c) (mul_comm q' q) ∙ mul_assoc q q' c ∙ ap (λ n. q *ℤ n) same
    ∙ sym (mul_assoc q p' w) ∙ ap (λ n. n *ℤ w) (mul_comm q p' ∙ sym equal ∙ mul_comm p q') ∙ mul_assoc q' p w in
    let one = mul_most_inverse q' (q *ℤ c) (p *ℤ w) (omega (arith, ints, unit)) (omega (arith, ints, e)) in
    let two = mul_most_inverse q' (p *ℤ w) (q *ℤ c) (omega (arith, ints, unit)) (omega (arith, ints, e)) in
    omega (arith, ints, one, two)

weighs : (p : ClosureProblem) (x : Fraction) (set : List Bool) → IsClosureProblem p → IsLeastRatio p x set → pos 1 ≤ℤ weight_of p set
weighs p x set problem b =
    let wide = problem.full in
    let full = b.closure.full in
    weight_some set p.weights b.some.item (λ i low. problem.heavy i (omega (arith, low))) (omega arith) b.some.held

pub best_at_most : (p : ClosureProblem) (x y : Fraction) (set other : List Bool) → IsClosureProblem p → IsLeastRatio p x set → IsLeastRatio p y other →
    (x.p *ℤ y.q) ≤ℤ (y.p *ℤ x.q)
best_at_most p x y set other problem a b =
    ratio_at_most x.p x.q y.p y.q (cost_of p other) (weight_of p other) b.parameter (weighs p y other problem b)
    (a.least other b.closure b.some) b.ratio

pub best_equal : (p : ClosureProblem) (x y : Fraction) (set other : List Bool) → IsClosureProblem p → IsLeastRatio p x set → IsLeastRatio p y other → IsEqual x y
best_equal p x y set other problem a b =
    let one = best_at_most p x y set other problem a b in
    let two = best_at_most p y x other set problem b a in
    omega (arith, ints, one, two)

pub one_best : (p : ClosureProblem) (x y : Fraction) (set other : List Bool) → IsClosureProblem p → IsLeastRatio p x set → IsLeastRatio p y other → IsSameAnswer x y set other
one_best p x y set other problem a b =
    let equal = best_equal p x y set other problem a b in
    record {
      equal = equal;
      same = same_sides set other (a.closure.full ∙ sym b.closure.full)
          (b.greatest set a.closure a.some (carried_over y.p y.q x.p x.q (cost_of p set) (weight_of p set) a.parameter (sym equal) a.ratio))
          (a.greatest other b.closure b.some (carried_over x.p x.q y.p y.q (cost_of p other) (weight_of p other) b.parameter equal b.ratio));
    }

pub one_lowest : (p : ClosureProblem) (x y : Fraction) (set other : List Bool) → IsClosureProblem p → IsLeastRatio p x set → IsLeastRatio p y other →
    IsLowest x → IsLowest y → x ≡ y
one_lowest p x y set other problem a b low low' =
    same_fraction x y a.parameter b.parameter low low' (best_equal p x y set other problem a b)
