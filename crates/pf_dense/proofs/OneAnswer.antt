-- At most one density and one set are best.
use Rattle.std.proofs.Common.{◌≡◌, ℕ, zero, suc, ◌<◌, List, [], ◌∷◌, length, Bool, true, arith, ap, sym, ◌∙◌}
use Rattle.std.specs.Prelude.{ℤ, ◌*ℤ◌, ◌≤ℤ◌, pos}
use Rattle.std.proofs.lemmas.Int.{ints}
use Rattle.pf_model.specs.Fraction.{Fraction, IsEqual, IsLowest}
use Rattle.pf_model.specs.Cut.{has, at_arc}
use Rattle.pf_model.proofs.Integers.{mul_assoc, mul_comm, mul_most, mul_most_inverse}
use Rattle.pf_model.proofs.Unique.{same_sides}
use Rattle.pf_model.proofs.Lowest.{same_fraction}
use Rattle.pf_graph.specs.WeightedGraph.{WeightedGraph, IsWeightedGraph, cost_of}
use Rattle.pf_dense.specs.Densest.{weight_inside, cost_within, HasPositiveCosts, IsVertexSet, IsDensest}
use Rattle.pf_dense.specs.Laws.{IsSameAnswer}
use Rattle.pf_model.proofs.Facts.{first_step, later_step, some_step}

pub cost_low : (costs : List ℤ) (set : List Bool) → ((v : ℕ) → v < length costs → pos 1 ≤ℤ at_arc costs v) → pos 0 ≤ℤ cost_of costs set
cost_low [] set h = omega (arith, ints)
cost_low (x ∷ costs) [] h = omega (arith, ints)
cost_low (x ∷ costs) (b ∷ set) h = some_step b x _ (h 0 (omega arith)) (cost_low costs set (λ v low. h (suc v) (omega (arith, low))))

pub cost_some : (costs : List ℤ) (set : List Bool) (v : ℕ) → ((v : ℕ) → v < length costs → pos 1 ≤ℤ at_arc costs v) → length set ≡ length costs →
    has set v ≡ true → pos 1 ≤ℤ cost_of costs set
cost_some costs [] v h full e = cc
cost_some [] (b ∷ set) v h full e = absurd (omega arith)
cost_some (x ∷ costs) (b ∷ set) zero h full e =
    first_step b x _ e (h 0 (omega arith)) (cost_low costs set (λ u low. h (suc u) (omega (arith, low))))
cost_some (x ∷ costs) (b ∷ set) (suc v) h full e =
    later_step b x _ (h 0 (omega arith)) (cost_some costs set v (λ u low. h (suc u) (omega (arith, low))) (omega arith) e)

pub costs_some : (g : WeightedGraph) (set : List Bool) → IsWeightedGraph g → HasPositiveCosts g → IsVertexSet g set → pos 1 ≤ℤ cost_within g set
costs_some g set graph positive s =
    let wide = graph.costs_full in
    let full = s.full in
    cost_some g.costs set s.some.vertex (λ v low. positive.low v (omega (arith, low, wide))) (omega arith) s.some.held

-- x.q w is at most x.p c, and y.q w is y.p c
pub density_at_most : (p q p' q' w c : ℤ) → pos 1 ≤ℤ q' → pos 1 ≤ℤ c → (q *ℤ w) ≤ℤ (p *ℤ c) → q' *ℤ w ≡ p' *ℤ c → (p' *ℤ q) ≤ℤ (p *ℤ q')
density_at_most p q p' q' w c unit heavy most same =
    let a = mul_most q' (q *ℤ w) (p *ℤ c) (omega (arith, ints, unit)) most in
    let left : q' *ℤ (q *ℤ w) ≡ c *ℤ (p' *ℤ q) =
    sym (mul_assoc q' q w) ∙ ap (λ n. n *ℤ w) (mul_comm q' q) ∙ mul_assoc q q' w ∙ ap (λ n. q *ℤ n) same
    ∙ sym (mul_assoc q p' c) ∙ mul_comm (q *ℤ p') c ∙ ap (λ n. c *ℤ n) (mul_comm q p') in
    let right : q' *ℤ (p *ℤ c) ≡ c *ℤ (p *ℤ q') =
    sym (mul_assoc q' p c) ∙ mul_comm (q' *ℤ p) c ∙ ap (λ n. c *ℤ n) (mul_comm q' p) in
    mul_most_inverse c (p' *ℤ q) (p *ℤ q') (omega (arith, ints, heavy)) (omega (arith, ints, a, left, right))

-- with equal densities, a set of the one is of the other too
carried_over : (p q p' q' w c : ℤ) → pos 1 ≤ℤ q' → p *ℤ q' ≡ p' *ℤ q → q' *ℤ w ≡ p' *ℤ c → q *ℤ w ≡ p *ℤ c
carried_over p q p' q' w c unit equal same =
    let e : q' *ℤ (q *ℤ w) ≡ q' *ℤ (p *ℤ c) =
    sym (mul_assoc q' q w) ∙ ap (λ n. n *ℤ w) (mul_comm q' q) ∙ mul_assoc q q' w ∙ ap (λ n. q *ℤ n) same
    ∙ sym (mul_assoc q p' c) ∙ ap (λ n. n *ℤ c) (mul_comm q p' ∙ sym equal ∙ mul_comm p q') ∙ mul_assoc q' p c in
    let one = mul_most_inverse q' (q *ℤ w) (p *ℤ c) (omega (arith, ints, unit)) (omega (arith, ints, e)) in
    let two = mul_most_inverse q' (p *ℤ c) (q *ℤ w) (omega (arith, ints, unit)) (omega (arith, ints, e)) in
    omega (arith, ints, one, two)

pub densest_at_most : (g : WeightedGraph) (x y : Fraction) (set other : List Bool) → IsWeightedGraph g → HasPositiveCosts g → IsDensest g x set → IsDensest g y other →
    (y.p *ℤ x.q) ≤ℤ (x.p *ℤ y.q)
densest_at_most g x y set other graph positive a b =
    density_at_most x.p x.q y.p y.q (weight_inside g other) (cost_within g other) b.parameter (costs_some g other graph positive b.vertices)
    (a.greatest other b.vertices) b.density

pub densest_equal : (g : WeightedGraph) (x y : Fraction) (set other : List Bool) → IsWeightedGraph g → HasPositiveCosts g → IsDensest g x set → IsDensest g y other → IsEqual x y
densest_equal g x y set other graph positive a b =
    let one = densest_at_most g x y set other graph positive a b in
    let two = densest_at_most g y x other set graph positive b a in
    omega (arith, ints, one, two)

pub one_densest : (g : WeightedGraph) (x y : Fraction) (set other : List Bool) → IsWeightedGraph g → HasPositiveCosts g → IsDensest g x set → IsDensest g y other →
    IsSameAnswer x y set other
one_densest g x y set other graph positive a b =
    let equal = densest_equal g x y set other graph positive a b in
    record {
      equal = equal;
      same = same_sides set other (a.vertices.full ∙ sym b.vertices.full)
          (b.holds set a.vertices (carried_over y.p y.q x.p x.q (weight_inside g set) (cost_within g set) a.parameter (sym equal) a.density))
          (a.holds other b.vertices (carried_over x.p x.q y.p y.q (weight_inside g other) (cost_within g other) b.parameter equal b.density));
    }

pub one_lowest : (g : WeightedGraph) (x y : Fraction) (set other : List Bool) → IsWeightedGraph g → HasPositiveCosts g → IsDensest g x set → IsDensest g y other →
    IsLowest x → IsLowest y → x ≡ y
one_lowest g x y set other graph positive a b low low' =
    same_fraction x y a.parameter b.parameter low low' (densest_equal g x y set other graph positive a b)
