-- The ratio of a set of items.
use Rattle.std.proofs.Common.{◌≡◌, ℕ, suc, ◌*◌, ◌^◌, ◌<◌, List, [], ◌∷◌, length, Bool, true, false, cond, arith, ap, sym, ◌∙◌}
use Rattle.std.specs.Prelude.{ℤ, ◌+ℤ◌, ◌*ℤ◌, ◌≤ℤ◌, pos, neg_ℤ}
use Rattle.std.proofs.lemmas.Int.{ints}
use Rattle.pf_model.specs.Fraction.{Fraction, IsBoundedFraction, lowest}
use Rattle.pf_model.specs.Cut.{at_arc}
use Rattle.pf_model.specs.Network.{IsInInterval}
use Rattle.pf_model.proofs.Integers.{mul_add, mul_assoc, mul_comm, mul_most, mul_most_inverse}
use Rattle.pf_model.proofs.Lowest.{lowest_is}
use Rattle.pf_closure.specs.Problem.{ClosureProblem, IsNonempty, sum_of_side, cost_of, weight_of, IsBoundedProblem}
use Rattle.pf_closure.specs.Reduction.{closure_net}
use Rattle.pf_closure.proofs.ItemSums.{weight_some}

-- a cost is of a size of at most 1000000 times the weight
cost_step : (b : Bool) (c w costs weights : ℤ) → neg_ℤ (pos 1000000) ≤ℤ c → c ≤ℤ pos 1000000 → pos 1 ≤ℤ w →
    neg_ℤ (pos 1000000 *ℤ weights) ≤ℤ costs → costs ≤ℤ (pos 1000000 *ℤ weights) →
    (neg_ℤ (pos 1000000 *ℤ (cond b w (pos 0) +ℤ weights)) ≤ℤ (cond b c (pos 0) +ℤ costs)) × ((cond b c (pos 0) +ℤ costs) ≤ℤ (pos 1000000 *ℤ (cond b w (pos 0) +ℤ weights)))
cost_step true c w costs weights l h m low high = (omega (arith, ints), omega (arith, ints))
cost_step false c w costs weights l h m low high = (omega (arith, ints), omega (arith, ints))

cost_size : (set : List Bool) (costs weights : List ℤ) → length weights ≡ length costs → ((i : ℕ) → i < length costs → neg_ℤ (pos 1000000) ≤ℤ at_arc costs i) →
    ((i : ℕ) → i < length costs → at_arc costs i ≤ℤ pos 1000000) → ((i : ℕ) → i < length costs → pos 1 ≤ℤ at_arc weights i) →
    (neg_ℤ (pos 1000000 *ℤ sum_of_side set weights) ≤ℤ sum_of_side set costs) × (sum_of_side set costs ≤ℤ (pos 1000000 *ℤ sum_of_side set weights))
cost_size [] costs weights full l h m = (omega (arith, ints), omega (arith, ints))
cost_size (b ∷ set) [] [] full l h m = (omega (arith, ints), omega (arith, ints))
cost_size (b ∷ set) [] (w ∷ weights) full l h m = absurd (omega (arith, full))
cost_size (b ∷ set) (c ∷ costs) [] full l h m = absurd (omega (arith, full))
cost_size (b ∷ set) (c ∷ costs) (w ∷ weights) full l h m =
    let rest = cost_size set costs weights (omega (arith, full)) (λ i low. l (suc i) (omega (arith, low))) (λ i low. h (suc i) (omega (arith, low)))
    (λ i low. m (suc i) (omega (arith, low))) in
    cost_step b c w _ _ (l 0 (omega arith)) (h 0 (omega arith)) (m 0 (omega arith)) rest.0 rest.1

-- a weight is at most 1000000 for each item
weight_step : (b : Bool) (w rest : ℤ) (n : ℕ) → pos 1 ≤ℤ w → w ≤ℤ pos 1000000 → rest ≤ℤ pos (n * 1000000) → (cond b w (pos 0) +ℤ rest) ≤ℤ pos (suc n * 1000000)
weight_step true w rest n l h m = omega (arith, ints)
weight_step false w rest n l h m = omega (arith, ints)

weight_most : (set : List Bool) (weights : List ℤ) → ((i : ℕ) → i < length weights → pos 1 ≤ℤ at_arc weights i) →
    ((i : ℕ) → i < length weights → at_arc weights i ≤ℤ pos 1000000) → sum_of_side set weights ≤ℤ pos (length weights * 1000000)
weight_most [] weights l h = omega (arith, ints)
weight_most (b ∷ set) [] l h = omega (arith, ints)
weight_most (b ∷ set) (w ∷ weights) l h =
    weight_step b w _ (length weights) (l 0 (omega arith)) (h 0 (omega arith))
    (weight_most set weights (λ i low. l (suc i) (omega (arith, low))) (λ i low. h (suc i) (omega (arith, low))))

-- the bounds within which a ratio is made
pub record IsWeighed (p : ClosureProblem) (set : List Bool) : Type 0 where
  pub heavy : pos 1 ≤ℤ weight_of p set
  pub light : weight_of p set ≤ℤ pos 1000000000
  pub low : neg_ℤ (pos 1000000 *ℤ weight_of p set) ≤ℤ cost_of p set
  pub high : cost_of p set ≤ℤ (pos 1000000 *ℤ weight_of p set)

pub weighed : (p : ClosureProblem) (set : List Bool) → IsBoundedProblem p → length set ≡ length p.costs → IsNonempty set → IsWeighed p set
weighed p set items full some =
    let wide = items.problem.full in
    let few = items.few_items in
    let most = weight_most set p.weights (λ i low. items.problem.heavy i (omega (arith, low, wide))) (λ i low. items.weight_high i (omega (arith, low, wide))) in
    let size = cost_size set p.costs p.weights wide items.cost_low items.cost_high items.problem.heavy in
    record {
      heavy = weight_some set p.weights some.item (λ i low. items.problem.heavy i (omega (arith, low, wide))) (omega (arith, full, wide)) some.held;
      light = omega (arith, ints, most, wide, few);
      low = size.0;
      high = size.1;
    }

pub ratio_bounded : (p : ClosureProblem) (set : List Bool) → IsWeighed p set → IsBoundedFraction (record { p = cost_of p set; q = weight_of p set })
ratio_bounded p set w =
    let a = w.heavy in
    let b = w.light in
    let c = w.low in
    let d = w.high in
    record {
      p_low = omega (arith, ints, a, b, c);
      p_high = omega (arith, ints, a, b, d);
      parameter = a;
      q_high = omega (arith, ints, b);
    }

pub record IsRatioOf (p : ClosureProblem) (set : List Bool) (x : Fraction) : Type 0 where
  pub ratio : x.q *ℤ cost_of p set ≡ x.p *ℤ weight_of p set
  pub inside : IsInInterval (closure_net p) x
  pub small : x.q ≤ℤ pos (2 ^ 44)

neg_mul : (k x : ℤ) → k *ℤ neg_ℤ x ≡ neg_ℤ (k *ℤ x)
neg_mul k x =
    let none : x +ℤ neg_ℤ x ≡ pos 0 = omega (arith, ints) in
    let zero_times : k *ℤ pos 0 ≡ pos 0 = omega (arith, ints) in
    let e = ap (λ n. k *ℤ n) none in
    omega (arith, ints, mul_add k x (neg_ℤ x), e, zero_times)

inside_step : (p q c w : ℤ) → pos 1 ≤ℤ q → pos 1 ≤ℤ w → p *ℤ w ≡ c *ℤ q → neg_ℤ (pos 1000000 *ℤ w) ≤ℤ c → c ≤ℤ (pos 1000000 *ℤ w) →
    (neg_ℤ (pos 1000000 *ℤ q) ≤ℤ p) × (p ≤ℤ (pos 1000000 *ℤ q))
inside_step p q c w unit heavy same low high =
    let e = mul_comm c q in
    let f = mul_comm p w in
    let a = mul_most q (neg_ℤ (pos 1000000 *ℤ w)) c (omega (arith, ints, unit)) low in
    let b = mul_most q c (pos 1000000 *ℤ w) (omega (arith, ints, unit)) high in
    let g : q *ℤ (pos 1000000 *ℤ w) ≡ w *ℤ (pos 1000000 *ℤ q) =
    sym (mul_assoc q (pos 1000000) w) ∙ mul_comm (q *ℤ pos 1000000) w ∙ ap (λ n. w *ℤ n) (mul_comm q (pos 1000000)) in
    let h : q *ℤ neg_ℤ (pos 1000000 *ℤ w) ≡ neg_ℤ (q *ℤ (pos 1000000 *ℤ w)) = neg_mul q (pos 1000000 *ℤ w) in
    let k : w *ℤ neg_ℤ (pos 1000000 *ℤ q) ≡ neg_ℤ (w *ℤ (pos 1000000 *ℤ q)) = neg_mul w (pos 1000000 *ℤ q) in (
      mul_most_inverse w (neg_ℤ (pos 1000000 *ℤ q)) p (omega (arith, ints, heavy)) (omega (arith, ints, a, e, f, g, h, k, same)),
      mul_most_inverse w p (pos 1000000 *ℤ q) (omega (arith, ints, heavy)) (omega (arith, ints, b, e, f, g, same)),
    )

reduced_ratio : (p : ClosureProblem) (set : List Bool) → IsWeighed p set → IsRatioOf p set (lowest (record { p = cost_of p set; q = weight_of p set }))
reduced_ratio p set w =
    let r = lowest_is (record { p = cost_of p set; q = weight_of p set }) w.heavy in
    let y = lowest (record { p = cost_of p set; q = weight_of p set }) in
    let unit = r.parameter in
    let less = r.q_size in
    let a = w.heavy in
    let b = w.light in
    let same = r.equal in
    let sizes = inside_step y.p y.q (cost_of p set) (weight_of p set) unit a same w.low w.high in
    let l = sizes.0 in
    let h = sizes.1 in
    let one : y.p *ℤ pos 1 ≡ y.p = omega (arith, ints) in
    let turned = mul_comm (neg_ℤ (pos 1000001)) y.q in
    record {
      ratio = mul_comm y.q (cost_of p set) ∙ sym same;
      inside = record { parameter = unit; low = omega (arith, ints, l, unit, one, turned); high = omega (arith, ints, h, unit, one) };
      small = omega (arith, ints, less, a, b, unit);
    }

pub ratio_of_set : (p : ClosureProblem) (set : List Bool) (x : Fraction) → IsWeighed p set → x ≡ lowest (record { p = cost_of p set; q = weight_of p set }) → IsRatioOf p set x
ratio_of_set p set x w e = rw e (reduced_ratio p set w)
