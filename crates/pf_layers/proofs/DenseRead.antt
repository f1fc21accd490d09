-- The layers of a graph, read off the least-cut function of its network.
use Rattle.std.proofs.Common.{◌≡◌, ℕ, suc, ◌+◌, ◌<◌, List, length, Bool, true, ◌&&◌, arith, ap, ◌∙◌, add-one}
use Rattle.std.specs.Prelude.{ℤ, ◌-ℤ◌, ◌*ℤ◌, ◌≤ℤ◌, ◌<ℤ◌, pos, negsuc}
use Rattle.std.proofs.lemmas.Int.{ints}
use Rattle.std.proofs.lemmas.Bool.{and_parts, and_from}
use Rattle.pf_model.specs.Fraction.{Fraction, IsParameter, IsBelow, IsAtMost}
use Rattle.pf_model.specs.Cut.{has, capacity, IsLeast, IsSmallestLeast}
use Rattle.pf_model.specs.Network.{network_at}
use Rattle.pf_model.specs.Curve.{IsCurve, point_at, cut_at}
use Rattle.pf_model.proofs.Balance.{inside}
use Rattle.pf_model.proofs.Integers.{mul_most_negative}
use Rattle.pf_model.proofs.Certificate.{at_most_reflexive, point_is_parameter}
use Rattle.pf_graph.specs.WeightedGraph.{WeightedGraph, IsWeightedGraph, lies_in}
use Rattle.pf_dense.specs.Densest.{weight_inside, cost_within}
use Rattle.pf_dense.specs.Newton.{IsStep}
use Rattle.pf_dense.specs.Reduction.{dense_net, side_of, outside_of}
use Rattle.pf_dense.proofs.NetLemmas.{side_cut, side_capacity, cut_is_side, outside_full, at_cut, net_cut}
use Rattle.pf_dense.proofs.NewtonSteps.{step_of_cut}
use Rattle.pf_layers.proofs.SetSums.{sum_where_wider}
use Rattle.pf_layers.proofs.DenseNext.{IsLeastSet}

-- the vertices outside a least cut lack the least
pub least_of_cut : (g : WeightedGraph) (x : Fraction) (side : List Bool) → IsWeightedGraph g → IsLeast (network_at (dense_net g) x) side → IsLeastSet g x (outside_of g side)
least_of_cut g x side graph s =
    let net = network_at (dense_net g) x in
    let set = outside_of g side in
    let cut = net_cut g x side s.cut in
    let full = outside_full g side cut.full in
    let here = ap (capacity net) (cut_is_side g side cut) ∙ side_capacity g x set graph full in
    record {
      full = full;
      least = λ other long.
          let there = side_capacity g x other graph long in
          let most = s.least (side_of other) (at_cut g x (side_of other) (side_cut g other long)) in
          omega (arith, ints, here, there, most);
    }

-- at the level 0 all vertices lack the least
zero_deficit : (c w c' w' : ℤ) → w' ≤ℤ w → ((pos 0 *ℤ c) -ℤ (pos 1 *ℤ w)) ≤ℤ ((pos 0 *ℤ c') -ℤ (pos 1 *ℤ w'))
zero_deficit c w c' w' h = omega (arith, ints, h)

abbrev pub level_zero : Fraction
level_zero = record { p = pos 0; q = pos 1 }

both_in : (a b c d : Bool) → (a ≡ true → c ≡ true) → (b ≡ true → d ≡ true) → (a && b) ≡ true → (c && d) ≡ true
both_in a b c d h k e = let p = and_parts a b e in and_from c d (h p.0) (k p.1)

pub all_step : (g : WeightedGraph) (all : List Bool) → IsWeightedGraph g → length all ≡ g.nodes → ((v : ℕ) → v < g.nodes → has all v ≡ true) → IsStep g level_zero all
all_step g all graph full on = record {
  full = full;
  least = λ other long.
      zero_deficit (cost_within g all) (weight_inside g all) (cost_within g other) (weight_inside g other)
      (sum_where_wider (lies_in other) (lies_in all) g.ends g.weights graph.weights_low
      (λ edge. both_in (has other edge.0) (has other edge.1) (has all edge.0) (has all edge.1)
      (λ h. on edge.0 (let low = inside other edge.0 h in omega (arith, low, long)))
      (λ h. on edge.1 (let low = inside other edge.1 h in omega (arith, low, long)))));
  greatest = λ other long tie v h. on v (let low = inside other v h in omega (arith, low, long));
}

-- the cut after a point, and the one before it, both at that point
pub right_of : (g : WeightedGraph) (points : List Fraction) (cuts : List (List Bool)) (i : ℕ) → IsWeightedGraph g → IsCurve (dense_net g) points cuts → i < length cuts →
    IsLeastSet g (point_at (dense_net g) points i) (outside_of g (cut_at cuts i))
right_of g points cuts i graph c low =
    let net = dense_net g in
    let x = point_at net points i in
    let rise = c.division.rise i low in
    least_of_cut g x (cut_at cuts i) graph
    (c.least i low x (point_is_parameter net points cuts c.division i (omega (arith, low))) (at_most_reflexive x) (omega (arith, ints, rise)))

pub left_of : (g : WeightedGraph) (points : List Fraction) (cuts : List (List Bool)) (i : ℕ) → IsWeightedGraph g → IsCurve (dense_net g) points cuts → i < length cuts →
    IsStep g (point_at (dense_net g) points (suc i)) (outside_of g (cut_at cuts i))
left_of g points cuts i graph c low =
    let s : IsSmallestLeast (network_at (dense_net g) (point_at (dense_net g) points (suc i))) (cut_at cuts i) = rw add-one at (c.smallest i low) in
    step_of_cut g (point_at (dense_net g) points (suc i)) (cut_at cuts i) graph s

zero_then : (p q r : ℤ) → pos 1 ≤ℤ q → (pos 0 *ℤ r) <ℤ (p *ℤ q) → (pos 0 *ℤ r) ≤ℤ (p *ℤ pos 1)
zero_then (pos p) q r unit h = omega (arith, ints)
zero_then (negsuc p) q r unit h =
    absurd (let l = mul_most_negative (negsuc p) (pos 0) q (omega (arith, ints)) (omega (arith, ints, unit)) in omega (arith, ints, l, h))

below_then : (x y : Fraction) → IsParameter x → x.p *ℤ pos 1 ≡ pos 0 *ℤ x.q → IsBelow x y → IsAtMost level_zero y
below_then x y unit e less =
    let z : x.p ≡ pos 0 = omega (arith, ints, e) in
    let f = ap (λ n. n *ℤ y.q) z in
    zero_then y.p x.q y.q unit (omega (arith, ints, less, f))

-- at the level 0 the first cut is least
pub first_at_zero : (g : WeightedGraph) (points : List Fraction) (cuts : List (List Bool)) → IsWeightedGraph g → IsCurve (dense_net g) points cuts →
    IsLeastSet g level_zero (outside_of g (cut_at cuts 0))
first_at_zero g points cuts graph c =
    let net = dense_net g in
    let d = c.division in
    let start = d.low in
    let rise = d.rise 0 d.some in
    let unit = point_is_parameter net points cuts d 0 (omega arith) in
    least_of_cut g level_zero (cut_at cuts 0) graph
    (c.least 0 d.some level_zero (omega (arith, ints)) (omega (arith, ints, start)) (below_then (point_at net points 0) (point_at net points (0 + 1)) unit start rise))
