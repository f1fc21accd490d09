-- The sets that are numbered grow from none, and each is told by its cut.
use Rattle.std.proofs.Common.{◌≡◌, ℕ, zero, suc, ◌+◌, ◌-◌, ◌<◌, List, length, replicate, refl, Bool, true, false, not, arith, ap, sym, ◌∙◌, subst, add-one}
use Rattle.std.specs.Prelude.{◌+ℤ◌, ◌≤ℤ◌, pos}
use Rattle.std.proofs.lemmas.Int.{ints}
use Rattle.std.proofs.lemmas.Bool.{both_ways, false_from_ne_true}
use Rattle.std.proofs.lemmas.List.{length-replicate}
use Rattle.pf_model.specs.Fraction.{Fraction, IsBelow, IsAtMost}
use Rattle.pf_model.specs.Cut.{has, IsContained}
use Rattle.pf_model.specs.Network.{IsNetworkCut, IsMonotone}
use Rattle.pf_model.specs.Curve.{IsCurve, point_at, cut_at}
use Rattle.pf_model.proofs.Balance.{inside}
use Rattle.pf_model.proofs.Integers.{mul_most}
use Rattle.pf_model.proofs.Sums.{sum_where_none}
use Rattle.pf_model.proofs.Certificate.{at_most_trans, point_is_parameter}
use Rattle.pf_graph.specs.WeightedGraph.{WeightedGraph, IsWeightedGraph, lies_in}
use Rattle.pf_dense.specs.Densest.{weight_inside, cost_within, HasPositiveCosts}
use Rattle.pf_dense.specs.Reduction.{total_weight, dense_net, outside_of}
use Rattle.pf_dense.proofs.OneAnswer.{costs_some}
use Rattle.pf_dense.proofs.NetLemmas as dense_lemmas
use Rattle.pf_dense.proofs.NewtonSteps.{cost_off, weight_off, zero_deficit}
use Rattle.pf_closure.specs.Problem.{ClosureProblem}
use Rattle.pf_closure.specs.Reduction.{closure_net}
use Rattle.pf_closure.proofs.LeastCuts as items_lemmas
use Rattle.pf_closure.proofs.SideSums.{item_has}
use Rattle.pf_layers.specs.Reading.{outside_cut, items_in}
use Rattle.pf_layers.proofs.SetSums.{sum_where_wider}
use Rattle.pf_layers.proofs.DenseNext.{IsLeastSet}
use Rattle.pf_layers.proofs.DenseRead.{least_of_cut}

not_not : (a b : Bool) → a ≡ not b → b ≡ not a
not_not true true e = cc
not_not true false e = refl
not_not false true e = refl
not_not false false e = cc

-- each cut of the curve is one
pub dense_cut : (g : WeightedGraph) (points : List Fraction) (cuts : List (List Bool)) (i : ℕ) → IsCurve (dense_net g) points cuts → i < length cuts → IsNetworkCut (dense_net g) (cut_at cuts i)
dense_cut g points cuts i c low = dense_lemmas.net_cut g _ (cut_at cuts i) (c.smallest i low).least.cut

pub items_cut : (p : ClosureProblem) (points : List Fraction) (cuts : List (List Bool)) (i : ℕ) → IsCurve (closure_net p) points cuts → i < length cuts →
    IsNetworkCut (closure_net p) (cut_at cuts i)
items_cut p points cuts i c low = items_lemmas.net_cut p _ (cut_at cuts i) (c.smallest i low).least.cut

-- a vertex is outside where its node is not held
pub outside_told : (g : WeightedGraph) (side : List Bool) (v : ℕ) → IsNetworkCut (dense_net g) side → v < g.nodes → has (outside_of g side) v ≡ not (has side (suc v))
outside_told g side v cut low =
    let full = dense_lemmas.outside_full g side cut.full in
    not_not (has side (suc v)) (has (outside_of g side) v)
    (ap (λ l. has l (suc v)) (dense_lemmas.cut_is_side g side cut) ∙ dense_lemmas.side_at (outside_of g side) v (omega (arith, low, full)))

turned : (a b c d : Bool) → a ≡ not b → c ≡ not d → (d ≡ true → b ≡ true) → a ≡ true → c ≡ true
turned a true c d e f h k = absurd (both_ways a e k)
turned a false c true e f h k = let b = h refl in cc
turned a false c false e f h k = f

pub outside_grows : (g : WeightedGraph) (points : List Fraction) (cuts : List (List Bool)) → IsCurve (dense_net g) points cuts → (i : ℕ) → suc i < length cuts →
    IsContained (outside_cut g cuts i) (outside_cut g cuts (suc i))
outside_grows g points cuts c i low v held =
    let h : ℕ = length cuts - suc (suc i) in
    let k : ℕ = length cuts - suc i in
    let e : h + 1 ≡ k = omega (arith, low) in
    let cut_h = dense_cut g points cuts h c (omega (arith, low)) in
    let cut_k = dense_cut g points cuts k c (omega (arith, low)) in
    let full = dense_lemmas.outside_full g (cut_at cuts k) cut_k.full in
    let within : v < g.nodes = let there = inside (outside_cut g cuts i) v held in omega (arith, there, full) in
    let nested = subst (λ n. IsContained (cut_at cuts h) (cut_at cuts n)) e (c.nested h (omega (arith, low))) in
    turned (has (outside_cut g cuts i) v) (has (cut_at cuts k) (suc v)) (has (outside_cut g cuts (suc i)) v) (has (cut_at cuts h) (suc v))
    (outside_told g (cut_at cuts k) v cut_k within) (outside_told g (cut_at cuts h) v cut_h within) (nested (suc v)) held

pub items_grow : (p : ClosureProblem) (points : List Fraction) (cuts : List (List Bool)) → IsCurve (closure_net p) points cuts → (i : ℕ) → suc i < length cuts →
    IsContained (items_in p cuts i) (items_in p cuts (suc i))
items_grow p points cuts c i low v held =
    let cut_i = items_cut p points cuts i c (omega (arith, low)) in
    let full = items_lemmas.items_full p (cut_at cuts i) cut_i in
    let within : v < length p.costs = let there = inside (items_in p cuts i) v held in omega (arith, there, full) in
    let nested = subst (λ n. IsContained (cut_at cuts i) (cut_at cuts n)) (add-one i) (c.nested i (omega (arith, low))) in
    item_has p (cut_at cuts (suc i)) v within ∙ nested (suc v) (sym (item_has p (cut_at cuts i) v within) ∙ held)

-- the weight of all edges
weight_low : (g : WeightedGraph) → IsWeightedGraph g → pos 0 ≤ℤ total_weight g
weight_low g graph =
    let low = sum_where_wider (λ edge. false) (λ edge. true) g.ends g.weights graph.weights_low (λ edge h. refl) in
    let none = sum_where_none (λ edge. false) g.ends g.weights (λ edge. refl) in
    omega (arith, ints, low, none)

-- outside the last cut there is nothing
pub none_outside : (g : WeightedGraph) (set : List Bool) → IsWeightedGraph g → HasPositiveCosts g → IsLeastSet g (dense_net g).high set → (v : ℕ) → has set v ≡ false
none_outside g set graph positive l v =
    false_from_ne_true (has set v)
    (λ held.
    let t = total_weight g in
    let heavy = costs_some g set graph positive (record { full = l.full; some = record { vertex = v; held = held } }) in
    let most = sum_where_wider (lies_in set) (λ edge. true) g.ends g.weights graph.weights_low (λ edge h. refl) in
    let none = replicate g.nodes false in
    let least = l.least none (length-replicate g.nodes false) in
    let off = none_at g.nodes in
    let e = zero_deficit (t +ℤ pos 1) (pos 1) (cost_within g none) (weight_inside g none) (cost_off g.costs none off) (weight_off g none off) in
    let more = mul_most (t +ℤ pos 1) (pos 1) (cost_within g set) (let l = weight_low g graph in omega (arith, ints, l)) heavy in
    omega (arith, ints, least, e, more, most))
  where
    none_at : (n u : ℕ) → has (replicate n false) u ≡ false
    none_at zero u = refl
    none_at (suc n) zero = refl
    none_at (suc n) (suc u) = none_at n u

pub last_outside : (g : WeightedGraph) (points : List Fraction) (cuts : List (List Bool)) → IsWeightedGraph g → HasPositiveCosts g → IsMonotone (dense_net g) →
    IsCurve (dense_net g) points cuts → (v : ℕ) → has (outside_cut g cuts 0) v ≡ false
last_outside g points cuts graph positive m c =
    let net = dense_net g in
    let d = c.division in
    let some = d.some in
    let i : ℕ = length cuts - 1 in
    let high = m.high in
    let unit = point_is_parameter net points cuts d i (omega (arith, some)) in
    let unit' = point_is_parameter net points cuts d (length cuts) (omega arith) in
    let last : i + 1 ≡ length cuts = omega (arith, some) in
    let end = d.high in
    let rise = subst (λ n. IsBelow (point_at net points i) (point_at net points n)) last (d.rise i (omega (arith, some))) in
    let behind : IsAtMost net.high (point_at net points (length cuts)) = omega (arith, ints, end) in
    none_outside g (outside_cut g cuts 0) graph positive
    (least_of_cut g net.high (cut_at cuts i) graph
    (c.least i (omega (arith, some)) net.high high
    (at_most_trans (point_at net points i) (point_at net points (length cuts)) net.high unit unit' high (omega (arith, ints, rise)) (omega (arith, ints, end)))
    (subst (λ n. IsAtMost net.high (point_at net points n)) (sym last) behind)))
