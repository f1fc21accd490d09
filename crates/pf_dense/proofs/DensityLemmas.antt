-- The density of a set, and the answer's parts.
use Rattle.std.proofs.Common.{◌≡◌, ℕ, zero, suc, ◌*◌, ◌^◌, ◌<◌, ◌≤◌, List, [], ◌∷◌, ◌++◌, length, get_or, take, drop, map, refl, Bool, true, false, cond, not, arith, ap, sym, ◌∙◌, subst, to_z, of_z}
use Rattle.std.specs.Prelude.{ℤ, ◌+ℤ◌, ◌-ℤ◌, ◌*ℤ◌, ◌≤ℤ◌, pos, All}
use Rattle.std.proofs.lemmas.Int.{ints}
use Rattle.std.proofs.lemmas.Grind.{common_steps}
use mir.Syntax.{w64, w128}
use mir.Val.{SFits}
use Rattle.pf_model.specs.Fraction.{Fraction, IsParameter, IsEqual, IsLowest, IsBoundedFraction}
use Rattle.pf_model.specs.Cut.{has, at_arc, sum_where, capacity}
use Rattle.pf_model.specs.Flow.{value}
use Rattle.pf_model.specs.Curve.{IsPoint}
use Rattle.pf_model.specs.Answer.{IsWithinSize}
use Rattle.pf_model.specs.Network.{Network, IsInInterval, IsMonotone, network_at}
use Rattle.pf_model.proofs.Integers.{add_mul, mul_comm, mul_most, mul_most_inverse, mul_nonneg}
use Rattle.pf_model.proofs.Affine.{proper_at}
use Rattle.pf_ratio.specs.Answer.{IsAnswerShape}
use Rattle.pf_graph.specs.WeightedGraph.{WeightedGraph, IsWeightedGraph, cost_of, lies_in, total}
use Rattle.pf_graph.specs.Limits.{IsSmall, IsWithinLimits}
use Rattle.pf_dense.specs.Densest.{weight_inside, cost_within, HasPositiveCosts, HasDensity, IsVertexSet, IsDensest}
use Rattle.pf_dense.specs.Certificate.{AreCharges, CertifiesDense}
use Rattle.pf_dense.specs.Reduction.{total_weight, dense_net, side_of, outside_of}
use Rattle.pf_dense.specs.Newton.{IsStep, IsNewton}
use Rattle.pf_dense.specs.Carrying.{IsCarried}
use Rattle.pf_dense.proofs.OneAnswer.{costs_some}
use Rattle.pf_dense.proofs.ChargeSums.{sum_low}
use Rattle.pf_dense.proofs.Soundness.{charges_certify}
use Rattle.pf_dense.proofs.NetLemmas.{side_capacity, cut_is_side, outside_full, net_cut}
use Rattle.pf_dense.proofs.FlowCharges.{flow_within, flow_charges, none_of, none_full}
use Rattle.pf_dense.proofs.NewtonSteps.{cost_off, weight_off, no_deficit, zero_deficit, step_of_cut, step_some}
use Rattle.pf_model.proofs.Search.{has_none}
use Rattle.pf_model.proofs.Sums.{take_whole}

pub positive_of : (g : WeightedGraph) → IsWithinLimits g → HasPositiveCosts g
positive_of g limits = record { low = λ v low. (limits.costs v low).low }

-- the numbers of a set
high_step : (b : Bool) (x a : ℤ) (n : ℕ) → pos 0 ≤ℤ x → x ≤ℤ pos 1000000 → a ≤ℤ pos (n * 1000000) → (cond b x (pos 0) +ℤ a) ≤ℤ pos (suc n * 1000000)
high_step true x a n l h k = omega (arith, ints, h, k)
high_step false x a n l h k = omega (arith, ints, k)

sum_high : (test : ℕ × ℕ → Bool) (ends : List (ℕ × ℕ)) (numbers : List ℤ) → length numbers ≡ length ends → ((i : ℕ) → i < length ends → IsSmall (at_arc numbers i)) →
    sum_where test ends numbers ≤ℤ pos (length ends * 1000000)
sum_high test [] numbers full h = omega (arith, ints)
sum_high test (edge ∷ ends) [] full h = absurd (omega arith)
sum_high test (edge ∷ ends) (x ∷ numbers) full h =
    let here = h 0 (omega arith) in
    let low = here.low in
    high_step (test edge) x _ (length ends) (omega (arith, ints, low)) here.high (sum_high test ends numbers (omega arith) (λ i less. h (suc i) (omega (arith, less))))

cost_high : (costs : List ℤ) (set : List Bool) → ((v : ℕ) → v < length costs → IsSmall (at_arc costs v)) → cost_of costs set ≤ℤ pos (length costs * 1000000)
cost_high [] set h = omega (arith, ints)
cost_high (c ∷ costs) [] h = omega (arith, ints)
cost_high (c ∷ costs) (b ∷ set) h =
    let here = h 0 (omega arith) in
    let low = here.low in
    high_step b c _ (length costs) (omega (arith, ints, low)) here.high (cost_high costs set (λ v less. h (suc v) (omega (arith, less))))

within_step : (b : Bool) (x a c : ℤ) → pos 0 ≤ℤ x → a ≤ℤ c → (cond b x (pos 0) +ℤ a) ≤ℤ (x +ℤ c)
within_step true x a c h l = omega (arith, ints, l)
within_step false x a c h l = omega (arith, ints, h, l)

sum_within : (test : ℕ × ℕ → Bool) (ends : List (ℕ × ℕ)) (numbers : List ℤ) → ((i : ℕ) → i < length ends → pos 0 ≤ℤ at_arc numbers i) →
    sum_where test ends numbers ≤ℤ sum_where (λ edge. true) ends numbers
sum_within test [] numbers h = omega (arith, ints)
sum_within test (edge ∷ ends) [] h = omega (arith, ints)
sum_within test (edge ∷ ends) (x ∷ numbers) h =
    within_step (test edge) x _ _ (h 0 (omega arith)) (sum_within test ends numbers (λ i less. h (suc i) (omega (arith, less))))

pub record IsWeighed (g : WeightedGraph) (set : List Bool) : Type 0 where
  pub low : pos 0 ≤ℤ weight_inside g set
  pub high : weight_inside g set ≤ℤ pos 5000000000
  pub within : weight_inside g set ≤ℤ total_weight g
  pub heavy : pos 1 ≤ℤ cost_within g set
  pub light : cost_within g set ≤ℤ pos 500000000

pub weighed : (g : WeightedGraph) (set : List Bool) → IsWithinLimits g → IsVertexSet g set → IsWeighed g set
weighed g set limits vertices =
    let graph = limits.graph in
    let few = limits.edges in
    let nodes = limits.nodes in
    let wide = graph.costs_full in
    let high = sum_high (lies_in set) g.ends g.weights graph.weights_full limits.weights in
    let light = cost_high g.costs set (λ v low. limits.costs v (omega (arith, low, wide))) in
    record {
      low = sum_low (lies_in set) g.ends g.weights graph.weights_low;
      high = omega (arith, ints, high, few);
      within = sum_within (lies_in set) g.ends g.weights graph.weights_low;
      heavy = costs_some g set graph (positive_of g limits) vertices;
      light = omega (arith, ints, light, wide, nodes);
    }

pub weighed_bounded : (g : WeightedGraph) (set : List Bool) → IsWeighed g set → IsBoundedFraction (record { p = weight_inside g set; q = cost_within g set })
weighed_bounded g set w =
    let a = w.low in
    let b = w.high in
    let c = w.heavy in
    let d = w.light in
    record { p_low = omega (arith, ints, a); p_high = omega (arith, ints, b); parameter = c; q_high = omega (arith, ints, d) }

-- p c is w q, so p is from 0 to one more than the total, times q
low_of : (p q w c : ℤ) → pos 1 ≤ℤ q → pos 1 ≤ℤ c → pos 0 ≤ℤ w → p *ℤ c ≡ w *ℤ q → pos 0 ≤ℤ p
low_of p q w c unit heavy low same =
    let a = mul_nonneg w q low (omega (arith, ints, unit)) in
    let none : c *ℤ pos 0 ≡ pos 0 = omega (arith, ints) in
    mul_most_inverse c (pos 0) p (omega (arith, ints, heavy)) (omega (arith, ints, a, same, none, mul_comm c p))

high_of : (p q w c t : ℤ) → pos 1 ≤ℤ q → pos 1 ≤ℤ c → pos 0 ≤ℤ w → w ≤ℤ t → p *ℤ c ≡ w *ℤ q → pos 0 ≤ℤ p → p ≤ℤ (t *ℤ q)
high_of p q w c t unit heavy low most same least =
    let a = mul_most q w t (omega (arith, ints, unit)) most in
    let b = mul_most p (pos 1) c least heavy in
    let one : p *ℤ pos 1 ≡ p = omega (arith, ints) in
    omega (arith, ints, a, b, one, same, mul_comm q w, mul_comm q t)

pub density_inside : (g : WeightedGraph) (set : List Bool) (x : Fraction) → IsWeighed g set → IsParameter x →
    IsEqual x (record { p = weight_inside g set; q = cost_within g set }) → IsInInterval (dense_net g) x
density_inside g set x w unit same =
    let least = low_of x.p x.q (weight_inside g set) (cost_within g set) unit w.heavy w.low same in
    let most = high_of x.p x.q (weight_inside g set) (cost_within g set) (total_weight g) unit w.heavy w.low w.within same least in
    let none : pos 0 *ℤ x.q ≡ pos 0 = omega (arith, ints) in
    let one : x.p *ℤ pos 1 ≡ x.p = omega (arith, ints) in
    let same_unit : pos 1 *ℤ x.q ≡ x.q = omega (arith, ints) in
    let more = add_mul (total_weight g) (pos 1) x.q in
    record { parameter = unit; low = omega (arith, ints, least, none, one); high = omega (arith, ints, most, one, more, same_unit, unit) }

pub density_holds : (g : WeightedGraph) (set : List Bool) (x : Fraction) → IsEqual x (record { p = weight_inside g set; q = cost_within g set }) → HasDensity g x set
density_holds g set x same = mul_comm x.q (weight_inside g set) ∙ sym same

-- the vertices outside a side, place by place
place_by_place : (xs ys : List Bool) → length xs ≡ length ys → ((v : ℕ) → v < length xs → has xs v ≡ has ys v) → xs ≡ ys
place_by_place [] [] e h = refl
place_by_place [] (y ∷ ys) e h = absurd (omega arith)
place_by_place (x ∷ xs) [] e h = absurd (omega arith)
place_by_place (x ∷ xs) (y ∷ ys) e h =
    let rest = place_by_place xs ys (omega arith) (λ v low. h (suc v) (omega (arith, low))) in
    let first = h 0 (omega arith) in
    ap (λ b. b ∷ xs) first ∙ ap (λ l. y ∷ l) rest

turned_at : (xs : List Bool) (n v : ℕ) → v < n → n ≤ length xs → has (map not (take n xs)) v ≡ not (has xs v)
turned_at [] n v low room = absurd (omega (arith, low, room))
turned_at (b ∷ xs) zero v low room = absurd (omega (arith, low))
turned_at (b ∷ xs) (suc n) zero low room = refl
turned_at (b ∷ xs) (suc n) (suc v) low room = turned_at xs n v (omega (arith, low)) (omega (arith, room))

turned_length : (xs : List Bool) (n : ℕ) → n ≤ length xs → length (map not (take n xs)) ≡ n
turned_length [] zero room = refl
turned_length [] (suc n) room = absurd (omega (arith, room))
turned_length (b ∷ xs) zero room = refl
turned_length (b ∷ xs) (suc n) room = ap suc (turned_length xs n (omega (arith, room)))

pub outside_is : (g : WeightedGraph) (side set : List Bool) → length set < length side → length set ≡ g.nodes →
    ((u : ℕ) → u < length set → has set u ≡ not (has side (suc u))) → set ≡ outside_of g side
outside_is g [] set room full h = absurd (omega (arith, room))
outside_is g (b ∷ side) set room full h =
    place_by_place set (map not (take g.nodes side)) (full ∙ sym (turned_length side g.nodes (omega (arith, room, full))))
    (λ v low. h v low ∙ sym (turned_at side g.nodes v (omega (arith, low, full)) (omega (arith, room, full))))

-- at the best density the flow's value is the capacity of the side outside which there is no vertex
value_of_none : (g : WeightedGraph) (x : Fraction) (side : List Bool) (flow : List ℤ) → IsWeightedGraph g → IsPoint (dense_net g) x side flow →
    HasDensity g x (outside_of g side) →
    value (network_at (dense_net g) x) flow ≡ capacity (network_at (dense_net g) x) (side_of (none_of g))
value_of_none g x side flow graph point same =
    let net = network_at (dense_net g) x in
    let cut = net_cut g x side point.smallest.least.cut in
    let set = outside_of g side in
    let here = ap (capacity net) (cut_is_side g side cut) ∙ side_capacity g x set graph (outside_full g side cut.full) in
    let there = side_capacity g x (none_of g) graph (none_full g) in
    let none = no_deficit x.p x.q (cost_within g set) (weight_inside g set) same in
    let empty = zero_deficit x.p x.q (cost_within g (none_of g)) (weight_inside g (none_of g))
    (cost_off g.costs (none_of g) (has_none g.nodes)) (weight_off g (none_of g) (has_none g.nodes)) in
    let told = point.value_is in
    omega (arith, ints, here, there, none, empty, told)

pub answer_certified : (g : WeightedGraph) (x : Fraction) (side set : List Bool) (flow charges : List ℤ) → IsWithinLimits g → IsMonotone (dense_net g) →
    IsInInterval (dense_net g) x → IsPoint (dense_net g) x side flow → set ≡ outside_of g side → IsDensest g x set → IsCarried g x flow charges →
    CertifiesDense g x set charges
answer_certified g x side set flow charges limits monotone inside point same best carried =
    let graph = limits.graph in
    let density : HasDensity g x (outside_of g side) = subst (HasDensity g x) same best.density in
    charges_certify g x set charges graph (flow_charges g x flow charges graph point.flow_is carried)
    (flow_within g x flow charges graph (proper_at (dense_net g) x monotone inside) point.flow_is (value_of_none g x side flow graph point density) carried) best

-- the shape of the charges
default_at : (xs : List ℤ) (k : ℕ) (d : ℤ) → k < length xs → get_or xs k d ≡ at_arc xs k
default_at [] k d low = absurd (omega arith)
default_at (x ∷ xs) zero d low = refl
default_at (x ∷ xs) (suc k) d low = default_at xs k d (omega arith)

charge_shape : (q w c : ℤ) → pos 1 ≤ℤ q → q ≤ℤ pos (2 ^ 46) → pos 1 ≤ℤ w → w ≤ℤ pos 1000000 → pos 0 ≤ℤ c → c ≤ℤ (pos 2 *ℤ (q *ℤ w)) → IsWithinSize (2 ^ 104) c
charge_shape q w c unit few low high least most =
    let a = mul_most q w (pos 1000000) (omega (arith, ints, unit)) high in
    let b : q *ℤ pos 1000000 ≡ pos 1000000 *ℤ q = mul_comm q (pos 1000000) in
    record { low = omega (arith, ints, least); high = omega (arith, ints, most, a, b, few) }

pub charges_shape : (g : WeightedGraph) (x : Fraction) (charges : List ℤ) → IsWithinLimits g → IsBoundedFraction x → AreCharges g x charges → All (IsWithinSize (2 ^ 104)) charges
charges_shape g x charges limits bounds a = λ k d less.
    let full = a.full in
    let low : k < length g.ends = omega (arith, less, full) in
    let small = limits.weights k low in
    rw (default_at charges k d less) (charge_shape x.q (at_arc g.weights k) (at_arc charges k) bounds.parameter bounds.q_high small.low small.high (a.low k low) (a.high k low))

-- one step of the iteration
pub record IsStepped (g : WeightedGraph) (x : Fraction) (set : List Bool) : Type 0 where
  pub step : IsStep g x set
  pub vertices : IsVertexSet g set

pub stepped : (g : WeightedGraph) (x : Fraction) (old set side : List Bool) (flow : List ℤ) (net : Network) → IsWeightedGraph g → net ≡ dense_net g → IsPoint net x side flow →
    set ≡ outside_of g side → IsNewton g x old → IsStepped g x set
stepped g x old set side flow net graph same point out newton =
    let here : IsPoint (dense_net g) x side flow = subst (λ (n : Network). IsPoint n x side flow) same point in
    let step : IsStep g x set = subst (IsStep g x) (sym out) (step_of_cut g x side graph here.smallest) in
    record { step = step; vertices = record { full = step.full; some = step_some g x old set newton.vertices newton.density step } }

-- the weight of all edges
pub total_range : (g : WeightedGraph) → IsWithinLimits g → (pos 0 ≤ℤ total_weight g) × (total_weight g ≤ℤ pos 5000000000)
total_range g limits =
    let graph = limits.graph in
    let few = limits.edges in
    let low = sum_low (λ edge. true) g.ends g.weights graph.weights_low in
    let high = sum_high (λ edge. true) g.ends g.weights graph.weights_full limits.weights in
    (low, omega (arith, ints, high, few))

-- numbers within the width come back from their bits
pub rest_of : (total weight whole here : ℤ) → total ≡ whole → weight ≡ here → pos 0 ≤ℤ whole → whole ≤ℤ pos 5000000000 → pos 0 ≤ℤ here → here ≤ℤ pos (2 ^ 60) →
    to_z w64 (of_z w64 (to_z w64 (of_z w64 total) -ℤ to_z w64 (of_z w64 weight))) ≡ whole -ℤ here
rest_of total weight whole here e f l h m n =
    let a : to_z w64 (of_z w64 total) ≡ whole = omega (arith, ints, e, l, h) in
    let b : to_z w64 (of_z w64 weight) ≡ here = omega (arith, ints, f, m, n) in
    rw (a, b) (omega (arith, ints, l, h, m, n))

pub rest_fits : (total weight whole here : ℤ) → total ≡ whole → weight ≡ here → pos 0 ≤ℤ whole → whole ≤ℤ pos 5000000000 → pos 0 ≤ℤ here → here ≤ℤ pos (2 ^ 60) →
    SFits w64 (to_z w64 (of_z w64 total) -ℤ to_z w64 (of_z w64 weight))
rest_fits total weight whole here e f l h m n =
    let a : to_z w64 (of_z w64 total) ≡ whole = omega (arith, ints, e, l, h) in
    let b : to_z w64 (of_z w64 weight) ≡ here = omega (arith, ints, f, m, n) in
    rw (a, b) (omega (arith, ints, l, h, m, n))

-- what is written for an edge
pub written : (r h a b q w : ℤ) → r ≡ (to_z w128 (of_z w128 h) +ℤ to_z w128 (of_z w128 a)) -ℤ to_z w128 (of_z w128 b) → h ≡ q *ℤ w → pos 0 ≤ℤ h → h ≤ℤ pos (2 ^ 69) →
    pos 0 ≤ℤ a → a ≤ℤ (q *ℤ w) → pos 0 ≤ℤ b → b ≤ℤ (q *ℤ w) → to_z w128 (of_z w128 r) ≡ ((q *ℤ w) +ℤ a) -ℤ b
written r h a b q w e f l m al ah bl bh =
    let x : to_z w128 (of_z w128 h) ≡ h = omega (arith, ints, l, m) in
    let y : to_z w128 (of_z w128 a) ≡ a = omega (arith, ints, l, m, f, al, ah) in
    let z : to_z w128 (of_z w128 b) ≡ b = omega (arith, ints, l, m, f, bl, bh) in
    let here : r ≡ ((q *ℤ w) +ℤ a) -ℤ b = omega (arith, ints, e, f, x, y, z) in
    let same : to_z w128 (of_z w128 r) ≡ r = omega (arith, ints, here, f, l, m, al, ah, bl, bh) in
    same ∙ here

-- the answer of its parts
pub made_certificate : (g : WeightedGraph) (x : Fraction) (set got : List Bool) (charges found : List ℤ) → got ≡ set → found ≡ charges → CertifiesDense g x set charges →
    CertifiesDense g x got found
made_certificate g x set got charges found a b c = rw (a, b) c

pub made_shape : (g : WeightedGraph) (x : Fraction) (set got : List Bool) (charges found : List ℤ) → got ≡ set → found ≡ charges → IsBoundedFraction x → IsLowest x →
    CertifiesDense g x set charges → All (IsWithinSize (2 ^ 104)) charges → IsAnswerShape g.nodes (length g.ends) x got found
made_shape g x set got charges found a b bounds lowest c each = rw (a, b) (record {
  ratio = record { bounds = bounds; lowest = lowest };
  chosen = c.full;
  full = c.charges_are.full;
  each = each;
})

with_none : {X : Type 0} (xs : List X) → xs ++ [] ≡ xs
with_none [] = refl
with_none (x ∷ xs) = ap (λ l. x ∷ l) (with_none xs)

pub written_whole : {X : Type 0} (new old : List X) (len : ℕ) → length new ≡ len → len ≡ length old → take len (new ++ drop (length new) old) ≡ new
written_whole new old len e f =
    let none : drop (length new) old ≡ [] = grind (arith, common_steps) in
    ap (λ l. take len (new ++ l)) none ∙ ap (take len) (with_none new) ∙ take_whole new len (omega (arith, e))
