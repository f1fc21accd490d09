-- The network of a graph within its limits is monotone and within its own limits.
use Rattle.std.proofs.Common.{◌≡◌, ◌≢◌, ℕ, suc, ◌+◌, ◌<◌, ◌≤◌, List, [], ◌∷◌, ◌++◌, length, get_or, refl, Bool, true, false, cond, ap, sym, ◌∙◌, arith}
use Rattle.std.specs.Prelude.{ℤ, pos, ◌+ℤ◌, ◌-ℤ◌, ◌*ℤ◌, ◌≤ℤ◌, int_le, ◌==◌, All}
use Rattle.std.proofs.lemmas.Int.{ints}
use Rattle.std.proofs.lemmas.Bool.{eqb-true}
use Rattle.std.proofs.lemmas.Bool.Decides.{nat_tests}
use Rattle.std.proofs.lemmas.List.Elements.{All-nil, All-cons, All-append}
use Rattle.pf_model.specs.declared.AffineArc.{AffineArc}
use Rattle.pf_model.specs.declared.Sense.TheVariants.{Rising}
use Rattle.pf_model.specs.Cut.{at_arc, sum_where}
use Rattle.pf_model.specs.Flow.{sum_out, sum_in}
use Rattle.pf_model.specs.Fraction.{Fraction}
use Rattle.pf_model.specs.Network.{IsMonotone, IsMonotoneArc, keeps_slope}
use Rattle.pf_model.proofs.Integers.{mul_nonneg}
use Rattle.pf_net.specs.Limits.{IsSmallArc, IsBuilt, rising}
use Rattle.pf_graph.specs.WeightedGraph.{WeightedGraph}
use Rattle.pf_graph.specs.Limits.{IsSmall, IsWithinLimits}
use Rattle.pf_dense.specs.Reduction.{total_weight, weight_at, source_arc, sink_arc, edge_arc, vertex_arcs, edge_arcs, sink_node, dense_net}
use Rattle.pf_dense.proofs.ChargeSums.{sum_low}
use Rattle.pf_dense.proofs.DensityLemmas.{total_range}
use Rattle.pf_dense.proofs.FlowCharges.{length_arcs}

-- the weight at a vertex is at most that of all edges, since the ends of an edge differ
apart_step : (p r : Bool) (w o i t : ℤ) → (p ≡ true → r ≡ true → ⊥) → pos 0 ≤ℤ w → (o +ℤ i) ≤ℤ t →
    ((cond p w (pos 0) +ℤ o) +ℤ (cond r w (pos 0) +ℤ i)) ≤ℤ (w +ℤ t)
apart_step true true w o i t h l k = absurd (h refl refl)
apart_step true false w o i t h l k = omega (arith, ints, k)
apart_step false true w o i t h l k = omega (arith, ints, k)
apart_step false false w o i t h l k = omega (arith, ints, l, k)

apart_weights : (v : ℕ) (ends : List (ℕ × ℕ)) (weights : List ℤ) → ((k : ℕ) → k < length ends → (get_or ends k (0, 0)).0 ≢ (get_or ends k (0, 0)).1) →
    ((k : ℕ) → k < length ends → pos 0 ≤ℤ at_arc weights k) → (sum_out ends weights v +ℤ sum_in ends weights v) ≤ℤ sum_where (λ edge. true) ends weights
apart_weights v [] weights apart low = omega (arith, ints)
apart_weights v (edge ∷ ends) [] apart low = omega (arith, ints)
apart_weights v (edge ∷ ends) (w ∷ weights) apart low =
    apart_step (edge.0 == v) (edge.1 == v) w _ _ _ (λ e f. apart 0 (omega arith) (eqb-true edge.0 v e ∙ sym (eqb-true edge.1 v f))) (low 0 (omega arith))
    (apart_weights v ends weights (λ k less. apart (suc k) (omega (arith, less))) (λ k less. low (suc k) (omega (arith, less))))

-- what holds of the numbers beside an arc of the network
record IsRest (rest : ℤ) : Type 0 where
  low : pos 0 ≤ℤ rest
  high : rest ≤ℤ pos 5000000000

rest_at : (g : WeightedGraph) (v : ℕ) → IsWithinLimits g → IsRest (total_weight g -ℤ weight_at g v)
rest_at g v limits =
    let graph = limits.graph in
    let most = apart_weights v g.ends g.weights graph.apart graph.weights_low in
    let out = sum_low (λ edge. edge.0 == v) g.ends g.weights graph.weights_low in
    let into = sum_low (λ edge. edge.1 == v) g.ends g.weights graph.weights_low in
    let range = total_range g limits in
    let high = range.1 in
    record { low = omega (arith, ints, most); high = omega (arith, ints, out, into, high) }

-- the slopes
source_slope : (n v : ℕ) (rest c : ℤ) → v < n → pos 1 ≤ℤ c → keeps_slope Rising 0 (suc n) (source_arc v rest c) ≡ true
source_slope n v rest c low h =
    let a : (suc v == 0) ≡ false = grind (arith, nat_tests) in
    let b : (suc v == suc n) ≡ false = grind (arith, nat_tests) in
    let twice : pos 0 ≤ℤ (pos 2 *ℤ c) = omega (arith, ints, h) in
    let d : int_le (pos 0) (pos 2 *ℤ c) ≡ true = grind (arith, ints) in
    rw (a, b) d

sink_slope : (n v : ℕ) (whole : ℤ) → v < n → keeps_slope Rising 0 (suc n) (sink_arc (suc n) v whole) ≡ true
sink_slope n v whole low =
    let a : (suc v == 0) ≡ false = grind (arith, nat_tests) in
    let b : (suc v == suc n) ≡ false = grind (arith, nat_tests) in
    let d : (suc n == suc n) ≡ true = grind (arith, nat_tests) in
    rw (a, d, b) refl

edge_slope : (n u v : ℕ) (w : ℤ) → v < n → keeps_slope Rising 0 (suc n) (edge_arc u v w) ≡ true
edge_slope n u v w low =
    let a : (suc u == 0) ≡ false = grind (arith, nat_tests) in
    let b : (suc v == suc n) ≡ false = grind (arith, nat_tests) in
    rw (a, b) refl

-- the arcs
source_monotone : (g : WeightedGraph) (v : ℕ) (rest c : ℤ) → IsWithinLimits g → v < g.nodes → IsRest rest → IsSmall c → IsMonotoneArc (dense_net g) (source_arc v rest c)
source_monotone g v rest c limits low r s =
    let rl = r.low in
    let sl = s.low in
    let range = total_range g limits in
    let tl = range.0 in
    let more = mul_nonneg (pos 2 *ℤ c) (total_weight g +ℤ pos 1) (omega (arith, ints, sl)) (omega (arith, ints, tl)) in
    let one : rest *ℤ pos 1 ≡ rest = omega (arith, ints) in
    let none : (pos 2 *ℤ c) *ℤ pos 0 ≡ pos 0 = omega (arith, ints) in
    record {
      tail = omega arith;
      head = omega (arith, low);
      slope = source_slope g.nodes v rest c low sl;
      low = omega (arith, ints, rl, one, none);
      high = omega (arith, ints, rl, one, more);
    }

flat : (a t : ℤ) → pos 0 ≤ℤ a → pos 0 ≤ℤ ((a *ℤ pos 1) +ℤ (pos 0 *ℤ t))
flat a t h =
    let one : a *ℤ pos 1 ≡ a = omega (arith, ints) in
    let none : pos 0 *ℤ t ≡ pos 0 = omega (arith, ints) in
    omega (arith, ints, h, one, none)

sink_monotone : (g : WeightedGraph) (v : ℕ) → IsWithinLimits g → v < g.nodes → IsMonotoneArc (dense_net g) (sink_arc (sink_node g) v (total_weight g))
sink_monotone g v limits low =
    let range = total_range g limits in
    record {
      tail = omega (arith, low);
      head = omega arith;
      slope = sink_slope g.nodes v (total_weight g) low;
      low = flat (total_weight g) (pos 0) range.0;
      high = flat (total_weight g) (total_weight g +ℤ pos 1) range.0;
    }

edge_monotone : (g : WeightedGraph) (u v : ℕ) (w : ℤ) → u < g.nodes → v < g.nodes → IsSmall w → IsMonotoneArc (dense_net g) (edge_arc u v w)
edge_monotone g u v w low_u low_v s =
    let l = s.low in
    record {
      tail = omega (arith, low_u);
      head = omega (arith, low_v);
      slope = edge_slope g.nodes u v w low_v;
      low = flat w (pos 0) (omega (arith, ints, l));
      high = flat w (total_weight g +ℤ pos 1) (omega (arith, ints, l));
    }

source_small : (v : ℕ) (rest c : ℤ) → IsRest rest → IsSmall c → IsSmallArc (source_arc v rest c)
source_small v rest c r s =
    let rl = r.low in
    let rh = r.high in
    let sl = s.low in
    let sh = s.high in
    record { a_low = omega (arith, ints, rl); a_high = omega (arith, ints, rh); b_low = omega (arith, ints, sl); b_high = omega (arith, ints, sh) }

flat_small : (u v : ℕ) (a : ℤ) → pos 0 ≤ℤ a → a ≤ℤ pos 5000000000 → IsSmallArc (record { tail = u; head = v; a = a; b = pos 0 })
flat_small u v a l h = record { a_low = omega (arith, ints, l); a_high = omega (arith, ints, h); b_low = omega (arith, ints); b_high = omega (arith, ints) }

vertices_each : (P : AffineArc → Type 0) (g : WeightedGraph) (sink i n : ℕ) (costs : List ℤ) → IsWithinLimits g → i + length costs ≤ n →
    ((k : ℕ) → k < length costs → IsSmall (at_arc costs k)) →
    ((v : ℕ) (rest c : ℤ) → v < n → IsRest rest → IsSmall c → P (source_arc v rest c)) → ((v : ℕ) → v < n → P (sink_arc sink v (total_weight g))) →
    All P (vertex_arcs g sink i costs)
vertices_each P g sink i n [] limits few small first second = All-nil P
vertices_each P g sink i n (c ∷ costs) limits few small first second =
    All-cons P (source_arc i (total_weight g -ℤ weight_at g i) c) (sink_arc sink i (total_weight g) ∷ vertex_arcs g sink (suc i) costs)
    (first i _ c (omega (arith, few)) (rest_at g i limits) (small 0 (omega arith)))
    (All-cons P (sink_arc sink i (total_weight g)) (vertex_arcs g sink (suc i) costs) (second i (omega (arith, few)))
    (vertices_each P g sink (suc i) n costs limits (omega (arith, few)) (λ k less. small (suc k) (omega (arith, less))) first second))

edges_each : (P : AffineArc → Type 0) (n : ℕ) (ends : List (ℕ × ℕ)) (weights : List ℤ) → ((k : ℕ) → k < length ends → (get_or ends k (0, 0)).0 < n) →
    ((k : ℕ) → k < length ends → (get_or ends k (0, 0)).1 < n) → ((k : ℕ) → k < length ends → IsSmall (at_arc weights k)) →
    ((u v : ℕ) (w : ℤ) → u < n → v < n → IsSmall w → P (edge_arc u v w)) → All P (edge_arcs ends weights)
edges_each P n [] weights first second small h = All-nil P
edges_each P n (edge ∷ ends) [] first second small h = All-nil P
edges_each P n (edge ∷ ends) (w ∷ weights) first second small h =
    let u = first 0 (omega arith) in
    let v = second 0 (omega arith) in
    let s = small 0 (omega arith) in
    All-cons P (edge_arc edge.0 edge.1 w) (edge_arc edge.1 edge.0 w ∷ edge_arcs ends weights) (h edge.0 edge.1 w u v s)
    (All-cons P (edge_arc edge.1 edge.0 w) (edge_arcs ends weights) (h edge.1 edge.0 w v u s)
    (edges_each P n ends weights (λ k less. first (suc k) (omega (arith, less))) (λ k less. second (suc k) (omega (arith, less)))
    (λ k less. small (suc k) (omega (arith, less))) h))

arcs_each : (P : AffineArc → Type 0) (g : WeightedGraph) → IsWithinLimits g →
    ((v : ℕ) (rest c : ℤ) → v < g.nodes → IsRest rest → IsSmall c → P (source_arc v rest c)) → ((v : ℕ) → v < g.nodes → P (sink_arc (sink_node g) v (total_weight g))) →
    ((u v : ℕ) (w : ℤ) → u < g.nodes → v < g.nodes → IsSmall w → P (edge_arc u v w)) → All P (dense_net g).arcs
arcs_each P g limits first second third =
    let graph = limits.graph in
    let wide = graph.costs_full in
    All-append P (vertex_arcs g (sink_node g) 0 g.costs) (edge_arcs g.ends g.weights)
    (vertices_each P g (sink_node g) 0 g.nodes g.costs limits (omega (arith, wide)) (λ k less. limits.costs k (omega (arith, less, wide))) first second)
    (edges_each P g.nodes g.ends g.weights graph.graph.tails graph.graph.heads limits.weights third)

net_monotone : (g : WeightedGraph) → IsWithinLimits g → IsMonotone (dense_net g)
net_monotone g limits =
    let range = total_range g limits in
    let tl = range.0 in
    let one : (total_weight g +ℤ pos 1) *ℤ pos 1 ≡ total_weight g +ℤ pos 1 = omega (arith, ints) in
    record {
      source = omega arith;
      sink = omega arith;
      apart = λ e. absurd (omega (arith, e));
      low = omega (arith, ints);
      high = omega (arith, ints);
      interval = omega (arith, ints, tl, one);
      each = arcs_each (IsMonotoneArc (dense_net g)) g limits (λ v rest c low r s. source_monotone g v rest c limits low r s) (λ v low. sink_monotone g v limits low)
          (λ u v w low_u low_v s. edge_monotone g u v w low_u low_v s);
    }

pub net_built : (g : WeightedGraph) → IsWithinLimits g → IsBuilt (dense_net g)
net_built g limits =
    let range = total_range g limits in
    let tl = range.0 in
    let th = range.1 in
    let nodes = limits.nodes in
    let edges = limits.edges in
    let all = length_arcs g limits.graph in
    record {
      monotone = net_monotone g limits;
      limits = record {
        nodes = omega (arith, nodes);
        arcs = omega (arith, nodes, edges, all);
        each = arcs_each IsSmallArc g limits (λ v rest c low r s. source_small v rest c r s) (λ v low. flat_small (suc v) (sink_node g) (total_weight g) tl th)
            (λ u v w low_u low_v s. (let l = s.low in let h = s.high in flat_small (suc u) (suc v) w (omega (arith, ints, l)) (omega (arith, ints, h))));
        low = record { low = omega (arith, ints); high = omega (arith, ints) };
        high = record { low = omega (arith, ints, tl); high = omega (arith, ints, th) };
      };
    }

-- and it is made of these parts
same_parts : (n n' s s' : ℕ) (l l' h h' : Fraction) (xs xs' : List AffineArc) → n ≡ n' → s ≡ s' → l ≡ l' → h ≡ h' → xs ≡ xs' →
    rising n 0 s l h xs ≡ rising n' 0 s' l' h' xs'
same_parts n n' s s' l l' h h' xs xs' a b c d e = rw (a, b, c, d, e) refl

pub same_net : (g : WeightedGraph) (sink : ℕ) (low high : Fraction) (total : ℤ) (first arcs : List AffineArc) → sink ≡ g.nodes + 1 → low ≡ record { p = pos 0; q = pos 1 } →
    high ≡ record { p = total; q = pos 1 } → total ≡ total_weight g +ℤ pos 1 → first ≡ vertex_arcs g (sink_node g) 0 g.costs → arcs ≡ first ++ edge_arcs g.ends g.weights →
    rising (sink + 1) 0 sink low high arcs ≡ dense_net g
same_net g sink low high total first arcs a b c t d e =
    let s : sink ≡ sink_node g = omega (arith, a) in
    let n : sink + 1 ≡ suc (sink_node g) = omega (arith, s) in
    same_parts _ _ _ _ _ _ _ _ _ _ n s b (c ∙ ap (λ k. record { p = k; q = pos 1 }) t) (e ∙ ap (λ l. l ++ edge_arcs g.ends g.weights) d)
