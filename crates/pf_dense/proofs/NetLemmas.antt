-- The cuts of the network of a graph.
use Rattle.std.proofs.Common.{◌≡◌, ℕ, zero, suc, ◌+◌, ◌<◌, List, [], ◌∷◌, ◌++◌, length, get_or, take, map, refl, Bool, true, false, cond, not, ◌&&◌, arith, ap, sym, ◌∙◌}
use Rattle.std.specs.Prelude.{ℤ, ◌+ℤ◌, ◌-ℤ◌, ◌*ℤ◌, pos}
use Rattle.std.proofs.lemmas.Int.{ints}
use Rattle.pf_model.specs.declared.AffineArc.{AffineArc}
use Rattle.pf_model.specs.Fraction.{Fraction}
use Rattle.pf_model.specs.Cut.{has, leaves, enters, sum_where, capacity, IsCut}
use Rattle.pf_model.specs.Flow.{sum_out, sum_in}
use Rattle.pf_model.specs.Network.{IsNetworkCut, ends_of, cut_a, cut_b, network_at}
use Rattle.pf_model.proofs.Integers.{add_mul, mul_assoc, mul_comm}
use Rattle.pf_model.proofs.Affine.{capacity_of_line}
use Rattle.pf_model.proofs.Sums.{sum_where_split, sum_where_same}
use Rattle.pf_graph.specs.WeightedGraph.{WeightedGraph, IsWeightedGraph, lies_in, cost_of}
use Rattle.pf_dense.specs.Densest.{weight_inside, cost_within}
use Rattle.pf_dense.specs.Reduction.{total_weight, weight_at, edge_arc, vertex_arcs, edge_arcs, sink_node, dense_net, side_of, behind_first, outside_of, IsDenseLine}
use Rattle.pf_dense.specs.Newton.{deficit}
use Rattle.pf_dense.proofs.VertexSums.{sum_over, sum_over_add, sum_over_arcs, sum_over_same}
use Rattle.pf_dense.proofs.Soundness.{has_not, length_not}
use Rattle.pf_model.proofs.Facts.{add_before_by, last_apart, length_front, none_before}
use Rattle.pf_model.proofs.Balance.{and_comm}

-- a number beside each arc of a list of arcs that leaves a side
abbrev pub sum_beside : (AffineArc → ℤ) → List Bool → List AffineArc → ℤ
sum_beside number side arcs = sum_where (leaves side) (map ends_of arcs) (map number arcs)

pub sum_beside_append : (number : AffineArc → ℤ) (side : List Bool) (xs ys : List AffineArc) →
    sum_beside number side (xs ++ ys) ≡ sum_beside number side xs +ℤ sum_beside number side ys
sum_beside_append number side [] ys = none_before _
sum_beside_append number side (x ∷ xs) ys =
    add_before_by (cond (leaves side (ends_of x)) (number x) (pos 0)) _ _ _ (sum_beside_append number side xs ys)

-- the vertices outside the side, from the node i + 1 on, are those of the set
abbrev pub StandsOut : List Bool → ℕ → List Bool → Type 0
StandsOut side i set = (k : ℕ) → k < length set → has side (suc (i + k)) ≡ not (has set k)

out_later : (side : List Bool) (i : ℕ) (b : Bool) (set : List Bool) → StandsOut side i (b ∷ set) → StandsOut side (suc i) set
out_later side i b set h k low =
    let e : suc i + k ≡ i + suc k = omega arith in
    ap (λ n. has side (suc n)) e ∙ h (suc k) (omega arith)

out_here : (side : List Bool) (i : ℕ) (b : Bool) (set : List Bool) → StandsOut side i (b ∷ set) → has side (suc i) ≡ not b
out_here side i b set h =
    let e : i ≡ i + 0 = omega arith in
    ap (λ n. has side (suc n)) e ∙ h 0 (omega arith)

-- the arcs of one vertex: from the source where it is outside, and to the sink where it is not
vertex_a : (b r source sink : Bool) (t w rest s : ℤ) (n : ℕ) → source ≡ true → sink ≡ false → r ≡ not b → rest ≡ (pos n *ℤ t) -ℤ s →
    cond (source && not r) (t -ℤ w) (pos 0) +ℤ (cond (r && not sink) t (pos 0) +ℤ rest) ≡ (pos (suc n) *ℤ t) -ℤ (cond b w (pos 0) +ℤ s)
vertex_a true r true false t w rest s n e f g h =
    let m = add_mul (pos n) (pos 1) t in
    let one : pos (suc n) ≡ pos n +ℤ pos 1 = omega (arith, ints) in
    let more = ap (λ k. k *ℤ t) one in
    let same : pos 1 *ℤ t ≡ t = omega (arith, ints) in
    rw g (omega (arith, ints, h, m, more, same))
vertex_a false r true false t w rest s n e f g h =
    let m = add_mul (pos n) (pos 1) t in
    let one : pos (suc n) ≡ pos n +ℤ pos 1 = omega (arith, ints) in
    let more = ap (λ k. k *ℤ t) one in
    let same : pos 1 *ℤ t ≡ t = omega (arith, ints) in
    rw g (omega (arith, ints, h, m, more, same))
vertex_a b r false sink t w rest s n e f g h = cc
vertex_a b r source true t w rest s n e f g h = cc

vertex_b : (b r source sink : Bool) (c rest s : ℤ) → source ≡ true → sink ≡ false → r ≡ not b → rest ≡ pos 2 *ℤ s →
    cond (source && not r) (pos 2 *ℤ c) (pos 0) +ℤ (cond (r && not sink) (pos 0) (pos 0) +ℤ rest) ≡ pos 2 *ℤ (cond b c (pos 0) +ℤ s)
vertex_b true r true false c rest s e f g h = rw g (omega (arith, ints, h))
vertex_b false r true false c rest s e f g h = rw g (omega (arith, ints, h))
vertex_b b r false sink c rest s e f g h = cc
vertex_b b r source true c rest s e f g h = cc

none_times : (t : ℤ) → pos 0 ≡ (pos 0 *ℤ t) -ℤ pos 0
none_times t = omega (arith, ints)

vertices_a : (g : WeightedGraph) (side : List Bool) (sink i : ℕ) (set : List Bool) (costs : List ℤ) → has side 0 ≡ true → has side sink ≡ false →
    length set ≡ length costs → StandsOut side i set →
    sum_beside (λ arc. arc.a) side (vertex_arcs g sink i costs) ≡ (pos (length costs) *ℤ total_weight g) -ℤ sum_over (λ k. weight_at g (i + k)) set
vertices_a g side sink i [] [] source out full h = none_times (total_weight g)
vertices_a g side sink i [] (c ∷ costs) source out full h = absurd (omega arith)
vertices_a g side sink i (b ∷ set) [] source out full h = absurd (omega arith)
vertices_a g side sink i (b ∷ set) (c ∷ costs) source out full h =
    let rest = vertices_a g side sink (suc i) set costs source out (omega arith) (out_later side i b set h) in
    let same = sum_over_same (λ k. weight_at g (suc i + k)) (λ k. weight_at g (i + suc k)) set
    (λ k. let e : suc i + k ≡ i + suc k = omega arith in ap (weight_at g) e) in
    let first : i ≡ i + 0 = omega arith in
    vertex_a b (has side (suc i)) (has side 0) (has side sink) (total_weight g) (weight_at g i) _ (sum_over (λ k. weight_at g (i + suc k)) set) (length costs) source out
    (out_here side i b set h) (rest ∙ ap (λ n. (pos (length costs) *ℤ total_weight g) -ℤ n) same)
    ∙ ap (λ n. (pos (suc (length costs)) *ℤ total_weight g) -ℤ (cond b (weight_at g n) (pos 0) +ℤ sum_over (λ k. weight_at g (i + suc k)) set)) first

vertices_b : (g : WeightedGraph) (side : List Bool) (sink i : ℕ) (set : List Bool) (costs : List ℤ) → has side 0 ≡ true → has side sink ≡ false →
    length set ≡ length costs → StandsOut side i set →
    sum_beside (λ arc. arc.b) side (vertex_arcs g sink i costs) ≡ pos 2 *ℤ cost_of costs set
vertices_b g side sink i [] [] source out full h = refl
vertices_b g side sink i [] (c ∷ costs) source out full h = absurd (omega arith)
vertices_b g side sink i (b ∷ set) [] source out full h = absurd (omega arith)
vertices_b g side sink i (b ∷ set) (c ∷ costs) source out full h =
    vertex_b b (has side (suc i)) (has side 0) (has side sink) c _ (cost_of costs set) source out (out_here side i b set h)
    (vertices_b g side sink (suc i) set costs source out (omega arith) (out_later side i b set h))

-- the arcs of an edge: one of them leaves where the ends are apart
edge_a : (p r p' r' : Bool) (w rest l e : ℤ) → p' ≡ not p → r' ≡ not r → rest ≡ l +ℤ e →
    cond (p' && not r') w (pos 0) +ℤ (cond (r' && not p') w (pos 0) +ℤ rest) ≡ (cond (p && not r) w (pos 0) +ℤ l) +ℤ (cond (r && not p) w (pos 0) +ℤ e)
edge_a true true p' r' w rest l e f g h = rw (f, g) (omega (arith, ints, h))
edge_a true false p' r' w rest l e f g h = rw (f, g) (omega (arith, ints, h))
edge_a false true p' r' w rest l e f g h = rw (f, g) (omega (arith, ints, h))
edge_a false false p' r' w rest l e f g h = rw (f, g) (omega (arith, ints, h))

edge_b : (p q : Bool) (rest : ℤ) → rest ≡ pos 0 → cond p (pos 0) (pos 0) +ℤ (cond q (pos 0) (pos 0) +ℤ rest) ≡ pos 0
edge_b true true rest h = omega (arith, ints, h)
edge_b true false rest h = omega (arith, ints, h)
edge_b false true rest h = omega (arith, ints, h)
edge_b false false rest h = omega (arith, ints, h)

edges_a : (side set : List Bool) (ends : List (ℕ × ℕ)) (weights : List ℤ) →
    ((k : ℕ) → k < length ends → has side (suc (get_or ends k (0, 0)).0) ≡ not (has set (get_or ends k (0, 0)).0)) →
    ((k : ℕ) → k < length ends → has side (suc (get_or ends k (0, 0)).1) ≡ not (has set (get_or ends k (0, 0)).1)) →
    sum_beside (λ arc. arc.a) side (edge_arcs ends weights) ≡ sum_where (leaves set) ends weights +ℤ sum_where (enters set) ends weights
edges_a side set [] weights first second = refl
edges_a side set (edge ∷ ends) [] first second = refl
edges_a side set (edge ∷ ends) (w ∷ weights) first second =
    edge_a (has set edge.0) (has set edge.1) (has side (suc edge.0)) (has side (suc edge.1)) w _ _ _ (first 0 (omega arith)) (second 0 (omega arith))
    (edges_a side set ends weights (λ k low. first (suc k) (omega (arith, low))) (λ k low. second (suc k) (omega (arith, low))))

edges_b : (side : List Bool) (ends : List (ℕ × ℕ)) (weights : List ℤ) → sum_beside (λ arc. arc.b) side (edge_arcs ends weights) ≡ pos 0
edges_b side [] weights = refl
edges_b side (edge ∷ ends) [] = refl
edges_b side (edge ∷ ends) (w ∷ weights) =
    edge_b (leaves side (ends_of (edge_arc edge.0 edge.1 w))) (leaves side (ends_of (edge_arc edge.1 edge.0 w))) _ (edges_b side ends weights)

-- the weights at the vertices of a set
weights_sum : (g : WeightedGraph) (set : List Bool) → sum_over (λ v. weight_at g v) set
    ≡ (pos 2 *ℤ weight_inside g set) +ℤ (sum_where (leaves set) g.ends g.weights +ℤ sum_where (enters set) g.ends g.weights)
weights_sum g set =
    let both = sum_over_add (λ v. sum_out g.ends g.weights v) (λ v. sum_in g.ends g.weights v) set in
    let out = sum_over_arcs (λ edge. edge.0) g.ends g.weights set in
    let into = sum_over_arcs (λ edge. edge.1) g.ends g.weights set in
    let first = sum_where_split (λ edge. has set edge.0) (λ edge. has set edge.1) g.ends g.weights in
    let second = sum_where_split (λ edge. has set edge.1) (λ edge. has set edge.0) g.ends g.weights in
    let same = sum_where_same (λ edge. has set edge.1 && has set edge.0) (lies_in set) g.ends g.weights (λ edge. and_comm (has set edge.1) (has set edge.0)) in
    omega (arith, ints, both, out, into, first, second, same)

-- the side of a set
has_front : (xs : List Bool) (k : ℕ) → k < length xs → has (xs ++ (false ∷ [])) k ≡ has xs k
has_front [] k low = absurd (omega arith)
has_front (b ∷ xs) zero low = refl
has_front (b ∷ xs) (suc k) low = has_front xs k (omega arith)

has_end : (xs : List Bool) → has (xs ++ (false ∷ [])) (length xs) ≡ false
has_end [] = refl
has_end (b ∷ xs) = has_end xs

length_side : (xs : List Bool) → length (xs ++ (false ∷ [])) ≡ suc (length xs)
length_side [] = refl
length_side (b ∷ xs) = ap suc (length_side xs)

pub side_at : (set : List Bool) (v : ℕ) → v < length set → has (side_of set) (suc v) ≡ not (has set v)
side_at set v low = has_front (map not set) v (omega (arith, low, length_not set)) ∙ has_not set v low

pub side_stands : (set : List Bool) → StandsOut (side_of set) 0 set
side_stands set k low =
    let e : 0 + k ≡ k = omega arith in
    ap (λ n. has (side_of set) (suc n)) e ∙ side_at set k low

pub side_sink : (g : WeightedGraph) (set : List Bool) → length set ≡ g.nodes → has (side_of set) (sink_node g) ≡ false
side_sink g set full =
    ap (λ n. has (map not set ++ (false ∷ [])) n) (sym full ∙ sym (length_not set)) ∙ has_end (map not set)

pub side_cut : (g : WeightedGraph) (set : List Bool) → length set ≡ g.nodes → IsNetworkCut (dense_net g) (side_of set)
side_cut g set full = record {
  full = ap suc (length_side (map not set) ∙ ap suc (length_not set ∙ full));
  with_source = refl;
  without_sink = side_sink g set full;
}

pub dense_a : (g : WeightedGraph) (set : List Bool) → IsWeightedGraph g → length set ≡ g.nodes →
    cut_a (dense_net g) (side_of set) ≡ (pos g.nodes *ℤ total_weight g) -ℤ (pos 2 *ℤ weight_inside g set)
dense_a g set graph full =
    let costs = graph.costs_full in
    let split = sum_beside_append (λ arc. arc.a) (side_of set) (vertex_arcs g (sink_node g) 0 g.costs) (edge_arcs g.ends g.weights) in
    let first = vertices_a g (side_of set) (sink_node g) 0 set g.costs refl (side_sink g set full) (omega (arith, full, costs)) (side_stands set) in
    let second = edges_a (side_of set) set g.ends g.weights
    (λ k low. let h = graph.graph.tails k low in side_at set _ (omega (arith, h, full)))
    (λ k low. let h = graph.graph.heads k low in side_at set _ (omega (arith, h, full))) in
    let same = sum_over_same (λ k. weight_at g (0 + k)) (λ k. weight_at g k) set (λ k. let e : 0 + k ≡ k = omega arith in ap (weight_at g) e) in
    let weights = weights_sum g set in
    let count = ap (λ n. pos n *ℤ total_weight g) costs in
    omega (arith, ints, split, first, second, same, weights, count)

pub dense_b : (g : WeightedGraph) (set : List Bool) → IsWeightedGraph g → length set ≡ g.nodes →
    cut_b (dense_net g) (side_of set) ≡ pos 2 *ℤ cost_within g set
dense_b g set graph full =
    let costs = graph.costs_full in
    let split = sum_beside_append (λ arc. arc.b) (side_of set) (vertex_arcs g (sink_node g) 0 g.costs) (edge_arcs g.ends g.weights) in
    let first = vertices_b g (side_of set) (sink_node g) 0 set g.costs refl (side_sink g set full) (omega (arith, full, costs)) (side_stands set) in
    let second = edges_b (side_of set) g.ends g.weights in
    omega (arith, ints, split, first, second)

pub dense_line : (g : WeightedGraph) (set : List Bool) → IsWeightedGraph g → length set ≡ g.nodes → IsDenseLine g set
dense_line g set graph full = record {
  cut = side_cut g set full;
  constant = dense_a g set graph full;
  slope = dense_b g set graph full;
}

-- its capacity at p/q, in units of 1/q
value_step : (a b q p t w c : ℤ) → a ≡ t -ℤ (pos 2 *ℤ w) → b ≡ pos 2 *ℤ c →
    (a *ℤ q) +ℤ (b *ℤ p) ≡ (q *ℤ t) +ℤ (pos 2 *ℤ ((p *ℤ c) -ℤ (q *ℤ w)))
value_step a b q p t w c e f =
    let back : t ≡ a +ℤ (pos 2 *ℤ w) = omega (arith, ints, e) in
    let left = ap (λ n. n *ℤ q) back ∙ add_mul a (pos 2 *ℤ w) q in
    let right = ap (λ n. n *ℤ p) f in
    let twice = mul_assoc (pos 2) w q in
    let twice' = mul_assoc (pos 2) c p in
    omega (arith, ints, left, right, twice, twice', mul_comm t q, mul_comm w q, mul_comm c p)

pub side_capacity : (g : WeightedGraph) (x : Fraction) (set : List Bool) → IsWeightedGraph g → length set ≡ g.nodes →
    capacity (network_at (dense_net g) x) (side_of set) ≡ (x.q *ℤ (pos g.nodes *ℤ total_weight g)) +ℤ (pos 2 *ℤ deficit g x set)
side_capacity g x set graph full =
    capacity_of_line (dense_net g) x (side_of set)
    ∙ value_step _ _ x.q x.p (pos g.nodes *ℤ total_weight g) (weight_inside g set) (cost_within g set) (dense_a g set graph full) (dense_b g set graph full)

not_twice : (b : Bool) → not (not b) ≡ b
not_twice true = refl
not_twice false = refl

turned_twice : (xs : List Bool) → map not (map not xs) ≡ xs
turned_twice [] = refl
turned_twice (b ∷ xs) = ap (λ c. c ∷ map not (map not xs)) (not_twice b) ∙ ap (λ l. b ∷ l) (turned_twice xs)

first_apart : (g : WeightedGraph) (side : List Bool) → length side ≡ suc (suc g.nodes) → has side 0 ≡ true → has side (suc g.nodes) ≡ false →
    side ≡ side_of (outside_of g side)
first_apart g [] e h l = absurd (omega arith)
first_apart g (b ∷ side) e h l =
    ap (λ c. c ∷ side) h ∙ ap (λ xs. true ∷ xs) (last_apart side g.nodes (omega arith) l)
    ∙ ap (λ xs. true ∷ (xs ++ (false ∷ []))) (sym (turned_twice (take g.nodes side)))

pub cut_is_side : (g : WeightedGraph) (side : List Bool) → IsNetworkCut (dense_net g) side → side ≡ side_of (outside_of g side)
cut_is_side g side c = first_apart g side c.full c.with_source c.without_sink

behind_length : (side : List Bool) (n : ℕ) → length side ≡ suc n → length (behind_first side) ≡ n
behind_length [] n e = absurd (omega arith)
behind_length (b ∷ side) n e = omega arith

pub outside_full : (g : WeightedGraph) (side : List Bool) → length side ≡ suc (suc g.nodes) → length (outside_of g side) ≡ g.nodes
outside_full g side e =
    let f = behind_length side (suc g.nodes) e in
    length_not (take g.nodes (behind_first side)) ∙ length_front (behind_first side) g.nodes (omega (arith, f))

pub at_cut : (g : WeightedGraph) (x : Fraction) (side : List Bool) → IsNetworkCut (dense_net g) side → IsCut (network_at (dense_net g) x) side
at_cut g x side c = record { full = c.full; with_source = c.with_source; without_sink = c.without_sink }

pub net_cut : (g : WeightedGraph) (x : Fraction) (side : List Bool) → IsCut (network_at (dense_net g) x) side → IsNetworkCut (dense_net g) side
net_cut g x side c = record { full = c.full; with_source = c.with_source; without_sink = c.without_sink }
