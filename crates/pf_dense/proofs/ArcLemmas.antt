-- The arcs of the network, one vertex or one edge after the other.
use Rattle.std.proofs.Common.{◌≡◌, ℕ, zero, suc, ◌+◌, ◌<◌, List, [], ◌∷◌, ◌++◌, length, get_or, take, refl, arith, ap, sym, ◌∙◌, add-one}
use Rattle.std.specs.Prelude.{ℤ, ◌-ℤ◌}
use Rattle.pf_model.specs.declared.AffineArc.{AffineArc}
use Rattle.pf_model.specs.Cut.{at_arc}
use Rattle.pf_graph.specs.WeightedGraph.{WeightedGraph}
use Rattle.pf_dense.specs.Reduction.{total_weight, weight_at, source_arc, sink_arc, edge_arc, vertex_arcs, edge_arcs}
use Rattle.pf_model.proofs.Facts.{join_three, two_more}

vertex_arcs_suc : (g : WeightedGraph) (sink j k : ℕ) (costs : List ℤ) → k < length costs →
    vertex_arcs g sink j (take (suc k) costs)
    ≡ vertex_arcs g sink j (take k costs)
    ++ (source_arc (j + k) (total_weight g -ℤ weight_at g (j + k)) (at_arc costs k) ∷ (sink_arc sink (j + k) (total_weight g) ∷ []))
vertex_arcs_suc g sink j k [] low = absurd (omega arith)
vertex_arcs_suc g sink j zero (c ∷ costs) low =
    let e : j ≡ j + 0 = omega arith in
    ap (λ n. source_arc n (total_weight g -ℤ weight_at g n) c ∷ (sink_arc sink n (total_weight g) ∷ [])) e
vertex_arcs_suc g sink j (suc k) (c ∷ costs) low =
    let e : suc j + k ≡ j + suc k = omega arith in
    ap (λ l. source_arc j (total_weight g -ℤ weight_at g j) c ∷ (sink_arc sink j (total_weight g) ∷ l)) (vertex_arcs_suc g sink (suc j) k costs (omega arith)
    ∙ ap (λ n. vertex_arcs g sink (suc j) (take k costs)
    ++ (source_arc n (total_weight g -ℤ weight_at g n) (at_arc costs k) ∷ (sink_arc sink n (total_weight g) ∷ []))) e)

edge_arcs_suc : (ends : List (ℕ × ℕ)) (weights : List ℤ) (k : ℕ) → length weights ≡ length ends → k < length ends →
    edge_arcs (take (suc k) ends) (take (suc k) weights)
    ≡ edge_arcs (take k ends) (take k weights)
    ++ (edge_arc (get_or ends k (0, 0)).0 (get_or ends k (0, 0)).1 (at_arc weights k)
    ∷ (edge_arc (get_or ends k (0, 0)).1 (get_or ends k (0, 0)).0 (at_arc weights k) ∷ []))
edge_arcs_suc [] weights k full low = absurd (omega arith)
edge_arcs_suc (edge ∷ ends) [] k full low = absurd (omega arith)
edge_arcs_suc (edge ∷ ends) (w ∷ weights) zero full low = refl
edge_arcs_suc (edge ∷ ends) (w ∷ weights) (suc k) full low =
    ap (λ l. edge_arc edge.0 edge.1 w ∷ (edge_arc edge.1 edge.0 w ∷ l)) (edge_arcs_suc ends weights k (omega arith) (omega arith))

pub pushed_vertex : (g : WeightedGraph) (sink sink' k : ℕ) (costs : List ℤ) (old mid new : List AffineArc) (a b : AffineArc) (rest whole c : ℤ) → k < length costs →
    sink' ≡ sink → rest ≡ total_weight g -ℤ weight_at g k → whole ≡ total_weight g → c ≡ at_arc costs k →
    old ≡ vertex_arcs g sink 0 (take k costs) → mid ≡ old ++ (a ∷ []) → new ≡ mid ++ (b ∷ []) → a ≡ source_arc k rest c → b ≡ sink_arc sink' k whole →
    new ≡ vertex_arcs g sink 0 (take (k + 1) costs)
pushed_vertex g sink sink' k costs old mid new a b rest whole c low es er ew ec before first second ea eb =
    let n : 0 + k ≡ k = omega arith in
    let here : a ≡ source_arc (0 + k) (total_weight g -ℤ weight_at g (0 + k)) (at_arc costs k) = rw (ea, er, ec, n) refl in
    let there : b ≡ sink_arc sink (0 + k) (total_weight g) = rw (eb, es, ew, n) refl in
    second ∙ ap (λ l. l ++ (b ∷ [])) first ∙ two_more old a b
    ∙ ap (λ l. l ++ (a ∷ (b ∷ []))) before
    ∙ ap (λ x. vertex_arcs g sink 0 (take k costs) ++ (x ∷ (b ∷ []))) here
    ∙ ap (λ x. vertex_arcs g sink 0 (take k costs) ++ (source_arc (0 + k) (total_weight g -ℤ weight_at g (0 + k)) (at_arc costs k) ∷ (x ∷ []))) there
    ∙ sym (vertex_arcs_suc g sink 0 k costs low) ∙ sym (ap (λ m. vertex_arcs g sink 0 (take m costs)) (add-one k))

pub pushed_edge : (ends : List (ℕ × ℕ)) (weights : List ℤ) (k u v : ℕ) (start old mid new : List AffineArc) (a b : AffineArc) (w : ℤ) → length weights ≡ length ends →
    k < length ends → u ≡ (get_or ends k (0, 0)).0 → v ≡ (get_or ends k (0, 0)).1 → w ≡ at_arc weights k →
    old ≡ start ++ edge_arcs (take k ends) (take k weights) → mid ≡ old ++ (a ∷ []) → new ≡ mid ++ (b ∷ []) → a ≡ edge_arc u v w → b ≡ edge_arc v u w →
    new ≡ start ++ edge_arcs (take (k + 1) ends) (take (k + 1) weights)
pushed_edge ends weights k u v start old mid new a b w full low eu ev ew before first second ea eb =
    let here : a ≡ edge_arc (get_or ends k (0, 0)).0 (get_or ends k (0, 0)).1 (at_arc weights k) = rw (ea, eu, ev, ew) refl in
    let there : b ≡ edge_arc (get_or ends k (0, 0)).1 (get_or ends k (0, 0)).0 (at_arc weights k) = rw (eb, eu, ev, ew) refl in
    let front = edge_arcs (take k ends) (take k weights) in
    second ∙ ap (λ l. l ++ (b ∷ [])) first ∙ two_more old a b
    ∙ ap (λ l. l ++ (a ∷ (b ∷ []))) before ∙ join_three start front (a ∷ (b ∷ []))
    ∙ ap (λ x. start ++ (front ++ (x ∷ (b ∷ [])))) here
    ∙ ap (λ x. start ++ (front ++ (edge_arc (get_or ends k (0, 0)).0 (get_or ends k (0, 0)).1 (at_arc weights k) ∷ (x ∷ [])))) there
    ∙ sym (ap (λ l. start ++ l) (edge_arcs_suc ends weights k full low)) ∙ sym (ap (λ m. start ++ edge_arcs (take m ends) (take m weights)) (add-one k))
