-- The charges that a greatest flow at the greatest density gives.
use Rattle.std.proofs.Common.{◌≡◌, ℕ, zero, suc, ◌+◌, ◌<◌, ◌≤◌, List, [], ◌∷◌, ◌++◌, length, get_or, drop, map, replicate, refl, Bool, true, false, cond, not, arith, ap, sym, ◌∙◌}
use Rattle.std.specs.Prelude.{ℤ, ◌+ℤ◌, ◌-ℤ◌, ◌*ℤ◌, ◌≤ℤ◌, pos, ◌==◌}
use Rattle.std.proofs.lemmas.Int.{ints}
use Rattle.std.proofs.lemmas.Bool.Decides.{nat_tests}
use Rattle.std.proofs.lemmas.List.{length-replicate, get_or-drop, length-drop}
use Rattle.pf_model.specs.declared.AffineArc.{AffineArc}
use Rattle.pf_model.specs.Fraction.{Fraction}
use Rattle.pf_model.specs.Cut.{has, at_arc, leaves, sum_where, capacity, IsProper}
use Rattle.pf_model.specs.Flow.{IsFlow, value, sum_out, sum_in}
use Rattle.pf_model.specs.Network.{ends_of, capacity_at, network_at}
use Rattle.pf_model.proofs.Integers.{add_mul, mul_add, mul_comm, mul_assoc}
use Rattle.pf_model.proofs.Duality.{tight_from_value}
use Rattle.pf_model.proofs.Search.{has_none}
use Rattle.pf_graph.specs.WeightedGraph.{WeightedGraph, IsWeightedGraph}
use Rattle.pf_dense.specs.Certificate.{whole_charge, second_charges, charged, AreCharges, AreWithin}
use Rattle.pf_dense.specs.Reduction.{total_weight, weight_at, source_arc, sink_arc, edge_arc, vertex_arcs, edge_arcs, sink_node, dense_net, side_of}
use Rattle.pf_dense.specs.Carrying.{IsCarried}
use Rattle.pf_dense.proofs.NetLemmas.{side_at, side_cut, side_sink, at_cut}
use Rattle.pf_model.proofs.Facts.{behind_both, none_before, pass_both, skip_one}

sum_behind : (g : WeightedGraph) (test : ℕ × ℕ → Bool) (sink i : ℕ) (costs flow : List ℤ) (later : List AffineArc) → length costs + length costs ≤ length flow →
    sum_where test (map ends_of (vertex_arcs g sink i costs ++ later)) flow
    ≡ sum_where test (map ends_of (vertex_arcs g sink i costs)) flow +ℤ sum_where test (map ends_of later) (drop (length costs + length costs) flow)
sum_behind g test sink i [] flow later room = none_before _
sum_behind g test sink i (c ∷ costs) [] later room = absurd (omega arith)
sum_behind g test sink i (c ∷ costs) (f ∷ []) later room = absurd (omega arith)
sum_behind g test sink i (c ∷ costs) (f ∷ (h ∷ flow)) later room =
    let e : suc (length costs) + suc (length costs) ≡ suc (suc (length costs + length costs)) = omega arith in
    let rest = sum_behind g test sink (suc i) costs flow later (omega arith) in
    let same = ap (λ n. sum_where test (map ends_of later) (drop n (f ∷ (h ∷ flow)))) e in
    behind_both (cond (test (0, suc i)) f (pos 0)) (cond (test (suc i, sink)) h (pos 0)) _ _ _ _ rest same

-- the arcs of the vertices after the one that is looked for
skip_out : (p q : Bool) (x y a : ℤ) → p ≡ false → q ≡ false → a ≡ pos 0 → cond p x (pos 0) +ℤ (cond q y (pos 0) +ℤ a) ≡ pos 0
skip_out true q x y a e f h = cc
skip_out false true x y a e f h = cc
skip_out false false x y a e f h = omega (arith, ints, h)

other : (i t : ℕ) → t < i → (suc i == suc t) ≡ false
other i t low = grind (arith, nat_tests)

before : (i t : ℕ) → i < t → (suc i == suc t) ≡ false
before i t low = grind (arith, nat_tests)

equals : (i t : ℕ) → t ≡ i → (suc i == suc t) ≡ true
equals i t e = grind (arith, nat_tests)

first_node : (t : ℕ) → (0 == suc t) ≡ false
first_node t = grind (arith, nat_tests)

out_later : (g : WeightedGraph) (sink i t : ℕ) (costs flow : List ℤ) → t < i →
    sum_where (λ arc. arc.0 == suc t) (map ends_of (vertex_arcs g sink i costs)) flow ≡ pos 0
out_later g sink i t [] flow low = refl
out_later g sink i t (c ∷ costs) [] low = refl
out_later g sink i t (c ∷ costs) (f ∷ []) low = skip_one (0 == suc t) f (first_node t)
out_later g sink i t (c ∷ costs) (f ∷ (h ∷ flow)) low =
    skip_out (0 == suc t) (suc i == suc t) f h _ (first_node t) (other i t low) (out_later g sink (suc i) t costs flow (omega (arith, low)))

in_later : (g : WeightedGraph) (sink i t : ℕ) (costs flow : List ℤ) → t < i → (sink == suc t) ≡ false →
    sum_where (λ arc. arc.1 == suc t) (map ends_of (vertex_arcs g sink i costs)) flow ≡ pos 0
in_later g sink i t [] flow low off = refl
in_later g sink i t (c ∷ costs) [] low off = refl
in_later g sink i t (c ∷ costs) (f ∷ []) low off = skip_one (suc i == suc t) f (other i t low)
in_later g sink i t (c ∷ costs) (f ∷ (h ∷ flow)) low off =
    skip_out (suc i == suc t) (sink == suc t) f h _ (other i t low) off (in_later g sink (suc i) t costs flow (omega (arith, low)) off)

-- the arc from the vertex i + k to the sink has the number 2 k + 1, that from the source the number 2 k
take_out : (p q : Bool) (x y a : ℤ) → p ≡ false → q ≡ true → a ≡ pos 0 → cond p x (pos 0) +ℤ (cond q y (pos 0) +ℤ a) ≡ y
take_out true q x y a e f h = cc
take_out false true x y a e f h = omega (arith, ints, h)
take_out false false x y a e f h = cc

take_in : (p q : Bool) (x y a : ℤ) → p ≡ true → q ≡ false → a ≡ pos 0 → cond p x (pos 0) +ℤ (cond q y (pos 0) +ℤ a) ≡ x
take_in true true x y a e f h = cc
take_in true false x y a e f h = omega (arith, ints, h)
take_in false q x y a e f h = cc

out_of_vertex : (g : WeightedGraph) (sink i k t : ℕ) (costs flow : List ℤ) → length costs + length costs ≤ length flow → k < length costs → t ≡ i + k →
    sum_where (λ arc. arc.0 == suc t) (map ends_of (vertex_arcs g sink i costs)) flow ≡ at_arc flow (suc (k + k))
out_of_vertex g sink i k t [] flow room low e = absurd (omega arith)
out_of_vertex g sink i k t (c ∷ costs) [] room low e = absurd (omega arith)
out_of_vertex g sink i k t (c ∷ costs) (f ∷ []) room low e = absurd (omega arith)
out_of_vertex g sink i zero t (c ∷ costs) (f ∷ (h ∷ flow)) room low e =
    take_out (0 == suc t) (suc i == suc t) f h _ (first_node t) (equals i t (omega (arith, e))) (out_later g sink (suc i) t costs flow (omega (arith, e)))
out_of_vertex g sink i (suc k) t (c ∷ costs) (f ∷ (h ∷ flow)) room low e =
    let d : suc (suc (suc (k + k))) ≡ suc (suc k + suc k) = omega arith in
    pass_both (0 == suc t) (suc i == suc t) f h _ _ (first_node t) (before i t (omega (arith, e)))
    (out_of_vertex g sink (suc i) k t costs flow (omega arith) (omega arith) (omega (arith, e)))
    ∙ ap (λ n. at_arc (f ∷ (h ∷ flow)) n) d

into_vertex : (g : WeightedGraph) (sink i k t : ℕ) (costs flow : List ℤ) → length costs + length costs ≤ length flow → k < length costs → t ≡ i + k →
    (sink == suc t) ≡ false → sum_where (λ arc. arc.1 == suc t) (map ends_of (vertex_arcs g sink i costs)) flow ≡ at_arc flow (k + k)
into_vertex g sink i k t [] flow room low e off = absurd (omega arith)
into_vertex g sink i k t (c ∷ costs) [] room low e off = absurd (omega arith)
into_vertex g sink i k t (c ∷ costs) (f ∷ []) room low e off = absurd (omega arith)
into_vertex g sink i zero t (c ∷ costs) (f ∷ (h ∷ flow)) room low e off =
    take_in (suc i == suc t) (sink == suc t) f h _ (equals i t (omega (arith, e))) off (in_later g sink (suc i) t costs flow (omega (arith, e)) off)
into_vertex g sink i (suc k) t (c ∷ costs) (f ∷ (h ∷ flow)) room low e off =
    let d : suc (suc (k + k)) ≡ suc k + suc k = omega arith in
    pass_both (suc i == suc t) (sink == suc t) f h _ _ (before i t (omega (arith, e))) off
    (into_vertex g sink (suc i) k t costs flow (omega arith) (omega arith) (omega (arith, e)) off)
    ∙ ap (λ n. at_arc (f ∷ (h ∷ flow)) n) d

-- what stands beside the arcs
beside_source : {B : Type 0} (g : WeightedGraph) (f : AffineArc → B) (d : B) (sink i k t : ℕ) (costs : List ℤ) (later : List AffineArc) → k < length costs → t ≡ i + k →
    get_or (map f (vertex_arcs g sink i costs ++ later)) (k + k) d ≡ f (source_arc t (total_weight g -ℤ weight_at g t) (at_arc costs k))
beside_source g f d sink i k t [] later low e = absurd (omega arith)
beside_source g f d sink i zero t (c ∷ costs) later low e =
    let same : i ≡ t = omega (arith, e) in
    ap (λ n. f (source_arc n (total_weight g -ℤ weight_at g n) c)) same
beside_source g f d sink i (suc k) t (c ∷ costs) later low e =
    let m : suc k + suc k ≡ suc (suc (k + k)) = omega arith in
    ap (λ n. get_or (map f (vertex_arcs g sink i (c ∷ costs) ++ later)) n d) m
    ∙ beside_source g f d sink (suc i) k t costs later (omega arith) (omega (arith, e))

beside_sink : {B : Type 0} (g : WeightedGraph) (f : AffineArc → B) (d : B) (sink i k t : ℕ) (costs : List ℤ) (later : List AffineArc) → k < length costs → t ≡ i + k →
    get_or (map f (vertex_arcs g sink i costs ++ later)) (suc (k + k)) d ≡ f (sink_arc sink t (total_weight g))
beside_sink g f d sink i k t [] later low e = absurd (omega arith)
beside_sink g f d sink i zero t (c ∷ costs) later low e =
    let same : i ≡ t = omega (arith, e) in
    ap (λ n. f (sink_arc sink n (total_weight g))) same
beside_sink g f d sink i (suc k) t (c ∷ costs) later low e =
    let m : suc (suc k + suc k) ≡ suc (suc (suc (k + k))) = omega arith in
    ap (λ n. get_or (map f (vertex_arcs g sink i (c ∷ costs) ++ later)) n d) m
    ∙ beside_sink g f d sink (suc i) k t costs later (omega arith) (omega (arith, e))

behind_vertices : {B : Type 0} (g : WeightedGraph) (f : AffineArc → B) (d : B) (sink i j : ℕ) (costs : List ℤ) (later : List AffineArc) →
    get_or (map f (vertex_arcs g sink i costs ++ later)) (length costs + length costs + j) d ≡ get_or (map f later) j d
behind_vertices g f d sink i j [] later = let e : 0 + 0 + j ≡ j = omega arith in ap (λ n. get_or (map f later) n d) e
behind_vertices g f d sink i j (c ∷ costs) later =
    let m : suc (length costs) + suc (length costs) + j ≡ suc (suc (length costs + length costs + j)) = omega arith in
    ap (λ n. get_or (map f (vertex_arcs g sink i (c ∷ costs) ++ later)) n d) m
    ∙ behind_vertices g f d sink (suc i) j costs later

beside_first : {B : Type 0} (f : AffineArc → B) (d : B) (ends : List (ℕ × ℕ)) (weights : List ℤ) (k : ℕ) → length weights ≡ length ends → k < length ends →
    get_or (map f (edge_arcs ends weights)) (k + k) d ≡ f (edge_arc (get_or ends k (0, 0)).0 (get_or ends k (0, 0)).1 (at_arc weights k))
beside_first f d [] weights k full low = absurd (omega arith)
beside_first f d (edge ∷ ends) [] k full low = absurd (omega arith)
beside_first f d (edge ∷ ends) (w ∷ weights) zero full low = refl
beside_first f d (edge ∷ ends) (w ∷ weights) (suc k) full low =
    let m : suc k + suc k ≡ suc (suc (k + k)) = omega arith in
    ap (λ n. get_or (map f (edge_arcs (edge ∷ ends) (w ∷ weights))) n d) m ∙ beside_first f d ends weights k (omega arith) (omega arith)

beside_second : {B : Type 0} (f : AffineArc → B) (d : B) (ends : List (ℕ × ℕ)) (weights : List ℤ) (k : ℕ) → length weights ≡ length ends → k < length ends →
    get_or (map f (edge_arcs ends weights)) (suc (k + k)) d ≡ f (edge_arc (get_or ends k (0, 0)).1 (get_or ends k (0, 0)).0 (at_arc weights k))
beside_second f d [] weights k full low = absurd (omega arith)
beside_second f d (edge ∷ ends) [] k full low = absurd (omega arith)
beside_second f d (edge ∷ ends) (w ∷ weights) zero full low = refl
beside_second f d (edge ∷ ends) (w ∷ weights) (suc k) full low =
    let m : suc (suc k + suc k) ≡ suc (suc (suc (k + k))) = omega arith in
    ap (λ n. get_or (map f (edge_arcs (edge ∷ ends) (w ∷ weights))) n d) m ∙ beside_second f d ends weights k (omega arith) (omega arith)

length_edges : (ends : List (ℕ × ℕ)) (weights : List ℤ) → length weights ≡ length ends → length (edge_arcs ends weights) ≡ length ends + length ends
length_edges [] weights full = refl
length_edges (edge ∷ ends) [] full = absurd (omega arith)
length_edges (edge ∷ ends) (w ∷ weights) full = let rest = length_edges ends weights (omega arith) in omega (arith, rest)

length_vertices : (g : WeightedGraph) (sink i : ℕ) (costs : List ℤ) (later : List AffineArc) →
    length (vertex_arcs g sink i costs ++ later) ≡ length costs + length costs + length later
length_vertices g sink i [] later = omega arith
length_vertices g sink i (c ∷ costs) later = let rest = length_vertices g sink (suc i) costs later in omega (arith, rest)

length_ends : (arcs : List AffineArc) → length (map ends_of arcs) ≡ length arcs
length_ends [] = refl
length_ends (arc ∷ arcs) = ap suc (length_ends arcs)

pub length_arcs : (g : WeightedGraph) → IsWeightedGraph g → length (dense_net g).arcs ≡ g.nodes + g.nodes + (length g.ends + length g.ends)
length_arcs g graph =
    let a = length_vertices g (sink_node g) 0 g.costs (edge_arcs g.ends g.weights) in
    let b = length_edges g.ends g.weights graph.weights_full in
    let c = graph.costs_full in
    omega (arith, a, b, c)

-- what the edges charge a vertex is its weight, and what the flow takes out of it less what it brings
same_test : (u t : ℕ) → (suc u == suc t) ≡ (u == t)
same_test u t = grind (arith, nat_tests)

carried_step : (p r p' r' : Bool) (q w c f h o s ow iw oe ie : ℤ) → p' ≡ p → r' ≡ r → c ≡ ((q *ℤ w) +ℤ f) -ℤ h → o +ℤ s ≡ (q *ℤ (ow +ℤ iw)) +ℤ (oe -ℤ ie) →
    (cond p c (pos 0) +ℤ o) +ℤ (cond r ((pos 2 *ℤ (q *ℤ w)) -ℤ c) (pos 0) +ℤ s)
    ≡ (q *ℤ ((cond p w (pos 0) +ℤ ow) +ℤ (cond r w (pos 0) +ℤ iw)))
    +ℤ ((cond p' f (pos 0) +ℤ (cond r' h (pos 0) +ℤ oe)) -ℤ (cond r' f (pos 0) +ℤ (cond p' h (pos 0) +ℤ ie)))
carried_step true true p' r' q w c f h o s ow iw oe ie ep er e t =
    let whole : (w +ℤ ow) +ℤ (w +ℤ iw) ≡ (w +ℤ w) +ℤ (ow +ℤ iw) = omega (arith, ints) in
    let m = ap (λ n. q *ℤ n) whole ∙ mul_add q (w +ℤ w) (ow +ℤ iw) in
    let n = mul_add q w w in
    rw (ep, er) (omega (arith, ints, e, t, m, n))
carried_step true false p' r' q w c f h o s ow iw oe ie ep er e t =
    let whole : (w +ℤ ow) +ℤ (pos 0 +ℤ iw) ≡ w +ℤ (ow +ℤ iw) = omega (arith, ints) in
    let m = ap (λ n. q *ℤ n) whole ∙ mul_add q w (ow +ℤ iw) in
    rw (ep, er) (omega (arith, ints, e, t, m))
carried_step false true p' r' q w c f h o s ow iw oe ie ep er e t =
    let whole : (pos 0 +ℤ ow) +ℤ (w +ℤ iw) ≡ w +ℤ (ow +ℤ iw) = omega (arith, ints) in
    let m = ap (λ n. q *ℤ n) whole ∙ mul_add q w (ow +ℤ iw) in
    rw (ep, er) (omega (arith, ints, e, t, m))
carried_step false false p' r' q w c f h o s ow iw oe ie ep er e t =
    let whole : (pos 0 +ℤ ow) +ℤ (pos 0 +ℤ iw) ≡ ow +ℤ iw = omega (arith, ints) in
    let m = ap (λ n. q *ℤ n) whole in
    rw (ep, er) (omega (arith, ints, e, t, m))

carried_none : (q : ℤ) → pos 0 +ℤ pos 0 ≡ (q *ℤ (pos 0 +ℤ pos 0)) +ℤ (pos 0 -ℤ pos 0)
carried_none q = omega (arith, ints)

carried_sum : (v : ℕ) (x : Fraction) (ends : List (ℕ × ℕ)) (weights flow charges : List ℤ) → length weights ≡ length ends → length charges ≡ length ends →
    length ends + length ends ≤ length flow →
    ((k : ℕ) → k < length ends → at_arc charges k ≡ ((x.q *ℤ at_arc weights k) +ℤ at_arc flow (k + k)) -ℤ at_arc flow (suc (k + k))) →
    sum_out ends charges v +ℤ sum_in ends (second_charges x weights charges) v
    ≡ (x.q *ℤ (sum_out ends weights v +ℤ sum_in ends weights v))
    +ℤ (sum_where (λ arc. arc.0 == suc v) (map ends_of (edge_arcs ends weights)) flow -ℤ sum_where (λ arc. arc.1 == suc v) (map ends_of (edge_arcs ends weights)) flow)
carried_sum v x [] weights flow charges wide full room h = carried_none x.q
carried_sum v x (edge ∷ ends) [] flow charges wide full room h = absurd (omega arith)
carried_sum v x (edge ∷ ends) (w ∷ weights) flow [] wide full room h = absurd (omega arith)
carried_sum v x (edge ∷ ends) (w ∷ weights) [] (c ∷ charges) wide full room h = absurd (omega arith)
carried_sum v x (edge ∷ ends) (w ∷ weights) (f ∷ []) (c ∷ charges) wide full room h = absurd (omega arith)
carried_sum v x (edge ∷ ends) (w ∷ weights) (f ∷ (k ∷ flow)) (c ∷ charges) wide full room h =
    carried_step (edge.0 == v) (edge.1 == v) (suc edge.0 == suc v) (suc edge.1 == suc v) x.q w c f k _ _ _ _ _ _ (same_test edge.0 v) (same_test edge.1 v) (h 0 (omega arith))
    (carried_sum v x ends weights flow charges (omega arith) (omega arith) (omega arith)
    (λ j low.
    let m : suc j + suc j ≡ suc (suc (j + j)) = omega arith in
    let e = ap (λ n. at_arc (f ∷ (k ∷ flow)) n) m in
    let e' = ap (λ n. at_arc (f ∷ (k ∷ flow)) (suc n)) m in
    let here = h (suc j) (omega (arith, low)) in
    omega (arith, ints, e, e', here)))

-- at a vertex as much leaves as enters, the arc to the sink is full, and that from the source carries at most its capacity
within_step : (f h oe ie t w c q p into out charge : ℤ) → out ≡ h +ℤ oe → into ≡ f +ℤ ie → out ≡ into → charge ≡ (q *ℤ w) +ℤ (oe -ℤ ie) →
    f ≤ℤ (((t -ℤ w) *ℤ q) +ℤ ((pos 2 *ℤ c) *ℤ p)) → ((t *ℤ q) +ℤ (pos 0 *ℤ p)) ≤ℤ h → charge ≤ℤ (pos 2 *ℤ (p *ℤ c))
within_step f h oe ie t w c q p into out charge e g same is high low =
    let back : t ≡ (t -ℤ w) +ℤ w = omega (arith, ints) in
    let spread = ap (λ n. n *ℤ q) back ∙ add_mul (t -ℤ w) w q in
    let none : pos 0 *ℤ p ≡ pos 0 = omega (arith, ints) in
    let twice = mul_assoc (pos 2) c p in
    omega (arith, ints, e, g, same, is, high, low, spread, none, twice, mul_comm c p, mul_comm w q)

joined : (a b c d : ℤ) → a ≡ b +ℤ c → b ≡ d → a ≡ d +ℤ c
joined a b c d h l = omega (arith, ints, h, l)

-- no vertex outside
abbrev pub none_of : WeightedGraph → List Bool
none_of g = replicate g.nodes false

pub none_full : (g : WeightedGraph) → length (none_of g) ≡ g.nodes
none_full g = length-replicate g.nodes false

leaves_none : (g : WeightedGraph) (v : ℕ) → v < g.nodes → leaves (side_of (none_of g)) (suc v, sink_node g) ≡ true
leaves_none g v low =
    let inside : has (side_of (none_of g)) (suc v) ≡ true = side_at (none_of g) v (omega (arith, low, none_full g)) ∙ ap not (has_none g.nodes v) in
    rw (inside, side_sink g (none_of g) (none_full g)) refl

pub flow_within : (g : WeightedGraph) (x : Fraction) (flow charges : List ℤ) → IsWeightedGraph g → IsProper (network_at (dense_net g) x) →
    IsFlow (network_at (dense_net g) x) flow →
    value (network_at (dense_net g) x) flow ≡ capacity (network_at (dense_net g) x) (side_of (none_of g)) → IsCarried g x flow charges → AreWithin g x charges
flow_within g x flow charges graph proper f meets carried = record {
  most = λ v low.
      let net = network_at (dense_net g) x in
      let sink = sink_node g in
      let costs = graph.costs_full in
      let wide = graph.weights_full in
      let later = edge_arcs g.ends g.weights in
      let arcs = length_arcs g graph in
      let long : length flow ≡ g.nodes + g.nodes + (length g.ends + length g.ends) = f.within.full ∙ length_ends (dense_net g).arcs ∙ arcs in
      let room : length g.costs + length g.costs ≤ length flow = omega (arith, costs, long) in
      let there : v < length g.costs = omega (arith, low, costs) in
      let here : v ≡ 0 + v = omega arith in
      let off : (sink == suc v) ≡ false = grind (arith, nat_tests) in
      let rest = drop (length g.costs + length g.costs) flow in
      let out = joined _ _ _ _ (sum_behind g (λ arc. arc.0 == suc v) sink 0 g.costs flow later room) (out_of_vertex g sink 0 v v g.costs flow room there here) in
      let into = joined _ _ _ _ (sum_behind g (λ arc. arc.1 == suc v) sink 0 g.costs flow later room) (into_vertex g sink 0 v v g.costs flow room there here off) in
      let charge = carried_sum v x g.ends g.weights rest charges wide carried.full (room_behind flow (length g.costs + length g.costs) (length g.ends + length g.ends) (omega (arith, costs, long)))
      (λ k less. carried.each k less
      ∙ ap (λ n. ((x.q *ℤ at_arc g.weights k) +ℤ n) -ℤ at_arc flow (g.nodes + g.nodes + suc (k + k))) (shifted flow g.nodes (length g.costs) (k + k) costs)
      ∙ ap (λ n. ((x.q *ℤ at_arc g.weights k) +ℤ at_arc rest (k + k)) -ℤ n) (shifted flow g.nodes (length g.costs) (suc (k + k)) costs)) in
      let none = at_cut g x (side_of (none_of g)) (side_cut g (none_of g) (none_full g)) in
      let tight = tight_from_value net flow (side_of (none_of g)) proper f none (omega (arith, ints, meets)) in
      let first = beside_sink g ends_of (0, 0) sink 0 v v g.costs later there here in
      let source_cap = beside_source g (capacity_at x) (pos 0) sink 0 v v g.costs later there here in
      let sink_cap = beside_sink g (capacity_at x) (pos 0) sink 0 v v g.costs later there here in
      let ends_long = length_ends (dense_net g).arcs in
      let full_sink = tight.full (suc (v + v)) (record { in_range = omega (arith, ends_long, arcs, low); passes = ap (leaves (side_of (none_of g))) first ∙ leaves_none g v low }) in
      let high_source = f.within.high (v + v) (omega (arith, ends_long, arcs, low)) in
      let kept = f.kept (suc v) (omega (arith, low)) (omega arith) (omega (arith, low)) in
      within_step (at_arc flow (v + v)) (at_arc flow (suc (v + v))) _ _ (total_weight g) (weight_at g v) (at_arc g.costs v) x.q x.p _ _ (charged g x charges v)
      out into kept charge (omega (arith, ints, source_cap, high_source)) (omega (arith, ints, sink_cap, full_sink));
}
  where
    shifted : (flow : List ℤ) (n m j : ℕ) → m ≡ n → at_arc flow (n + n + j) ≡ at_arc (drop (m + m) flow) j
    shifted flow n m j e = rw (e, get_or-drop) refl

    room_behind : (flow : List ℤ) (n m : ℕ) → n + m ≤ length flow → m ≤ length (drop n flow)
    room_behind flow n m h = omega (arith, h, length-drop n flow)

-- and neither end of an edge is charged less than 0
range_step : (f h w q c : ℤ) → c ≡ ((q *ℤ w) +ℤ f) -ℤ h → pos 0 ≤ℤ f → pos 0 ≤ℤ h → f ≤ℤ (q *ℤ w) → h ≤ℤ (q *ℤ w) →
    (pos 0 ≤ℤ c) × (c ≤ℤ (pos 2 *ℤ (q *ℤ w)))
range_step f h w q c e fl hl fh hh = (omega (arith, ints, e, fl, hl, fh, hh), omega (arith, ints, e, fl, hl, fh, hh))

-- what the flow carries along an edge and back
pub record IsAlong (g : WeightedGraph) (x : Fraction) (flow : List ℤ) (i : ℕ) : Type 0 where
  pub along_low : pos 0 ≤ℤ at_arc flow (g.nodes + g.nodes + (i + i))
  pub back_low : pos 0 ≤ℤ at_arc flow (g.nodes + g.nodes + suc (i + i))
  pub along_high : at_arc flow (g.nodes + g.nodes + (i + i)) ≤ℤ (x.q *ℤ at_arc g.weights i)
  pub back_high : at_arc flow (g.nodes + g.nodes + suc (i + i)) ≤ℤ (x.q *ℤ at_arc g.weights i)

constant : (f k w q p : ℤ) → f ≤ℤ k → k ≡ (w *ℤ q) +ℤ (pos 0 *ℤ p) → f ≤ℤ (q *ℤ w)
constant f k w q p h e =
    let none : pos 0 *ℤ p ≡ pos 0 = omega (arith, ints) in
    omega (arith, ints, h, e, none, mul_comm w q)

pub flow_length : (g : WeightedGraph) (x : Fraction) (flow : List ℤ) → IsWeightedGraph g → IsFlow (network_at (dense_net g) x) flow →
    length flow ≡ g.nodes + g.nodes + (length g.ends + length g.ends)
flow_length g x flow graph f = f.within.full ∙ length_ends (dense_net g).arcs ∙ length_arcs g graph

pub along_of : (g : WeightedGraph) (x : Fraction) (flow : List ℤ) → IsWeightedGraph g → IsFlow (network_at (dense_net g) x) flow → (i : ℕ) → i < length g.ends →
    IsAlong g x flow i
along_of g x flow graph f i low =
    let costs = graph.costs_full in
    let wide = graph.weights_full in
    let later = edge_arcs g.ends g.weights in
    let ends_long = length_ends (dense_net g).arcs in
    let arcs = length_arcs g graph in
    let place : ℕ = g.nodes + g.nodes + (i + i) in
    let next : ℕ = g.nodes + g.nodes + suc (i + i) in
    let there : place < length (map ends_of (dense_net g).arcs) = omega (arith, ends_long, arcs, low) in
    let after : next < length (map ends_of (dense_net g).arcs) = omega (arith, ends_long, arcs, low) in
    let moved : (j : ℕ) → get_or (map (capacity_at x) (dense_net g).arcs) (g.nodes + g.nodes + j) (pos 0) ≡ get_or (map (capacity_at x) later) j (pos 0) = λ j.
    (ap (λ n. get_or (map (capacity_at x) (dense_net g).arcs) (n + n + j) (pos 0)) (sym costs) ∙ behind_vertices g (capacity_at x) (pos 0) (sink_node g) 0 j g.costs later) in
    record {
      along_low = f.within.low place there;
      back_low = f.within.low next after;
      along_high = constant _ _ (at_arc g.weights i) x.q x.p (f.within.high place there) (moved (i + i) ∙ beside_first (capacity_at x) (pos 0) g.ends g.weights i wide low);
      back_high = constant _ _ (at_arc g.weights i) x.q x.p (f.within.high next after) (moved (suc (i + i)) ∙ beside_second (capacity_at x) (pos 0) g.ends g.weights i wide low);
    }

charge_range : (g : WeightedGraph) (x : Fraction) (flow charges : List ℤ) → IsWeightedGraph g → IsFlow (network_at (dense_net g) x) flow → IsCarried g x flow charges →
    (i : ℕ) → i < length g.ends → (pos 0 ≤ℤ at_arc charges i) × (at_arc charges i ≤ℤ whole_charge x (at_arc g.weights i))
charge_range g x flow charges graph f carried i low =
    let a = along_of g x flow graph f i low in
    range_step (at_arc flow (g.nodes + g.nodes + (i + i))) (at_arc flow (g.nodes + g.nodes + suc (i + i))) (at_arc g.weights i) x.q (at_arc charges i) (carried.each i low)
    a.along_low a.back_low a.along_high a.back_high

pub flow_charges : (g : WeightedGraph) (x : Fraction) (flow charges : List ℤ) → IsWeightedGraph g → IsFlow (network_at (dense_net g) x) flow → IsCarried g x flow charges →
    AreCharges g x charges
flow_charges g x flow charges graph f carried = record {
  full = carried.full;
  low = λ i low. (charge_range g x flow charges graph f carried i low).0;
  high = λ i low. (charge_range g x flow charges graph f carried i low).1;
}
