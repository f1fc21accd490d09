-- The loops over the cuts keep their numbers.
use Rattle.std.proofs.Common.{◌≡◌, ℕ, suc, ◌-◌, ◌<◌, List, length, replicate, refl, Bool, true, false, not, arith, ap, sym, ◌∙◌}
use Rattle.std.specs.Prelude.{ℤ, pos}
use Rattle.pf_model.specs.Fraction.{Fraction}
use Rattle.pf_model.specs.Cut.{has}
use Rattle.pf_model.specs.Network.{IsMonotone}
use Rattle.pf_model.specs.Curve.{IsCurve, cut_at}
use Rattle.pf_graph.specs.WeightedGraph.{WeightedGraph, IsWeightedGraph}
use Rattle.pf_dense.specs.Densest.{HasPositiveCosts}
use Rattle.pf_dense.specs.Reduction.{dense_net}
use Rattle.pf_dense.proofs.NetLemmas.{outside_full}
use Rattle.pf_closure.specs.Problem.{ClosureProblem, IsBoundedProblem}
use Rattle.pf_closure.specs.Reduction.{closure_net}
use Rattle.pf_closure.proofs.LeastCuts.{items_full}
use Rattle.pf_closure.proofs.SideSums.{item_has}
use Rattle.pf_layers.specs.Reading.{IsNumbered, IsPut, outside_cut, items_in}
use Rattle.pf_layers.proofs.NumberingSteps.{numbers_begin, numbers_more, grown}
use Rattle.pf_layers.proofs.RatioLayered.{first_none}
use Rattle.pf_layers.proofs.CutSides.{dense_cut, items_cut, outside_told, outside_grows, items_grow, last_outside}

pub vertices_begin : (g : WeightedGraph) (points : List Fraction) (cuts : List (List Bool)) (layers : List ℤ) → IsWeightedGraph g → HasPositiveCosts g → IsMonotone (dense_net g) →
    IsCurve (dense_net g) points cuts → layers ≡ replicate g.nodes (pos 1) → IsNumbered g.nodes (outside_cut g cuts) layers 1
vertices_begin g points cuts layers graph positive m c same =
    let some = c.division.some in
    numbers_begin g.nodes (outside_cut g cuts) layers same
    (outside_full g (cut_at cuts (length cuts - 1)) (dense_cut g points cuts (length cuts - 1) c (omega (arith, some))).full)
    (λ v low. last_outside g points cuts graph positive m c v)

pub vertices_more : (g : WeightedGraph) (points : List Fraction) (cuts : List (List Bool)) (layers layers' : List ℤ) (side : List Bool) (j i : ℕ) → IsCurve (dense_net g) points cuts →
    IsNumbered g.nodes (outside_cut g cuts) layers j → j < length cuts → i ≡ length cuts - suc j → side ≡ cut_at cuts i →
    IsPut (λ v. has side (suc v)) (pos (suc j)) layers layers' → IsNumbered g.nodes (outside_cut g cuts) layers' (suc j)
vertices_more g points cuts layers layers' side j i c m low place same put =
    let here = same ∙ ap (cut_at cuts) place in
    let cut = dense_cut g points cuts (length cuts - suc j) c (omega (arith, low)) in
    numbers_more g.nodes (outside_cut g cuts) layers layers' (λ v. has side (suc v)) j m (outside_full g (cut_at cuts (length cuts - suc j)) cut.full)
    (λ v h. outside_told g (cut_at cuts (length cuts - suc j)) v cut h ∙ ap (λ l. not (has l (suc v))) (sym here))
    (λ k less. grown (outside_cut g cuts) (length cuts) (outside_grows g points cuts c) j k less low) put

pub items_begin : (p : ClosureProblem) (points : List Fraction) (cuts : List (List Bool)) (layers : List ℤ) → IsBoundedProblem p → IsCurve (closure_net p) points cuts →
    layers ≡ replicate (length p.costs) (pos 1) → IsNumbered (length p.costs) (items_in p cuts) layers 1
items_begin p points cuts layers items c same =
    numbers_begin (length p.costs) (items_in p cuts) layers same (items_full p (cut_at cuts 0) (items_cut p points cuts 0 c c.division.some))
    (λ v low. first_none p points cuts items c v)

not_twice : (a b : Bool) → a ≡ b → a ≡ not (not b)
not_twice true true e = refl
not_twice true false e = cc
not_twice false true e = cc
not_twice false false e = refl

pub items_more : (p : ClosureProblem) (points : List Fraction) (cuts : List (List Bool)) (layers layers' : List ℤ) (side : List Bool) (j : ℕ) → IsCurve (closure_net p) points cuts →
    IsNumbered (length p.costs) (items_in p cuts) layers j → j < length cuts → side ≡ cut_at cuts j →
    IsPut (λ v. not (has side (suc v))) (pos (suc j)) layers layers' → IsNumbered (length p.costs) (items_in p cuts) layers' (suc j)
items_more p points cuts layers layers' side j c m low same put =
    numbers_more (length p.costs) (items_in p cuts) layers layers' (λ v. not (has side (suc v))) j m (items_full p (cut_at cuts j) (items_cut p points cuts j c low))
    (λ v h. not_twice (has (items_in p cuts j) v) (has side (suc v)) (item_has p (cut_at cuts j) v h ∙ ap (λ l. has l (suc v)) (sym same)))
    (λ k less. grown (items_in p cuts) (length cuts) (items_grow p points cuts c) j k less low) put
