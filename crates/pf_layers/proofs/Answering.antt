-- The whole answers.
use Rattle.std.proofs.Common.{◌≡◌, suc, List, length, Bool, subst, ℕ}
use Rattle.std.specs.Prelude.{ℤ, All}
use Rattle.pf_model.specs.Fraction.{Fraction}
use Rattle.pf_model.specs.Answer.{IsFractionShape}
use Rattle.pf_model.specs.Curve.{IsCurve}
use Rattle.pf_graph.specs.WeightedGraph.{WeightedGraph, IsWeightedGraph}
use Rattle.pf_dense.specs.Reduction.{dense_net}
use Rattle.pf_closure.specs.Problem.{ClosureProblem, IsBoundedProblem}
use Rattle.pf_closure.specs.Reduction.{closure_net}
use Rattle.pf_layers.specs.Answer.{LayersAnswer, IsDenseAnswer, IsRatioAnswer}
use Rattle.pf_layers.specs.Reading.{IsNumbered, AreFalling, AreRising, IsEnded, outside_cut, items_in}
use Rattle.pf_layers.proofs.RatioLayered.{ratio_layers}
use Rattle.pf_layers.proofs.LevelLemmas.{dense_finished}

pub ratio_answer : (p : ClosureProblem) (points : List Fraction) (cuts : List (List Bool)) (levels : List Fraction) (layers got : List ℤ) (count : ℕ) (made : LayersAnswer) → IsBoundedProblem p →
    IsCurve (closure_net p) points cuts → suc count ≡ length cuts → IsNumbered (length p.costs) (items_in p cuts) layers count → AreRising p points levels count →
    All IsFractionShape levels → made ≡ record { levels = levels; layers = got } → got ≡ layers → IsRatioAnswer p made
ratio_answer p points cuts levels layers got count made items c many m f shape e a =
    rw (e, a) (record { shape = shape; right = ratio_layers p points cuts levels layers count items c many m f })

pub dense_answer : (g : WeightedGraph) (points : List Fraction) (cuts : List (List Bool)) (inner levels : List Fraction) (layers got seen : List ℤ) (count : ℕ) (made : LayersAnswer) →
    IsWeightedGraph g → IsCurve (dense_net g) points cuts → IsNumbered g.nodes (outside_cut g cuts) layers (length cuts) → suc (length inner) ≡ length cuts →
    AreFalling g points cuts inner → count ≡ length cuts → IsEnded seen count inner levels → All IsFractionShape levels → made ≡ record { levels = levels; layers = got } →
    got ≡ layers → seen ≡ layers → IsDenseAnswer g made
dense_answer g points cuts inner levels layers got seen count made graph c m full f same ended shape e a b =
    let there : IsEnded layers (length cuts) inner levels =
    subst (λ l. IsEnded l (length cuts) inner levels) b (subst (λ k. IsEnded seen k inner levels) same ended) in
    rw (e, a) (record { shape = shape; right = dense_finished g points cuts inner levels layers graph c m full f there })
