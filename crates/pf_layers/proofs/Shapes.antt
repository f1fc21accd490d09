-- Right answers have the right shape: there are no more layers than elements.
use Rattle.std.proofs.Common.{◌≡◌, ℕ, zero, suc, ◌<◌, ◌≤◌, ◌^◌, List, length, Bool, true, arith, ap, sym, subst, ◌∙◌, inl, inr}
use Rattle.std.specs.Prelude.{ℤ, pos, ◌≤ℤ◌, All}
use Rattle.std.proofs.lemmas.Int.{ints}
use Rattle.std.proofs.lemmas.Bool.{both_ways, or_left, or_right}
use Rattle.std.proofs.lemmas.List.{get_or_default}
use Rattle.pf_model.specs.Fraction.{Fraction}
use Rattle.pf_model.specs.Answer.{IsWithinSize}
use Rattle.pf_model.specs.Cut.{has, at_arc, union, size, IsContained}
use Rattle.pf_model.proofs.Exchange.{has-union, length-union}
use Rattle.pf_model.proofs.Search.{size-le-length}
use Rattle.pf_model.proofs.Whole.{contained_less}
use Rattle.pf_graph.specs.WeightedGraph.{WeightedGraph}
use Rattle.pf_graph.specs.Limits.{IsWithinLimits}
use Rattle.pf_closure.specs.Problem.{ClosureProblem, IsBoundedProblem}
use Rattle.pf_layers.specs.Layers.{before, layer, level_at, AreLayers}
use Rattle.pf_layers.specs.DenseLayers.{IsDensestBeside}
use Rattle.pf_layers.specs.RatioLayers.{IsLeastBeside}
use Rattle.pf_layers.specs.Answer.{LayersAnswer, IsLayersShape, IsDenseAnswer, IsRatioAnswer}
use Rattle.pf_layers.proofs.NumberingLemmas.{layer_length, before_length, before_more, layer_apart}
use Rattle.pf_layers.proofs.OneLayering.{IsSome}

-- a layer that holds something makes the elements before the next one more
more_before : (layers : List ℤ) (j v : ℕ) → has (layer layers j) v ≡ true → size (before layers j) < size (before layers (suc j))
more_before layers j v held =
    let old = before layers j in
    let here = layer layers j in
    let more : IsContained old (union old here) = λ w h. has-union old here w ∙ or_left (has old w) (has here w) h in
    let less : size old < size (union old here) = elim (contained_less old (union old here) (sym (length-union old here (before_length layers j ∙ sym (layer_length layers j)))) more) [
      | inl same ↦ absurd (both_ways _ ((layer_apart layers j).outside v held) (ap (λ l. has l v) same ∙ has-union old here v ∙ or_right (has old v) (has here v) held))
      | inr less ↦ less
    ] in
    subst (λ (side : List Bool). size old < size side) (sym (before_more layers j)) less

many_before : (n : ℕ) (IsNext : List Bool → Fraction → List Bool → Type 0) (levels : List Fraction) (layers : List ℤ) →
    ((taken : List Bool) (x : Fraction) (set : List Bool) → IsNext taken x set → IsSome set) → AreLayers n IsNext levels layers →
    (j : ℕ) → j ≤ length levels → j ≤ size (before layers (suc j))
many_before n IsNext levels layers some a zero low = omega arith
many_before n IsNext levels layers some a (suc j) low =
    let fewer = many_before n IsNext levels layers some a j (omega (arith, low)) in
    let s = some (before layers (suc j)) (level_at levels j) (layer layers (suc j)) (a.next j (omega (arith, low))) in
    let less = more_before layers (suc j) s.element s.held in
    omega (arith, fewer, less)

few_levels : (n : ℕ) (IsNext : List Bool → Fraction → List Bool → Type 0) (levels : List Fraction) (layers : List ℤ) →
    ((taken : List Bool) (x : Fraction) (set : List Bool) → IsNext taken x set → IsSome set) → AreLayers n IsNext levels layers → length levels ≤ n
few_levels n IsNext levels layers some a =
    let many = many_before n IsNext levels layers some a (length levels) (omega arith) in
    let most = size-le-length (before layers (suc (length levels))) in
    let width = before_length layers (suc (length levels)) in
    let full = a.full in
    omega (arith, many, most, width, full)

within : (x : ℤ) (k : ℕ) → pos 1 ≤ℤ x → x ≤ℤ pos k → k ≤ 1000 → IsWithinSize (2 ^ 104) x
within x k low high few = record { low = omega (arith, ints, low); high = omega (arith, ints, high, few) }

numbers_shape : (n : ℕ) (IsNext : List Bool → Fraction → List Bool → Type 0) (levels : List Fraction) (layers : List ℤ) → n ≤ 1000 →
    ((taken : List Bool) (x : Fraction) (set : List Bool) → IsNext taken x set → IsSome set) → AreLayers n IsNext levels layers → All (IsWithinSize (2 ^ 104)) layers
numbers_shape n IsNext levels layers few some a = λ i d h.
    let full = a.full in
    let inside : i < n = omega (arith, h, full) in
    let most = few_levels n IsNext levels layers some a in
    subst (IsWithinSize (2 ^ 104)) (get_or_default layers i (pos 0) d h) (within (at_arc layers i) (length levels) (a.low i inside) (a.high i inside) (omega (arith, most, few)))

pub dense_shape : (g : WeightedGraph) (answer : LayersAnswer) → IsWithinLimits g → IsDenseAnswer g answer → IsLayersShape g.nodes answer
dense_shape g answer limits right =
    let nodes = limits.nodes in
    record {
      levels = right.shape;
      full = right.right.layers_are.full;
      each = numbers_shape g.nodes (IsDensestBeside g) answer.levels answer.layers (omega (arith, nodes))
          (λ taken x set b. record { element = b.vertices.some.vertex; held = b.vertices.some.held }) right.right.layers_are;
    }

pub ratio_shape : (p : ClosureProblem) (answer : LayersAnswer) → IsBoundedProblem p → IsRatioAnswer p answer → IsLayersShape (length p.costs) answer
ratio_shape p answer bounded right = record {
  levels = right.shape;
  full = right.right.layers_are.full;
  each = numbers_shape (length p.costs) (IsLeastBeside p) answer.levels answer.layers bounded.few_items
      (λ taken x set b. record { element = b.closes.some.item; held = b.closes.some.held }) right.right.layers_are;
}
