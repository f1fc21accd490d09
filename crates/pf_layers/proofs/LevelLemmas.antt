-- Levels are read off point by point, and what is read off is the answer.
use Rattle.std.proofs.Common.{◌≡◌, ℕ, suc, ◌+◌, ◌-◌, ◌<◌, List, [], ◌∷◌, ◌++◌, length, get_or, refl, Bool, arith, ap, sym, ◌∙◌, inl, inr, subst, add-one}
use Rattle.std.specs.Prelude.{ℤ, All}
use Rattle.std.proofs.lemmas.Bool.{cases_lt}
use Rattle.std.proofs.lemmas.List.{length_push, get_or_push, get_or_append_left, get_or_default}
use Rattle.std.proofs.lemmas.List.Elements.{All-push}
use Rattle.pf_model.specs.Fraction.{Fraction}
use Rattle.pf_model.specs.Answer.{IsFractionShape}
use Rattle.pf_model.specs.Curve.{IsCurve, point_at}
use Rattle.pf_graph.specs.WeightedGraph.{WeightedGraph, IsWeightedGraph}
use Rattle.pf_dense.specs.Reduction.{dense_net}
use Rattle.pf_closure.specs.Problem.{ClosureProblem}
use Rattle.pf_closure.specs.Reduction.{closure_net}
use Rattle.pf_layers.specs.Layers.{level_at}
use Rattle.pf_layers.specs.DenseLayers.{IsDenseLayers}
use Rattle.pf_layers.specs.Reading.{IsNumbered, AreFalling, AreRising, IsEnded, outside_cut}
use Rattle.pf_layers.proofs.DenseRead.{level_zero}
use Rattle.pf_layers.proofs.DenseLayered.{layers_with_rest, layers_without_rest}

-- one item more of a list
item_more : (old new : List Fraction) (x : Fraction) (j : ℕ) (f : ℕ → Fraction) → length old ≡ j → new ≡ old ++ x ∷ [] → ((k : ℕ) → k < j → level_at old k ≡ f k) →
    x ≡ f j → (k : ℕ) → k < suc j → level_at new k ≡ f k
item_more old new x j f full step before here k low = elim (cases_lt k j) [
  | inl less ↦ ap (λ l. level_at l k) step ∙ get_or_append_left old (x ∷ []) level_zero k (omega (arith, less, full)) ∙ before k less
  | inr most ↦
      let e : j ≡ k = omega (arith, low, most) in
      ap (λ l. level_at l k) step ∙ get_or_push old x level_zero k (full ∙ e) ∙ here ∙ ap f e
]

more_full : (old new : List Fraction) (x : Fraction) (j : ℕ) → length old ≡ j → new ≡ old ++ x ∷ [] → length new ≡ suc j
more_full old new x j full step = ap length step ∙ length_push old x ∙ ap (λ n. n + 1) full ∙ add-one j

pub more_shape : (old new : List Fraction) (x : Fraction) → All IsFractionShape old → new ≡ old ++ x ∷ [] → IsFractionShape x → All IsFractionShape new
more_shape old new x shape step here =
    let P : List Fraction → Type 0 = λ xs. All IsFractionShape xs in
    subst P (sym step) (All-push IsFractionShape old x shape here)

-- the first levels of a graph
pub record AreFallingTo (g : WeightedGraph) (points : List Fraction) (cuts : ℕ) (levels : List Fraction) (j : ℕ) : Type 0 where
  pub count : suc (length levels) ≡ j
  pub each : (i : ℕ) → i < length levels → level_at levels i ≡ point_at (dense_net g) points (cuts - suc i)
  pub shape : All IsFractionShape levels

pub falling_more : (g : WeightedGraph) (points shown : List Fraction) (cuts : ℕ) (old new : List Fraction) (j i : ℕ) (x : Fraction) → AreFallingTo g points cuts old j → shown ≡ points →
    i < length shown → i ≡ cuts - j → x ≡ get_or shown i x → new ≡ old ++ x ∷ [] → IsFractionShape x → AreFallingTo g points cuts new (suc j)
falling_more g points shown cuts old new j i x a same low place is step shape =
    let n = length old in
    let count = a.count in
    let here : x ≡ point_at (dense_net g) points (cuts - suc n) =
    is ∙ get_or_default shown i x (dense_net g).low low ∙ ap (λ (l : List Fraction). point_at (dense_net g) l i) same
    ∙ ap (point_at (dense_net g) points) (place ∙ ap (λ k. cuts - k) (sym count)) in
    let full = more_full old new x n refl step in
    record {
      count = ap suc full ∙ ap suc count;
      each = λ k less.
          item_more old new x n (λ k. point_at (dense_net g) points (cuts - suc k)) refl step a.each here k (omega (arith, less, full));
      shape = more_shape old new x a.shape step shape;
    }

pub rising_more : (p : ClosureProblem) (points shown old new : List Fraction) (j : ℕ) (x : Fraction) → AreRising p points old j → shown ≡ points →
    j + 1 < length shown → x ≡ get_or shown (j + 1) x → new ≡ old ++ x ∷ [] → AreRising p points new (suc j)
rising_more p points shown old new j x a same low is step =
    let here : x ≡ point_at (closure_net p) points (suc j) =
    is ∙ get_or_default shown (j + 1) x (closure_net p).low low ∙ ap (λ (l : List Fraction). point_at (closure_net p) l (j + 1)) same
    ∙ ap (point_at (closure_net p) points) (add-one j) in
    record {
      full = more_full old new x j a.full step;
      each = item_more old new x j (λ k. point_at (closure_net p) points (suc k)) a.full step a.each here;
    }

-- the whole answer for a graph
pub dense_finished : (g : WeightedGraph) (points : List Fraction) (cuts : List (List Bool)) (inner levels : List Fraction) (layers : List ℤ) → IsWeightedGraph g →
    IsCurve (dense_net g) points cuts → IsNumbered g.nodes (outside_cut g cuts) layers (length cuts) → suc (length inner) ≡ length cuts → AreFalling g points cuts inner →
    IsEnded layers (length cuts) inner levels → IsDenseLayers g levels layers
dense_finished g points cuts inner levels layers graph c m count f ended = elim ended [
  | inl taken ↦
      subst (λ l. IsDenseLayers g l layers) (sym taken.1) (layers_without_rest g points cuts inner layers graph c m f taken.0 count)
  | inr left ↦
      let same = left.1 in
      let full = more_full inner levels level_zero (length inner) refl same in
      layers_with_rest g points cuts levels layers graph c m
      (record { each = λ j low. ap (λ l. level_at l j) same ∙ get_or_append_left inner (level_zero ∷ []) level_zero j (omega (arith, low, count)) ∙ f.each j low })
      left.0 (full ∙ count)
      (λ j last. ap (λ l. level_at l j) same ∙ get_or_push inner level_zero level_zero j (omega (arith, last, count)))
]

pub falling_begins : (g : WeightedGraph) (points : List Fraction) (cuts : ℕ) (levels : List Fraction) → levels ≡ [] → AreFallingTo g points cuts levels 1
falling_begins g points cuts levels none = record {
  count = ap (λ (l : List Fraction). suc (length l)) none;
  each = λ i low. absurd (omega (arith, low, ap (λ (l : List Fraction). length l) none));
  shape = let P : List Fraction → Type 0 = λ xs. All IsFractionShape xs in subst P (sym none) (λ k d low. absurd (omega (arith, low)));
}

pub falling_ends : (g : WeightedGraph) (points : List Fraction) (cuts : List (List Bool)) (levels : List Fraction) (j : ℕ) → AreFallingTo g points (length cuts) levels j → j ≡ length cuts →
    AreFalling g points cuts levels
falling_ends g points cuts levels j a end =
    let count = a.count in
    record { each = λ i low. a.each i (omega (arith, low, end, count)) }
