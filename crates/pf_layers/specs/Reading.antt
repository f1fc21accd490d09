-- What is read off a least-cut function.
use Rattle.std.specs.Prelude.{◌≡◌, ℕ, suc, ◌-◌, ◌<◌, ℤ, ◌≤ℤ◌, pos, Bool, true, false, List, [], ◌∷◌, ◌++◌, ◌⊎◌, length}
use Rattle.pf_model.specs.Fraction.{Fraction}
use Rattle.pf_model.specs.Cut.{at_arc}
use Rattle.pf_model.specs.Curve.{point_at, cut_at}
use Rattle.pf_graph.specs.WeightedGraph.{WeightedGraph}
use Rattle.pf_dense.specs.Reduction.{dense_net, outside_of}
use Rattle.pf_closure.specs.Problem.{ClosureProblem}
use Rattle.pf_closure.specs.Reduction.{closure_net, items_of}
use Rattle.pf_layers.specs.Layers.{before, level_at}

-- layers numbered from 1 to a count, such that before layer j + 1 stand the elements of set j
pub record IsNumbered (n : ℕ) (sets : ℕ → List Bool) (layers : List ℤ) (count : ℕ) : Type 0 where
  pub full : length layers ≡ n
  pub low : (v : ℕ) → v < n → pos 1 ≤ℤ at_arc layers v
  pub high : (v : ℕ) → v < n → at_arc layers v ≤ℤ pos count
  pub before_is : (j : ℕ) → j < count → before layers (suc j) ≡ sets j

-- the vertices outside the cuts, from the last cut to the first
abbrev pub outside_cut : WeightedGraph → List (List Bool) → ℕ → List Bool
outside_cut g cuts j = outside_of g (cut_at cuts (length cuts - suc j))

-- the items in the cuts
abbrev pub items_in : ClosureProblem → List (List Bool) → ℕ → List Bool
items_in p cuts j = items_of p (cut_at cuts j)

-- the level of layer j + 1 is a point of the curve: from the last inner one down, or from the first inner one up
pub record AreFalling (g : WeightedGraph) (points : List Fraction) (cuts : List (List Bool)) (levels : List Fraction) : Type 0 where
  pub each : (j : ℕ) → suc j < length cuts → level_at levels j ≡ point_at (dense_net g) points (length cuts - suc j)

pub record AreRising (p : ClosureProblem) (points levels : List Fraction) (count : ℕ) : Type 0 where
  pub full : length levels ≡ count
  pub each : (j : ℕ) → j < count → level_at levels j ≡ point_at (closure_net p) points (suc j)

-- an element has the number
pub record HasNumber (layers : List ℤ) (count : ℕ) : Type 0 where
  pub element : ℕ
  pub there : element < length layers
  pub number : at_arc layers element ≡ pos count

-- the number stands beside the elements that pass a test, and nothing else has changed
pub record IsPut (test : ℕ → Bool) (number : ℤ) (old new : List ℤ) : Type 0 where
  pub full : length new ≡ length old
  pub put : (v : ℕ) → v < length old → test v ≡ true → at_arc new v ≡ number
  pub kept : (v : ℕ) → v < length old → test v ≡ false → at_arc new v ≡ at_arc old v

-- no element has the number and the levels stay; or one has, and the level 0 is added
abbrev pub IsEnded : List ℤ → ℕ → List Fraction → List Fraction → Type 0
IsEnded layers count old new =
    ((HasNumber layers count → ⊥) × (new ≡ old)) ⊎ (HasNumber layers count × (new ≡ old ++ record { p = pos 0; q = pos 1 } ∷ []))
