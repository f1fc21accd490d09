-- Layers: the best set, the best of what it leaves, and so on, whatever is best.
use Rattle.std.specs.Prelude.{◌≡◌, ℕ, suc, ◌<◌, ℤ, ◌≤ℤ◌, pos, int_lt, Bool, true, false, List, length, map, slice_index_or}
use Rattle.std.specs.Ordering.{int_eq}
use Rattle.pf_model.specs.Fraction.{Fraction, IsParameter}
use Rattle.pf_model.specs.Cut.{has, at_arc}

-- Beside each element stands the number of its layer, from 1 on. The elements of the layers before layer j, and those of layer j.
abbrev pub before : List ℤ → ℕ → List Bool
before layers j = map (λ number. int_lt number (pos j)) layers

abbrev pub layer : List ℤ → ℕ → List Bool
layer layers j = map (λ number. int_eq number (pos j)) layers

-- the level of layer j + 1
abbrev pub level_at : List Fraction → ℕ → Fraction
level_at levels j = slice_index_or levels j (record { p = pos 0; q = pos 1 })

-- no element of the set is a taken one
pub record IsApart (taken set : List Bool) : Type 0 where
  pub outside : (v : ℕ) → has set v ≡ true → has taken v ≡ false

-- Each of n elements is in one of the layers, of which there is one for each level. Each layer is, at its level, the next one where those
-- before it are taken.
pub record AreLayers (n : ℕ) (IsNext : List Bool → Fraction → List Bool → Type 0) (levels : List Fraction) (layers : List ℤ) : Type 0 where
  pub some : 0 < length levels
  pub full : length layers ≡ n
  pub low : (v : ℕ) → v < n → pos 1 ≤ℤ at_arc layers v
  pub high : (v : ℕ) → v < n → at_arc layers v ≤ℤ pos (length levels)
  pub parameters : (j : ℕ) → j < length levels → IsParameter (level_at levels j)
  pub next : (j : ℕ) → j < length levels → IsNext (before layers (suc j)) (level_at levels j) (layer layers (suc j))
