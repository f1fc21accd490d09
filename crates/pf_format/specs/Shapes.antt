-- Shapes of what formats spell.
use Rattle.std.specs.Prelude.{◌≡◌, ℕ, ℤ, List, length, All}
use Rattle.pf_lines.specs.Taking.{IsFlowRow}

-- so many rows of so many numbers
pub record AreFlowRows (count width : ℕ) (rows : List (List ℤ)) : Type 0 where
  pub full : length rows ≡ count
  pub each : All (IsFlowRow width) rows
