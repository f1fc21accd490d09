-- Charges, as rows of so many numbers.
use Rattle.std.proofs.Common.{◌≡◌, ℕ, List, length, sym, ◌∙◌}
use Rattle.std.specs.Prelude.{ℤ, All}
use Rattle.pf_lines.specs.Taking.{IsFlowRow}
use Rattle.pf_select.specs.Problem.{SelectionProblem}
use Rattle.pf_select.specs.Right.{IsChargesShape}

pub rows_of_shape : (p : SelectionProblem) (width : ℕ) (rows : List (List ℤ)) → width ≡ length p.needs → All (IsChargesShape p) rows → All (IsFlowRow width) rows
rows_of_shape p width rows e each = λ i d low. let s = each i d low in record { full = s.full ∙ sym e; each = s.each }

pub shape_of_rows : (p : SelectionProblem) (width : ℕ) (rows : List (List ℤ)) → width ≡ length p.needs → All (IsFlowRow width) rows → All (IsChargesShape p) rows
shape_of_rows p width rows e each = λ i d low. let s = each i d low in record { full = s.full ∙ e; each = s.each }
