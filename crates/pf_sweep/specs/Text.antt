-- The text of the answer to `sweep`, and which texts are right.
use Rattle.std.specs.Prelude.{◌≡◌, ℕ, ◌+◌, ◌-◌, List, [], ◌∷◌, ◌++◌, length, codes}
use Rattle.std.specs.Fmt.{decimal, signed_decimal}
use Rattle.pf_model.specs.Network.{Network}
use Rattle.pf_model.specs.Answer.{Row}
use Rattle.pf_text.specs.Spelling.{line}
use Rattle.pf_sweep.specs.Rows.{AreRows}

-- the number of the row, the parameter, the least value and the least size
abbrev pub row_text : ℕ → Row → List ℕ
row_text j row = line (codes "x" ∷ decimal j ∷ signed_decimal row.at.p ∷ signed_decimal row.at.q ∷ signed_decimal row.value ∷ decimal row.size ∷ [])

-- each row
abbrev pub rows_text : ℕ → List Row → List ℕ
rows_text j [] = []
rows_text j (row ∷ rows) = row_text j row ++ rows_text (j + 1) rows

-- the whole text; there is a row more than steps
unfoldable pub sweep_text : List Row → List ℕ
sweep_text rows =
    line (codes "o" ∷ codes "sweep" ∷ [])
    ++ line (codes "k" ∷ decimal (length rows - 1) ∷ [])
    ++ rows_text 0 rows
    ++ line (codes "end" ∷ [])

-- `sweep`: the text of right rows
pub record IsRightSweep (k : ℕ) (net : Network) (text : List ℕ) : Type 0 where
  pub rows : List Row
  pub right : AreRows net k rows
  pub text_is : text ≡ sweep_text rows
