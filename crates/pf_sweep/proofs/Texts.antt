-- The rows of a text, one at a time.
use Rattle.std.proofs.Common.{◌≡◌, ℕ, ◌+◌, ◌<◌, List, ◌++◌, ◌∷◌, length, get_or, drop, add-one, ap}
use Rattle.std.proofs.Math.Seq.{drop-cons}
use Rattle.pf_model.specs.Answer.{Row}
use Rattle.pf_sweep.specs.Text.{row_text, rows_text}

-- row j and those after it
pub rows_text_at : (j : ℕ) (rows : List Row) (other : Row) → j < length rows → rows_text j (drop j rows) ≡ row_text j (get_or rows j other) ++ rows_text (j + 1) (drop (j + 1) rows)
rows_text_at j rows other low =
    let e : drop j rows ≡ get_or rows j other ∷ drop (j + 1) rows = rw add-one (drop-cons rows j other low) in
    ap (λ (t : List Row). rows_text j t) e
