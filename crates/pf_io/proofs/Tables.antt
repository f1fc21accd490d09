-- The rows of a table, one line after the other.
use Rattle.std.proofs.Common.{◌≡◌, ℕ, ◌+◌, ◌<◌, List, [], ◌∷◌, ◌++◌, length, drop, add-one, ap, ◌∙◌, arith}
use Rattle.std.specs.Prelude.{ℤ}
use Rattle.std.proofs.Math.Seq.{drop-cons}
use Rattle.pf_frame.specs.Lending.{row_at}
use Rattle.pf_text.specs.Spelling.{row_line, table_text}

-- the row at a place, and those after it
pub table_text_at : (word : List ℕ) (first i : ℕ) (rows : List (List ℤ)) → i < length rows
    → table_text word (first + i) (drop i rows) ≡ row_line word ((first + i) ∷ []) (row_at rows i) ++ table_text word (first + (i + 1)) (drop (i + 1) rows)
table_text_at word first i rows low =
    let next : drop i rows ≡ row_at rows i ∷ drop (i + 1) rows = rw add-one (drop-cons rows i [] low) in
    let place : (first + i) + 1 ≡ first + (i + 1) = omega arith in
    ap (table_text word (first + i)) next ∙ ap (λ (n : ℕ). row_line word ((first + i) ∷ []) (row_at rows i) ++ table_text word n (drop (i + 1) rows)) place

pub table_text_from : (word : List ℕ) (first : ℕ) (rows : List (List ℤ)) → table_text word first rows ≡ table_text word (first + 0) rows
table_text_from word first rows = ap (λ (n : ℕ). table_text word n rows) (let e : first ≡ first + 0 = omega arith in e)
