-- Rows of numbers of a size below 2^104, taken from the front of a text one line after the other.
use Rattle.std.proofs.Common.{◌≡◌, ℕ, ◌+◌, ◌^◌, List, [], ◌∷◌, ◌++◌, length, get_or, Result, Ok, Err, refl, ap, ◌∙◌, arith}
use Rattle.std.specs.Prelude.{ℤ, pos, negsuc, All, IfOk}
use Rattle.std.proofs.lemmas.Int.{ints}
use Rattle.pf_model.specs.Answer.{IsWithinSize}
use Rattle.pf_text.specs.Spelling.{row_line, table_text}
use Rattle.pf_lines.specs.declared.errors.AnswerBad.{AnswerBad}
use Rattle.pf_lines.specs.Taking.{IsBetween, IsRow, IsFlowRow}
use Rattle.pf_lines.proofs.ItemsTaken.{Items, Stand}

-- ---- the bounds of a number

between : (n : ℤ) → IsWithinSize (2 ^ 104) n → IsBetween (negsuc 20282409603651670423947251286014) (pos 20282409603651670423947251286015) n
between n size = let low = size.low in let high = size.high in record { low = omega (arith, ints, low); high = omega (arith, ints, high) }

within : (n : ℤ) → IsBetween (negsuc 20282409603651670423947251286014) (pos 20282409603651670423947251286015) n → IsWithinSize (2 ^ 104) n
within n bounds = let low = bounds.low in let high = bounds.high in record { low = omega (arith, ints, low); high = omega (arith, ints, high) }

pub row_of_flow : (width : ℕ) (flow : List ℤ) → IsFlowRow width flow → IsRow width (negsuc 20282409603651670423947251286014) (pos 20282409603651670423947251286015) flow
row_of_flow width flow row = record { full = row.full; each = λ i other low. between (get_or flow i other) (row.each i other low) }

flow_of_row : (width : ℕ) (flow : List ℤ) → IsRow width (negsuc 20282409603651670423947251286014) (pos 20282409603651670423947251286015) flow → IsFlowRow width flow
flow_of_row width flow row = record { full = row.full; each = λ i other low. within (get_or flow i other) (row.each i other low) }

pub flow_of_taken : (width : ℕ) (result : Result (List ℤ) AnswerBad) → IfOk result (IsRow width (negsuc 20282409603651670423947251286014) (pos 20282409603651670423947251286015)) → IfOk result (IsFlowRow width)
flow_of_taken width (Ok flow) row = flow_of_row width flow row
flow_of_taken width (Err bad) row = tt

-- ---- rows, numbered from the first on

pub next_place : (word : List ℕ) (first j : ℕ) (row : List ℤ) (rows : List (List ℤ)) → table_text word (first + j) (row ∷ rows) ≡ row_line word ((first + j) ∷ []) row ++ table_text word (first + (j + 1)) rows
next_place word first j row rows =
    let place : first + j + 1 ≡ first + (j + 1) = omega arith in
    ap (λ (n : ℕ). row_line word ((first + j) ∷ []) row ++ table_text word n rows) place

abbrev pub row_items : List ℕ → ℕ → ℕ → Items (List ℤ)
row_items word first width = record {
  text = λ j rows. table_text word (first + j) rows;
  item = λ j row. row_line word ((first + j) ∷ []) row;
  none = λ j. refl;
  more = λ j row rows. next_place word first j row rows;
  Is = IsFlowRow width;
  MayFollow = λ rest. Unit {0};
  follows = λ j row rest. tt;
}

-- the number of the first row
pub first_place : (word : List ℕ) (first : ℕ) (rows : List (List ℤ)) (rest : List ℕ) → table_text word first rows ++ rest ≡ table_text word (first + 0) rows ++ rest
first_place word first rows rest =
    let place : first ≡ first + 0 = omega arith in
    ap (λ (n : ℕ). table_text word n rows ++ rest) place

pub rows_stand : (word : List ℕ) (first width count : ℕ) (old : List ℕ) (rows : List (List ℤ)) (rest : List ℕ) → length rows ≡ count → All (IsFlowRow width) rows → old ≡ table_text word first rows ++ rest
    → Stand (row_items word first width) count old rows rest
rows_stand word first width count old rows rest full each there = record { full = full; each = each; behind = tt; text = there ∙ first_place word first rows rest }
