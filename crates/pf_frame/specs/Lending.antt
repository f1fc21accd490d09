-- What a table holds once a row that it lent is given back.
use Rattle.std.specs.Prelude.{ℕ, ℤ, List, [], length, get_or, slice_set}
use Rattle.std.specs.List.{refill}
use Rattle.std.specs.Borrow.{Lends, MutBor, Fml, Array, i128}
use Rattle.pf_frame.specs.contracts.table.FlowTable.{the_row}

-- the row of a table
abbrev pub row_at : List (List ℤ) → ℕ → List ℤ
row_at table i = get_or table i []

-- the table with row i set to what was written, which has the row's length, as a slice keeps it
abbrev pub with_row : List (List ℤ) → ℕ → List ℤ → List (List ℤ)
with_row table i written = slice_set table i (refill (length (row_at table i)) (row_at table i) written)

-- the table ends with row i set to what is left behind the reference
abbrev pub LendsRow : MutBor (List (List ℤ)) → ℕ → MutBor (List ℤ) → Fml
LendsRow table i row = Lends the_row (Array i128 0) table row (with_row table.now i)
