-- The rows of a table, as it is made and as one is written.
use Rattle.std.proofs.Common.{◌≡◌, ℕ, ◌+◌, ◌<◌, List, [], ◌∷◌, ◌++◌, length, get_or, set, take, drop, map, replicate, ap, sym, ◌∙◌, arith}
use Rattle.std.specs.Prelude.{ℤ, pos, Vec}
use Rattle.std.specs.List.{refill}
use Rattle.std.specs.Vec.{with_items}
use Rattle.std.specs.declared.alloc.Global.{Global}
use Rattle.std.proofs.lemmas.List.{map-set, map-append, get_or-map, replicate-append-replicate, length-map}
use Rattle.pf_frame.specs.Lending.{row_at, with_row}

abbrev pub rows_of : List (Vec ℤ Global) → List (List ℤ)
rows_of rows = map (λ row. row.items) rows

pub rows_more : (rows rows' : List (Vec ℤ Global)) (row : Vec ℤ Global) (n width : ℕ) → rows_of rows ≡ replicate n (replicate width (pos 0)) →
    rows' ≡ rows ++ row ∷ [] → row.items ≡ replicate width (pos 0) → rows_of rows' ≡ replicate (n + 1) (replicate width (pos 0))
rows_more rows rows' row n width before added zeros =
    ap rows_of added ∙ map-append (λ (r : Vec ℤ Global). r.items) rows (row ∷ []) ∙ ap (λ rs. rs ++ row.items ∷ []) before
    ∙ ap (λ r. replicate n (replicate width (pos 0)) ++ r ∷ []) zeros ∙ replicate-append-replicate n 1 (replicate width (pos 0))

-- a row that was lent is what stands in the table
pub row_is : (rows : List (Vec ℤ Global)) (table : List (List ℤ)) (i : ℕ) (row : Vec ℤ Global) → rows_of rows ≡ table → row ≡ get_or rows i row → i < length table →
    row.items ≡ row_at table i
row_is rows table i row view here low =
    let there : i < length rows = omega (arith, low, ap length view, length-map rows (λ (r : Vec ℤ Global). r.items)) in
    ap (λ (r : Vec ℤ Global). r.items) here ∙ sym (get_or-map (λ (r : Vec ℤ Global). r.items) rows i row [] there) ∙ ap (λ t. row_at t i) view

pub row_written : (rows : List (Vec ℤ Global)) (table : List (List ℤ)) (i : ℕ) (row : Vec ℤ Global) (w : List ℤ) → rows_of rows ≡ table → row ≡ get_or rows i row → i < length table →
    rows_of (set rows i (with_items row w)) ≡ with_row table i w
row_written rows table i row w view here low =
    let e = row_is rows table i row view here low in
    let count : row.len ≡ length row.items = row.ok.0 in
    map-set (λ (r : Vec ℤ Global). r.items) rows i (with_items row w) ∙ ap (λ t. set t i (take row.len (w ++ drop (length w) row.items))) view
    ∙ ap (λ n. set table i (refill n row.items w)) count ∙ ap (λ r. set table i (refill (length r) r w)) e
