-- The lines of levels, partitions, vectors and splits, printed one after another.
use Rattle.std.proofs.Common.{◌≡◌, ℕ, ◌+◌, ◌*◌, ◌<◌, ◌≤◌, List, [], ◌∷◌, ◌++◌, length, get_or, drop, take, add-one, arith, ap, sym, ◌∙◌}
use Rattle.std.specs.Prelude.{ℤ}
use Rattle.std.proofs.lemmas.List.{drop_all, drop-drop, length-take, length-drop, get_or-take, get_or-drop}
use Rattle.std.proofs.Math.Nat.{add-mul, one-mul, zero-mul}
use Rattle.std.proofs.Math.Seq.{drop-cons}
use Rattle.pf_model.specs.Fraction.{Fraction}
use Rattle.pf_frame.specs.Lending.{row_at}
use Rattle.pf_graph.specs.WeightedGraph.{WeightedGraph}
use Rattle.pf_graph.specs.Best.{partition_at}
use Rattle.pf_principal.specs.Text.{LevelRows, step_text, step_of, steps_text, steps_of, split_line, splits_text, level_text, levels_text, levels_rows}

-- what is left to print after the first j levels
abbrev pub steps_left : WeightedGraph → List Fraction → List (List ℕ) → ℕ → List ℕ
steps_left g levels partitions j = steps_text j (steps_of g (partition_at partitions j) (drop j levels) (drop (j + 1) partitions))

-- the next level, and those after it
pub steps_text_at : (g : WeightedGraph) (levels : List Fraction) (partitions : List (List ℕ)) (j : ℕ) (x : Fraction) → j < length levels → length partitions ≡ length levels + 1 →
    steps_left g levels partitions j ≡ step_text (j + 1) (step_of g (partition_at partitions j) (get_or levels j x) (partition_at partitions (j + 1))) ++ steps_left g levels partitions (j + 1)
steps_text_at g levels partitions j x low count =
    let before = partition_at partitions j in
    let next : drop j levels ≡ get_or levels j x ∷ drop (j + 1) levels = rw add-one (drop-cons levels j x low) in
    let behind : drop (j + 1) partitions ≡ partition_at partitions (j + 1) ∷ drop (j + 1 + 1) partitions = drop-cons partitions (j + 1) [] (omega (arith, low, count))
    ∙ ap (λ k. partition_at partitions (j + 1) ∷ drop k partitions) (sym (add-one (j + 1))) in
    ap (λ (ls : List Fraction). steps_text j (steps_of g before ls (drop (j + 1) partitions))) next
    ∙ ap (λ (ps : List (List ℕ)). steps_text j (steps_of g before (get_or levels j x ∷ drop (j + 1) levels) ps)) behind

pub steps_none : (g : WeightedGraph) (levels : List Fraction) (partitions : List (List ℕ)) (j : ℕ) → length levels ≤ j → steps_left g levels partitions j ≡ []
steps_none g levels partitions j all =
    ap (λ (ls : List Fraction). steps_text j (steps_of g (partition_at partitions j) ls (drop (j + 1) partitions))) (drop_all j levels all)

-- the next split of a level
pub split_at : (j r : ℕ) (rows : List (List ℤ)) → r < length rows → splits_text j r (drop r rows) ≡ split_line j r (row_at rows r) ++ splits_text j (r + 1) (drop (r + 1) rows)
split_at j r rows low =
    let next : drop r rows ≡ get_or rows r [] ∷ drop (r + 1) rows = rw add-one (drop-cons rows r [] low) in
    ap (splits_text j r) next

-- what is left of the vectors and the splits after those of the first j levels
abbrev pub levels_left : ℕ → List (List ℤ) → List (List ℤ) → ℕ → List ℕ
levels_left n vectors splits j = levels_text j (levels_rows n (drop j vectors) (drop (j * n) splits))

abbrev rows_with : List ℤ → List (List ℤ) → LevelRows
rows_with vector splits = record { vector = vector; splits = splits }

pub levels_text_at : (n : ℕ) (vectors splits : List (List ℤ)) (j : ℕ) → j < length vectors →
    levels_left n vectors splits j ≡ level_text (j + 1) (rows_with (row_at vectors j) (take n (drop (j * n) splits))) ++ levels_left n vectors splits (j + 1)
levels_text_at n vectors splits j low =
    let next : drop j vectors ≡ get_or vectors j [] ∷ drop (j + 1) vectors = rw add-one (drop-cons vectors j [] low) in
    let more : (j + 1) * n ≡ j * n + n = let e = add-mul j 1 n in let one = one-mul n in omega (arith, e, one) in
    let behind : drop n (drop (j * n) splits) ≡ drop ((j + 1) * n) splits = drop-drop n (j * n) splits ∙ ap (λ k. drop k splits) (sym more) in
    ap (λ (v : List (List ℤ)). levels_text j (levels_rows n v (drop (j * n) splits))) next
    ∙ ap (λ (s : List (List ℤ)). level_text (j + 1) (rows_with (row_at vectors j) (take n (drop (j * n) splits))) ++ levels_text (j + 1) (levels_rows n (drop (j + 1) vectors) s)) behind

-- at first nothing is left out
pub levels_start : (n : ℕ) (vectors splits : List (List ℤ)) → levels_left n vectors splits 0 ≡ levels_text 0 (levels_rows n vectors splits)
levels_start n vectors splits = ap (λ k. levels_text 0 (levels_rows n vectors (drop k splits))) (zero-mul n)

pub levels_none : (n : ℕ) (vectors splits : List (List ℤ)) (j : ℕ) → length vectors ≤ j → levels_left n vectors splits j ≡ []
levels_none n vectors splits j all = ap (λ (v : List (List ℤ)). levels_text j (levels_rows n v (drop (j * n) splits))) (drop_all j vectors all)

-- so many rows, from a row on
pub length_part : (first count : ℕ) (rows : List (List ℤ)) → first + count ≤ length rows → length (take count (drop first rows)) ≡ count
length_part first count rows most = let front = length-take count (drop first rows) in let behind = length-drop first rows in omega (arith, front, behind, most)

pub row_of_part : (first count : ℕ) (rows : List (List ℤ)) (r : ℕ) → r < count → row_at (take count (drop first rows)) r ≡ row_at rows (first + r)
row_of_part first count rows r low = get_or-take count (drop first rows) r [] low ∙ get_or-drop first rows r []
