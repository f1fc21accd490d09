-- Vectors and splits, taken from a text level by level.
use Rattle.std.proofs.Common.{◌≡◌, ℕ, zero, suc, ◌+◌, ◌*◌, ◌<◌, List, [], ◌∷◌, ◌++◌, length, get_or, drop, take, add-one, refl, append_assoc, arith, ap, sym, ◌∙◌, subst}
use Rattle.std.specs.Prelude.{ℤ, All}
use Rattle.std.proofs.lemmas.List.{append-nil, length-append, length-take, length-drop, take-append-drop}
use Rattle.std.proofs.lemmas.List.Elements.{All-head, All-tail, All-nil, All-cons, All-append, All-take, All-drop}
use Rattle.std.proofs.Math.Nat.{add-mul, one-mul}
use Rattle.pf_frame.specs.Numbers.{IsSized}
use Rattle.pf_lines.proofs.ItemsTaken.{Items, Stand, HasTaken, items_begin, item_taken, items_end}
use Rattle.pf_graph.specs.WeightedGraph.{WeightedGraph, digraph_of}
use Rattle.pf_principal.specs.Text.{LevelRows, split_line, splits_text, level_text, levels_text, levels_rows}
use Rattle.pf_principal.specs.Reading.{IsRowsShape, TakesLevel, AreTables}

-- ---- the splits of a level

abbrev pub split_items : WeightedGraph → ℕ → Items (List ℤ)
split_items g j = record {
  text = λ r rows. splits_text j r rows;
  item = λ r row. split_line j r row;
  none = λ r. refl;
  more = λ r row rows. refl;
  Is = IsSized (digraph_of g);
  MayFollow = λ rest. Unit {0};
  follows = λ r row rest. tt;
}

pub splits_stand : (g : WeightedGraph) (j count : ℕ) (old : List ℕ) (rows : List (List ℤ)) (rest : List ℕ) → length rows ≡ count → All (IsSized (digraph_of g)) rows →
    old ≡ splits_text j 0 rows ++ rest → Stand (split_items g j) count old rows rest
splits_stand g j count old rows rest full each there = record { full = full; each = each; behind = tt; text = there }

-- the rows that were added to a table, and how they were taken
pub record HasAdded (g : WeightedGraph) (j count : ℕ) (table table_now : List (List ℤ)) (text text_now : List ℕ) (r : ℕ) : Type 0 where
  pub rows : List (List ℤ)
  pub table_is : table_now ≡ table ++ rows
  pub has : HasTaken (split_items g j) count text text_now r rows

pub added_begins : (g : WeightedGraph) (j count : ℕ) (table : List (List ℤ)) (text : List ℕ) → HasAdded g j count table table text text 0
added_begins g j count table text = record { rows = []; table_is = sym (append-nil table); has = items_begin (split_items g j) count text }

pub added_more : (g : WeightedGraph) (j count : ℕ) (table now new : List (List ℤ)) (text mid behind : List ℕ) (r : ℕ) (row : List ℤ) → HasAdded g j count table now text mid r → r < count →
    new ≡ now ++ row ∷ [] → mid ≡ split_line j r row ++ behind → IsSized (digraph_of g) row →
    ((y : List ℤ) (rest : List ℕ) → IsSized (digraph_of g) y → mid ≡ split_line j r y ++ rest → (row ≡ y) × (behind ≡ rest)) → HasAdded g j count table new text behind (r + 1)
added_more g j count table now new text mid behind r row h low push taken sized found = record {
  rows = h.rows ++ row ∷ [];
  table_is = push ∙ ap (λ (t : List (List ℤ)). t ++ row ∷ []) h.table_is ∙ append_assoc table h.rows (row ∷ []);
  has = item_taken (split_items g j) count text mid behind r h.rows row h.has low taken sized (λ y rest is follow e. found y rest is e);
}

-- ---- vectors and splits as rows of levels

-- the vectors of levels, and all their splits
abbrev pub vectors_of : List LevelRows → List (List ℤ)
vectors_of [] = []
vectors_of (rows ∷ later) = rows.vector ∷ vectors_of later

abbrev pub splits_of : List LevelRows → List (List ℤ)
splits_of [] = []
splits_of (rows ∷ later) = rows.splits ++ splits_of later

take_of_append : (n : ℕ) (a b : List (List ℤ)) → length a ≡ n → take n (a ++ b) ≡ a
take_of_append zero [] b e = refl
take_of_append zero (x ∷ a) b e = absurd (omega (arith, e))
take_of_append (suc n) [] b e = absurd (omega (arith, e))
take_of_append (suc n) (x ∷ a) b e = ap (λ (t : List (List ℤ)). x ∷ t) (take_of_append n a b (omega (arith, e)))

drop_of_append : (n : ℕ) (a b : List (List ℤ)) → length a ≡ n → drop n (a ++ b) ≡ b
drop_of_append zero [] b e = refl
drop_of_append zero (x ∷ a) b e = absurd (omega (arith, e))
drop_of_append (suc n) [] b e = absurd (omega (arith, e))
drop_of_append (suc n) (x ∷ a) b e = drop_of_append n a b (omega (arith, e))

abbrev rows_with : List ℤ → List (List ℤ) → LevelRows
rows_with vector splits = record { vector = vector; splits = splits }

same_rows : (rows : LevelRows) (splits : List (List ℤ)) (later others : List LevelRows) → splits ≡ rows.splits → later ≡ others → rows_with rows.vector splits ∷ later ≡ rows ∷ others
same_rows rows splits later others e f = ap (λ (s : List (List ℤ)). rows_with rows.vector s ∷ later) e ∙ ap (λ (l : List LevelRows). rows ∷ l) f

-- the rows of levels, put together and taken apart again
pub rows_again : (g : WeightedGraph) (got : List LevelRows) → All (IsRowsShape g) got → levels_rows g.nodes (vectors_of got) (splits_of got) ≡ got
rows_again g [] each = refl
rows_again g (rows ∷ later) each =
    let here = All-head (IsRowsShape g) rows later each in
    let back = rows_again g later (All-tail (IsRowsShape g) rows later each) in
    let front = take_of_append g.nodes rows.splits (splits_of later) here.count in
    let behind = drop_of_append g.nodes rows.splits (splits_of later) here.count in
    same_rows rows (take g.nodes (rows.splits ++ splits_of later)) (levels_rows g.nodes (vectors_of later) (drop g.nodes (rows.splits ++ splits_of later))) later front
    (ap (levels_rows g.nodes (vectors_of later)) behind ∙ back)

pub vectors_again : (n : ℕ) (vectors splits : List (List ℤ)) → vectors_of (levels_rows n vectors splits) ≡ vectors
vectors_again n [] splits = refl
vectors_again n (vector ∷ vectors) splits = ap (λ (t : List (List ℤ)). vector ∷ t) (vectors_again n vectors (drop n splits))

count_behind : (n k : ℕ) (vectors splits : List (List ℤ)) → length splits ≡ (k + 1) * n → length (drop n splits) ≡ k * n
count_behind n k vectors splits e =
    let less = length-drop n splits in
    let more = add-mul k 1 n in
    let one = one-mul n in
    omega (arith, e, less, more, one)

none_left : (splits : List (List ℤ)) → length splits ≡ 0 → splits ≡ []
none_left [] e = refl
none_left (x ∷ splits) e = absurd (omega (arith, e))

pub splits_again : (n : ℕ) (vectors splits : List (List ℤ)) → length splits ≡ length vectors * n → splits_of (levels_rows n vectors splits) ≡ splits
splits_again n [] splits e = sym (none_left splits (e ∙ omega arith))
splits_again n (vector ∷ vectors) splits e =
    let behind = count_behind n (length vectors) vectors splits (e ∙ ap (λ k. k * n) (sym (add-one (length vectors)))) in
    ap (λ (t : List (List ℤ)). take n splits ++ t) (splits_again n vectors (drop n splits) behind) ∙ take-append-drop n splits

-- ---- so many levels

abbrev pub level_items : WeightedGraph → Items LevelRows
level_items g = record {
  text = λ j rows. levels_text j rows;
  item = λ j rows. level_text (j + 1) rows;
  none = λ j. refl;
  more = λ j rows later. refl;
  Is = IsRowsShape g;
  MayFollow = λ rest. Unit {0};
  follows = λ j rows rest. tt;
}

-- the tables of the levels that were taken
pub record HasLevels (g : WeightedGraph) (count : ℕ) (vectors splits : List (List ℤ)) (text text_now : List ℕ) (j : ℕ) : Type 0 where
  pub got : List LevelRows
  pub vectors_are : vectors ≡ vectors_of got
  pub splits_are : splits ≡ splits_of got
  pub has : HasTaken (level_items g) count text text_now j got

pub levels_begin : (g : WeightedGraph) (count : ℕ) (vectors splits : List (List ℤ)) (text : List ℕ) → vectors ≡ [] → splits ≡ [] → HasLevels g count vectors splits text text 0
levels_begin g count vectors splits text e f = record { got = []; vectors_are = e; splits_are = f; has = items_begin (level_items g) count text }

vectors_push : (got : List LevelRows) (rows : LevelRows) → vectors_of (got ++ rows ∷ []) ≡ vectors_of got ++ rows.vector ∷ []
vectors_push [] rows = refl
vectors_push (x ∷ got) rows = ap (λ (t : List (List ℤ)). x.vector ∷ t) (vectors_push got rows)

splits_push : (got : List LevelRows) (rows : LevelRows) → splits_of (got ++ rows ∷ []) ≡ splits_of got ++ rows.splits
splits_push [] rows = append-nil rows.splits
splits_push (x ∷ got) rows = ap (λ (t : List (List ℤ)). x.splits ++ t) (splits_push got rows) ∙ sym (append_assoc x.splits (splits_of got) rows.splits)

-- what a call that takes a level has to say of the rows of any level that stands there
abbrev pub FindsLevel : WeightedGraph → ℕ → List (List ℤ) → List (List ℤ) → List (List ℤ) → List (List ℤ) → List ℕ → List ℕ → Type 0
FindsLevel g j vectors vectors_now splits splits_now text text_now = (rows : LevelRows) (rest : List ℕ) → IsRowsShape g rows → text ≡ level_text j rows ++ rest →
    (vectors_now ≡ vectors ++ rows.vector ∷ []) × (splits_now ≡ splits ++ rows.splits) × (text_now ≡ rest)

same_behind : (a b c : List (List ℤ)) → a ++ b ≡ a ++ c → b ≡ c
same_behind [] b c e = e
same_behind (x ∷ a) b c e = same_behind a b c (ap (drop 1) e)

same_last : (a : List (List ℤ)) (x y : List ℤ) → a ++ x ∷ [] ≡ a ++ y ∷ [] → x ≡ y
same_last a x y e = ap (λ (t : List (List ℤ)). get_or t 0 []) (same_behind a (x ∷ []) (y ∷ []) e)

rows_equal : (rows other : LevelRows) → rows.vector ≡ other.vector → rows.splits ≡ other.splits → rows ≡ other
rows_equal rows other e f = ap (λ (v : List ℤ). rows_with v rows.splits) e ∙ ap (λ (s : List (List ℤ)). rows_with other.vector s) f

pub levels_more : (g : WeightedGraph) (count : ℕ) (vectors vectors_now splits splits_now : List (List ℤ)) (text mid now : List ℕ) (j : ℕ) → HasLevels g count vectors splits text mid j → j < count →
    TakesLevel g (j + 1) vectors vectors_now splits splits_now mid now → FindsLevel g (j + 1) vectors vectors_now splits splits_now mid now →
    HasLevels g count vectors_now splits_now text now (j + 1)
levels_more g count vectors vectors_now splits splits_now text mid now j h low t found = record {
  got = h.got ++ t.rows ∷ [];
  vectors_are = t.vectors_are ∙ ap (λ (v : List (List ℤ)). v ++ t.rows.vector ∷ []) h.vectors_are ∙ sym (vectors_push h.got t.rows);
  splits_are = t.splits_are ∙ ap (λ (s : List (List ℤ)). s ++ t.rows.splits) h.splits_are ∙ sym (splits_push h.got t.rows);
  has = item_taken (level_items g) count text mid now j h.got t.rows h.has low t.text_is t.shape
      (λ y rest is follow e.
      let f = found y rest is e in
      (rows_equal t.rows y (same_last vectors t.rows.vector y.vector (sym t.vectors_are ∙ f.0)) (same_behind splits t.rows.splits y.splits (sym t.splits_are ∙ f.1)), f.2));
}

-- ---- the tables of so many levels

length_vectors : (got : List LevelRows) → length (vectors_of got) ≡ length got
length_vectors [] = refl
length_vectors (x ∷ got) = ap suc (length_vectors got)

length_splits : (g : WeightedGraph) (got : List LevelRows) → All (IsRowsShape g) got → length (splits_of got) ≡ length got * g.nodes
length_splits g [] each = omega arith
length_splits g (x ∷ got) each =
    let here = (All-head (IsRowsShape g) x got each).count in
    let later = length_splits g got (All-tail (IsRowsShape g) x got each) in
    let both = length-append x.splits (splits_of got) in
    let more = add-mul (length got) 1 g.nodes in
    let one = one-mul g.nodes in
    let next = ap (λ k. k * g.nodes) (add-one (length got)) in
    omega (arith, here, later, both, more, one, next)

vectors_sized : (g : WeightedGraph) (got : List LevelRows) → All (IsRowsShape g) got → All (IsSized (digraph_of g)) (vectors_of got)
vectors_sized g [] each = All-nil (IsSized (digraph_of g))
vectors_sized g (x ∷ got) each =
    All-cons (IsSized (digraph_of g)) x.vector (vectors_of got) (All-head (IsRowsShape g) x got each).vector (vectors_sized g got (All-tail (IsRowsShape g) x got each))

splits_sized : (g : WeightedGraph) (got : List LevelRows) → All (IsRowsShape g) got → All (IsSized (digraph_of g)) (splits_of got)
splits_sized g [] each = All-nil (IsSized (digraph_of g))
splits_sized g (x ∷ got) each =
    All-append (IsSized (digraph_of g)) x.splits (splits_of got) (All-head (IsRowsShape g) x got each).splits (splits_sized g got (All-tail (IsRowsShape g) x got each))

tables_of : (g : WeightedGraph) (count : ℕ) (got : List LevelRows) → length got ≡ count → All (IsRowsShape g) got → AreTables g count (vectors_of got) (splits_of got)
tables_of g count got full each = record {
  vector_rows = length_vectors got ∙ full;
  vectors_sized = vectors_sized g got each;
  split_rows = length_splits g got each ∙ ap (λ k. k * g.nodes) full;
  splits_sized = splits_sized g got each;
}

-- the rows of tables are of the right shape
pub rows_shaped : (g : WeightedGraph) (vectors splits : List (List ℤ)) → AreTables g (length vectors) vectors splits → All (IsRowsShape g) (levels_rows g.nodes vectors splits)
rows_shaped g [] splits t = All-nil (IsRowsShape g)
rows_shaped g (vector ∷ vectors) splits t =
    let n = g.nodes in
    let rows = t.split_rows in
    let next = ap (λ k. k * n) (sym (add-one (length vectors))) in
    let more = add-mul (length vectors) 1 n in
    let one = one-mul n in
    let front = length-take n splits in
    All-cons (IsRowsShape g) (rows_with vector (take n splits)) (levels_rows n vectors (drop n splits))
    (record {
      vector = All-head (IsSized (digraph_of g)) vector vectors t.vectors_sized;
      count = omega (arith, front, rows, next, more, one);
      splits = All-take (IsSized (digraph_of g)) n splits t.splits_sized;
    })
    (rows_shaped g vectors (drop n splits) (record {
      vector_rows = refl;
      vectors_sized = All-tail (IsSized (digraph_of g)) vector vectors t.vectors_sized;
      split_rows = count_behind n (length vectors) vectors splits (rows ∙ next);
      splits_sized = All-drop (IsSized (digraph_of g)) n splits t.splits_sized;
    }))

length_rows : (n : ℕ) (vectors splits : List (List ℤ)) → length (levels_rows n vectors splits) ≡ length vectors
length_rows n [] splits = refl
length_rows n (vector ∷ vectors) splits = ap suc (length_rows n vectors (drop n splits))

pub levels_stand : (g : WeightedGraph) (count : ℕ) (old : List ℕ) (vectors splits : List (List ℤ)) (rest : List ℕ) → AreTables g count vectors splits →
    old ≡ levels_text 0 (levels_rows g.nodes vectors splits) ++ rest → Stand (level_items g) count old (levels_rows g.nodes vectors splits) rest
levels_stand g count old vectors splits rest t there =
    let P : ℕ → Type 0 = λ k. AreTables g k vectors splits in
    record {
      full = length_rows g.nodes vectors splits ∙ t.vector_rows;
      each = rows_shaped g vectors splits (subst P (sym t.vector_rows) t);
      behind = tt;
      text = there;
    }

pub levels_taken : (g : WeightedGraph) (count : ℕ) (vectors splits : List (List ℤ)) (text now : List ℕ) (j : ℕ) → HasLevels g count vectors splits text now j →
    text ≡ levels_text 0 (levels_rows g.nodes vectors splits) ++ now
levels_taken g count vectors splits text now j h =
    h.has.taken ∙ ap (λ (l : List LevelRows). levels_text 0 l ++ now)
    (sym (ap (λ (v : List (List ℤ)). levels_rows g.nodes v splits) h.vectors_are ∙ ap (levels_rows g.nodes (vectors_of h.got)) h.splits_are ∙ rows_again g h.got h.has.each))

pub levels_shape : (g : WeightedGraph) (count : ℕ) (vectors splits : List (List ℤ)) (text now : List ℕ) (j : ℕ) → HasLevels g count vectors splits text now j → j ≡ count →
    AreTables g count vectors splits
levels_shape g count vectors splits text now j h all =
    let P : List (List ℤ) → Type 0 = λ v. AreTables g count v splits in
    let Q : List (List ℤ) → Type 0 = λ s. AreTables g count (vectors_of h.got) s in
    subst P (sym h.vectors_are) (subst Q (sym h.splits_are) (tables_of g count h.got (h.has.number ∙ all) h.has.each))

pub levels_end : (g : WeightedGraph) (count : ℕ) (vectors splits : List (List ℤ)) (text now : List ℕ) (j : ℕ) → HasLevels g count vectors splits text now j → j ≡ count →
    (vectors' splits' : List (List ℤ)) (rest : List ℕ) → AreTables g count vectors' splits' → text ≡ levels_text 0 (levels_rows g.nodes vectors' splits') ++ rest →
    (vectors ≡ vectors') × (splits ≡ splits') × (now ≡ rest)
levels_end g count vectors splits text now j h all vectors' splits' rest t there =
    let f = items_end (level_items g) count text now j h.got h.has all (levels_rows g.nodes vectors' splits') rest (levels_stand g count text vectors' splits' rest t there) in
    let rows : length splits' ≡ length vectors' * g.nodes = t.split_rows ∙ ap (λ k. k * g.nodes) (sym t.vector_rows) in (
      h.vectors_are ∙ ap vectors_of f.0 ∙ vectors_again g.nodes vectors' splits',
      h.splits_are ∙ ap splits_of f.0 ∙ splits_again g.nodes vectors' splits' rows,
      f.1,
    )
