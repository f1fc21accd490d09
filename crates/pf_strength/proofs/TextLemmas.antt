-- The lines of a strength's text, one after the other, and their shapes.
use Rattle.std.proofs.Common.{◌≡◌, ℕ, ◌<◌, ◌^◌, List, [], ◌∷◌, ◌++◌, length, get_or, refl, append_assoc, arith, sym, subst, ◌∙◌}
use Rattle.std.specs.Prelude.{ℤ, pos, codes, All}
use Rattle.std.proofs.lemmas.List.{get_or_default}
use Rattle.pf_model.specs.Fraction.{Fraction}
use Rattle.pf_model.specs.Answer.{IsWithinSize, IsFractionShape}
use Rattle.pf_frame.specs.Lending.{row_at}
use Rattle.pf_frame.specs.Numbers.{IsSized}
use Rattle.pf_text.specs.Spelling.{line, row_line, fraction_line, label_line, table_text}
use Rattle.pf_lines.specs.Taking.{IsFlowRow}
use Rattle.pf_format.specs.Format.{HasOneReading}
use Rattle.pf_format.specs.Shapes.{AreFlowRows}
use Rattle.pf_format.proofs.Formats.{Spelling, then, marked, ended, fraction_row, flow_row, flow_rows, made_one}
use Rattle.pf_graph.specs.WeightedGraph.{WeightedGraph, digraph_of}
use Rattle.pf_graph.specs.Labels.{parts, IsPartition}
use Rattle.pf_graph.specs.Limits.{IsWithinLimits}
use Rattle.pf_strength.specs.Strength.{StrengthAnswer, FitsGraph, IsStrengthShape, of_fields}
use Rattle.pf_strength.specs.Text.{partition_text, strength_text}
use Rattle.pf_strength.specs.TextLaws.{partition_one}
use Rattle.pf_strength.proofs.PartitionLemmas.{same_count}

-- ---- numbers on edges

pub row_of_sized : (g : WeightedGraph) (numbers : List ℤ) (width : ℕ) → width ≡ length g.ends → IsSized (digraph_of g) numbers → IsFlowRow width numbers
row_of_sized g numbers width e s =
    let full : length numbers ≡ length g.ends = s.full in
    record {
      full = full ∙ sym e;
      each = λ i d low.
          let P : ℤ → Type 0 = λ z. IsWithinSize (2 ^ 104) z in
          let same : get_or numbers i (pos 0) ≡ get_or numbers i d = get_or_default numbers i (pos 0) d low in
          let inside : i < length g.ends = omega (arith, low, full) in
          subst P same (record { low = s.low i inside; high = s.high i inside });
    }

pub sized_of_row : (g : WeightedGraph) (numbers : List ℤ) (width : ℕ) → width ≡ length g.ends → IsFlowRow width numbers → IsSized (digraph_of g) numbers
sized_of_row g numbers width e row =
    let full = row.full in
    let inside : (i : ℕ) → i < length g.ends → i < length numbers = λ i low. omega (arith, low, full, e) in
    record {
      full = full ∙ e;
      low = λ i low. (row.each i (pos 0) (inside i low)).low;
      high = λ i low. (row.each i (pos 0) (inside i low)).high;
    }

-- the same of splits
pub rows_of_sized : (g : WeightedGraph) (rows : List (List ℤ)) (width : ℕ) → width ≡ length g.ends → All (IsSized (digraph_of g)) rows → All (IsFlowRow width) rows
rows_of_sized g rows width e each = λ r d low. row_of_sized g (get_or rows r d) width e (each r d low)

pub sized_of_rows : (g : WeightedGraph) (rows : List (List ℤ)) (width : ℕ) → width ≡ length g.ends → All (IsFlowRow width) rows → All (IsSized (digraph_of g)) rows
sized_of_rows g rows width e each = λ r d low. sized_of_row g (get_or rows r d) width e (each r d low)

-- ---- shapes

-- the rows, for each root and for each row
pub all_rows : (g : WeightedGraph) (answer : StrengthAnswer) → FitsGraph g answer → All (IsSized (digraph_of g)) answer.splits
all_rows g answer fits = λ r d low.
    let rows = fits.rows in
    subst (IsSized (digraph_of g)) (get_or_default answer.splits r [] d low) (fits.splits r (omega (arith, low, rows)))

pub each_row : (g : WeightedGraph) (splits : List (List ℤ)) (count : ℕ) → length splits ≡ count → All (IsSized (digraph_of g)) splits → (r : ℕ) → r < count →
    IsSized (digraph_of g) (row_at splits r)
each_row g splits count full all r low = all r [] (omega (arith, low, full))

-- ---- the whole text

abbrev pub Fields : Type 0
Fields = Fraction × (List ℕ × (List ℤ × List (List ℤ)))

abbrev pub fields_of : StrengthAnswer → Fields
fields_of answer = (answer.level, (answer.parts, (answer.vector, answer.splits)))

-- what the format spells, and what it asks of the fields
abbrev pub spelled : Fields → List ℕ
spelled f =
    line (codes "o" ∷ codes "strength" ∷ []) ++ (fraction_line (codes "d") [] f.0 [] ++ (partition_text f.1.0 ++ (row_line (codes "y") [] f.1.1.0
    ++ (table_text (codes "r") 1 f.1.1.1 ++ line (codes "end" ∷ [])))))

abbrev pub Fits : (nodes edges : ℕ) → Fields → Type 0
Fits nodes edges f = IsFractionShape f.0 × (IsPartition nodes f.1.0 × (IsFlowRow edges f.1.1.0 × AreFlowRows nodes edges f.1.1.1))

seven : (a b c d e f g : List ℕ) → a ++ (b ++ ((c ++ d) ++ (e ++ (f ++ g)))) ≡ a ++ b ++ c ++ d ++ e ++ f ++ g
seven a b c d e f g = simp append_assoc

pub spelled_is : (f : Fields) → spelled f ≡ strength_text (of_fields f)
unfolding strength_text
spelled_is f =
    seven (line (codes "o" ∷ codes "strength" ∷ [])) (fraction_line (codes "d") [] f.0 []) (row_line (codes "k") (parts f.1.0 ∷ []) []) (label_line (codes "s") [] f.1.0)
    (row_line (codes "y") [] f.1.1.0) (table_text (codes "r") 1 f.1.1.1) (line (codes "end" ∷ []))

pub shape_of : (g : WeightedGraph) (nodes edges : ℕ) (f : Fields) → nodes ≡ g.nodes → edges ≡ length g.ends → Fits nodes edges f → IsStrengthShape g (of_fields f)
shape_of g nodes edges f n m fits = record {
  level = fits.0;
  fits = record {
    partition = same_count g.nodes nodes f.1.0 n fits.1.0;
    vector = sized_of_row g f.1.1.0 edges m fits.1.1.0;
    rows = fits.1.1.1.full ∙ n;
    splits = each_row g f.1.1.1 g.nodes (fits.1.1.1.full ∙ n) (sized_of_rows g f.1.1.1 edges m fits.1.1.1.each);
  };
}

pub fits_of : (g : WeightedGraph) (nodes edges : ℕ) (f : Fields) → nodes ≡ g.nodes → edges ≡ length g.ends → IsStrengthShape g (of_fields f) → Fits nodes edges f
fits_of g nodes edges f n m s = (
  s.level,
  (
    same_count nodes g.nodes f.1.0 (sym n) s.fits.partition,
    (
      row_of_sized g f.1.1.0 edges m s.fits.vector,
      record { full = s.fits.rows ∙ sym n; each = rows_of_sized g f.1.1.1 edges m (all_rows g (of_fields f) s.fits) },
    ),
  ),
)

-- in front of a text stands at most one answer
pub one_text : (g : WeightedGraph) → IsWithinLimits g → HasOneReading strength_text (IsStrengthShape g)
one_text g limits =
    let few = limits.nodes in
    let partition : Spelling (List ℕ) = record { text = partition_text; Is = IsPartition g.nodes; one = partition_one g.nodes (omega (arith, few)) } in
    let lines = marked (line (codes "o" ∷ codes "strength" ∷ [])) (then (fraction_row (codes "d")) (then partition (then (flow_row (codes "y") (length g.ends))
    (ended (flow_rows (codes "r") 1 g.nodes (length g.ends)) (line (codes "end" ∷ [])))))) in
    made_one strength_text (IsStrengthShape g) spelled (Fits g.nodes (length g.ends)) of_fields fields_of
    (record { same = spelled_is; shape = λ f. shape_of g g.nodes (length g.ends) f refl refl; back = λ f. fits_of g g.nodes (length g.ends) f refl refl; there = λ a. refl }) lines.one
