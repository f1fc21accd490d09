-- Answers of the right shape with equal texts are equal.
use Rattle.std.proofs.Common.{◌≡◌, ℕ, ◌+◌, ◌≤◌, List, [], ◌∷◌, ◌++◌, length, get_or, drop, refl, sym, ap, ◌∙◌, append_assoc, arith, true, subst}
use Rattle.std.specs.Prelude.{◌↔◌, ℤ, Bool, codes}
use Rattle.std.proofs.lemmas.List.{append_cancel_left}
use Rattle.std.proofs.lemmas.List.Elements.{recursion_from_All}
use Rattle.pf_frame.specs.Numbers.{IsSized}
use Rattle.pf_text.specs.Spelling.{line, row_line}
use Rattle.pf_format.specs.Format.{HasOneReading}
use Rattle.pf_format.specs.LineLaws.{flow_row_one, label_row_one}
use Rattle.pf_format.proofs.ItemLaws.{valued_row_one, count_left, counted_one, items_one}
use Rattle.pf_graph.specs.WeightedGraph.{WeightedGraph, digraph_of}
use Rattle.pf_graph.specs.Labels.{IsPartition}
use Rattle.pf_graph.specs.Limits.{IsWithinLimits}
use Rattle.pf_graph.specs.Best.{partition_at}
use Rattle.pf_graph.proofs.LineLabels.{labels_of_partition}
use Rattle.pf_strength.proofs.TextLemmas.{row_of_sized}
use Rattle.pf_principal.specs.Principal.{PrincipalAnswer, IsPrincipalShape, CertifiesPrincipal}
use Rattle.pf_principal.specs.Text.{LevelRows, level_line, part_line, step_text, steps_text, steps_of, vector_line, splits_text, level_text, levels_text, levels_rows, principal_text}
use Rattle.pf_principal.specs.Reading.{IsStepShape, IsRowsShape}
use Rattle.pf_principal.specs.Right.{IsRightPrincipal, IsCertifiedPrincipal}
use Rattle.pf_principal.proofs.Certificate.{certificate_is_principal}
use Rattle.pf_principal.proofs.StepLemmas.{step_items, same_step, ats_of, partitions_of}
use Rattle.pf_principal.proofs.RowLemmas.{split_items, level_items}
use Rattle.pf_principal.proofs.Shapes.{steps_shaped, rows_shaped_of, answer_again}

-- ---- lines

part_one : (n j : ℕ) → n ≤ 500 → HasOneReading (part_line j) (IsPartition n)
part_one n j few x y rest later a b e =
    label_row_one (codes "s") (j ∷ []) n n (omega (arith, few)) x y rest later (labels_of_partition n x a) (labels_of_partition n y b) e

row_one : (g : WeightedGraph) (word indices : List ℕ) → HasOneReading (row_line word indices) (IsSized (digraph_of g))
row_one g word indices x y rest later a b e =
    let width = length g.ends in
    flow_row_one word indices width x y rest later (row_of_sized g x width refl a) (row_of_sized g y width refl b) e

-- ---- steps and levels

step_one : (n j : ℕ) → n ≤ 500 → HasOneReading (step_text j) (IsStepShape n)
step_one n j few x y rest later a b e =
    let s = valued_row_one (codes "b") (j ∷ []) x.level y.level (part_line j x.partition ++ rest) (part_line j y.partition ++ later) a.level b.level
    (sym (append_assoc (level_line j x.level) (part_line j x.partition) rest) ∙ e ∙ append_assoc (level_line j y.level) (part_line j y.partition) later) in
    let t = part_one n j few x.partition y.partition rest later a.partition b.partition s.left in
    record { value = same_step x.level x.partition y s.value t.value; left = t.left }

abbrev rows_with : List ℤ → List (List ℤ) → LevelRows
rows_with vector splits = record { vector = vector; splits = splits }

same_rows : (vector vector' : List ℤ) (splits splits' : List (List ℤ)) → vector ≡ vector' → splits ≡ splits' → rows_with vector splits ≡ rows_with vector' splits'
same_rows vector vector' splits splits' e f = cc

level_one : (g : WeightedGraph) (j : ℕ) → HasOneReading (level_text j) (IsRowsShape g)
level_one g j x y rest later a b e =
    let s = row_one g (codes "y") (j ∷ []) x.vector y.vector (splits_text j 0 x.splits ++ rest) (splits_text j 0 y.splits ++ later) a.vector b.vector
    (sym (append_assoc (vector_line j x.vector) (splits_text j 0 x.splits) rest) ∙ e ∙ append_assoc (vector_line j y.vector) (splits_text j 0 y.splits) later) in
    let sized = IsSized (digraph_of g) in
    let t = counted_one (split_items g j) (λ r. row_one g (codes "r") (j ∷ ((r + 1) ∷ []))) 0 x.splits y.splits rest later (a.count ∙ sym b.count)
    (recursion_from_All sized x.splits a.splits) (recursion_from_All sized y.splits b.splits) s.left in
    record { value = same_rows x.vector y.vector x.splits y.splits s.value t.value; left = t.left }

-- ---- whole texts

abbrev end : List ℕ
end = line (codes "end" ∷ [])

not_step : (rows : List LevelRows) → get_or (levels_text 0 rows ++ end) 0 0 ≡ 98 → ⊥
not_step [] e = omega (arith, e)
not_step (x ∷ rows) e = omega (arith, e)

-- the text from the number of levels on
abbrev later_text : WeightedGraph → PrincipalAnswer → List ℕ
later_text g a =
    row_line (codes "k") (length a.levels ∷ []) [] ++ (part_line 0 (partition_at a.partitions 0)
    ++ (steps_text 0 (steps_of g (partition_at a.partitions 0) a.levels (drop 1 a.partitions)) ++ (levels_text 0 (levels_rows g.nodes a.vectors a.splits) ++ end)))

six : (a b c d e f : List ℕ) → a ++ b ++ c ++ d ++ e ++ f ≡ a ++ (b ++ (c ++ (d ++ (e ++ f))))
six a b c d e f = simp append_assoc

text_is : (g : WeightedGraph) (a : PrincipalAnswer) → principal_text g a ≡ line (codes "o" ∷ codes "partition" ∷ []) ++ later_text g a
unfolding principal_text
text_is g a =
    six (line (codes "o" ∷ codes "partition" ∷ [])) (row_line (codes "k") (length a.levels ∷ []) []) (part_line 0 (partition_at a.partitions 0))
    (steps_text 0 (steps_of g (partition_at a.partitions 0) a.levels (drop 1 a.partitions))) (levels_text 0 (levels_rows g.nodes a.vectors a.splits)) end

pub one_answer : (g : WeightedGraph) (a b : PrincipalAnswer) → IsWithinLimits g → IsPrincipalShape g a → IsPrincipalShape g b → principal_text g a ≡ principal_text g b → a ≡ b
one_answer g a b limits sa sb e =
    let first = partition_at a.partitions 0 in
    let first' = partition_at b.partitions 0 in
    let steps = steps_of g first a.levels (drop 1 a.partitions) in
    let steps' = steps_of g first' b.levels (drop 1 b.partitions) in
    let rows = levels_rows g.nodes a.vectors a.splits in
    let rows' = levels_rows g.nodes b.vectors b.splits in
    let lines = append_cancel_left (line (codes "o" ∷ codes "partition" ∷ [])) (later_text g a) (later_text g b) (sym (text_is g a) ∙ e ∙ text_is g b) in
    let counted = count_left (codes "k") (length a.levels) (length b.levels) (part_line 0 first ++ (steps_text 0 steps ++ (levels_text 0 rows ++ end)))
    (part_line 0 first' ++ (steps_text 0 steps' ++ (levels_text 0 rows' ++ end))) lines in
    let labels = part_one g.nodes 0 limits.nodes first first' (steps_text 0 steps ++ (levels_text 0 rows ++ end)) (steps_text 0 steps' ++ (levels_text 0 rows' ++ end))
    (sa.fits.partition 0 (omega arith)) (sb.fits.partition 0 (omega arith)) counted in
    let both = items_one (step_items g.nodes) 98 (record { one = λ j. step_one g.nodes (j + 1) limits.nodes; front = λ j x rest. refl }) 0 steps steps' (levels_text 0 rows ++ end) (levels_text 0 rows' ++ end)
    (recursion_from_All (IsStepShape g.nodes) steps (steps_shaped g a limits sa)) (recursion_from_All (IsStepShape g.nodes) steps' (steps_shaped g b limits sb))
    (not_step rows) (not_step rows') labels.left in
    let same = items_one (level_items g) 121 (record { one = λ j. level_one g (j + 1); front = λ j x rest. refl }) 0 rows rows' end end
    (recursion_from_All (IsRowsShape g) rows (rows_shaped_of g a sa.fits)) (recursion_from_All (IsRowsShape g) rows' (rows_shaped_of g b sb.fits))
    (λ byte. omega (arith, byte)) (λ byte. omega (arith, byte)) both.left in
    answer_again g a b sa.fits sb.fits labels.value (ap ats_of both.value) (ap partitions_of both.value) same.value

-- ---- certified texts

-- the text is that of an answer of the right shape: it is certified where that answer is
pub certified_text : (g : WeightedGraph) (text : List ℕ) (answer : PrincipalAnswer) (holds : Bool) → IsWithinLimits g → IsPrincipalShape g answer → text ≡ principal_text g answer
    → ((holds ≡ true) ↔ CertifiesPrincipal g answer) → (holds ≡ true) ↔ IsCertifiedPrincipal g text
certified_text g text answer holds limits shape text_is exact = (
  λ told. record { answer = answer; shape = shape; certificate = exact.0 told; text_is = text_is },
  λ c. exact.1 (subst (CertifiesPrincipal g) (one_answer g c.answer answer limits c.shape shape (sym c.text_is ∙ text_is)) c.certificate),
)

pub certified_is_right : (g : WeightedGraph) (text : List ℕ) → IsWithinLimits g → IsCertifiedPrincipal g text ↔ IsRightPrincipal g text
certified_is_right g text limits = (
  λ c. record {
    answer = c.answer;
    shape = c.shape;
    principal = certificate_is_principal g c.answer limits.graph c.shape.fits c.certificate;
    certificate = c.certificate;
    text_is = c.text_is;
  },
  λ r. record { answer = r.answer; shape = r.shape; certificate = r.certificate; text_is = r.text_is },
)
