-- The parts of an answer's text are of the right shape, and make up the answer.
use Rattle.std.proofs.Common.{◌≡◌, ℕ, ◌*◌, ◌<◌, ◌^◌, List, [], ◌∷◌, ◌++◌, length, drop, refl, sym, ap, ◌∙◌, arith, subst}
use Rattle.std.specs.Prelude.{ℤ, ◌-ℤ◌, pos, codes, All}
use Rattle.std.proofs.lemmas.Int.{ints}
use Rattle.std.proofs.lemmas.List.{length-drop, length-map, get_or_default}
use Rattle.std.proofs.lemmas.List.Elements.{All-head, All-tail, All-nil, All-cons, All-drop}
use Rattle.pf_model.specs.Fraction.{Fraction}
use Rattle.pf_model.specs.Answer.{IsFractionShape, IsWithinSize}
use Rattle.pf_rat.proofs.Products.{product_abs}
use Rattle.pf_frame.specs.Numbers.{IsSized}
use Rattle.pf_text.specs.Spelling.{row_line}
use Rattle.pf_graph.specs.WeightedGraph.{WeightedGraph, digraph_of}
use Rattle.pf_graph.specs.Labels.{parts, IsPartition}
use Rattle.pf_graph.specs.Limits.{IsWithinLimits}
use Rattle.pf_graph.specs.Best.{crossing_of, partition_value, partition_at}
use Rattle.pf_graph.proofs.Counting.{parts_most}
use Rattle.pf_forest.proofs.Bounds.{crossing_small}
use Rattle.pf_principal.specs.Principal.{PrincipalAnswer, FitsGraph, IsPrincipalShape}
use Rattle.pf_principal.specs.Text.{part_line, steps_text, step_of, steps_of, levels_text, levels_rows, principal_text}
use Rattle.pf_principal.specs.Reading.{IsStepShape, HaveValues, IsRowsShape, AreTables, IsPartsShape, parts_text}
use Rattle.pf_principal.specs.declared.steps.Step.{Step}
use Rattle.pf_principal.specs.declared.text.Parts.{Parts}
use Rattle.pf_principal.proofs.Filled.{answer_of}
use Rattle.pf_principal.proofs.StepLemmas.{ats_of, partitions_of, steps_from_values, values_of_steps, ats_of_steps, partitions_of_steps, length_steps}
use Rattle.pf_principal.proofs.RowLemmas.{vectors_of, splits_of, rows_shaped, vectors_again, splits_again}

-- ---- steps

-- the value of a partition fits
value_size : (g : WeightedGraph) (labels : List ℕ) (x : Fraction) → IsWithinLimits g → IsPartition g.nodes labels → IsFractionShape x → IsWithinSize (2 ^ 120) (partition_value g labels x)
value_size g labels x limits partition shape =
    let small = crossing_small g labels limits in
    let low = small.low in
    let high = small.high in
    let most = parts_most labels in
    let full = partition.full in
    let few = limits.nodes in
    let parameter = shape.bounds.parameter in
    let q_high = shape.bounds.q_high in
    let p_low = shape.bounds.p_low in
    let p_high = shape.bounds.p_high in
    let a = product_abs (crossing_of g labels) x.q 5000000000 (2 ^ 46) (omega (arith, ints, low, high)) (omega (arith, ints, parameter, q_high)) in
    let b = product_abs (pos 1 -ℤ pos (parts labels)) x.p 500 (2 ^ 73) (omega (arith, ints, most, full, few)) (omega (arith, ints, p_low, p_high)) in
    record { low = omega (arith, ints, a, b); high = omega (arith, ints, a, b) }

steps_are : (g : WeightedGraph) (before : List ℕ) (levels : List Fraction) (partitions : List (List ℕ)) → IsWithinLimits g → IsPartition g.nodes before → All IsFractionShape levels →
    All (IsPartition g.nodes) partitions → All (IsStepShape g.nodes) (steps_of g before levels partitions)
steps_are g before [] partitions limits first levels_are partitions_are = All-nil (IsStepShape g.nodes)
steps_are g before (x ∷ levels) [] limits first levels_are partitions_are = All-nil (IsStepShape g.nodes)
steps_are g before (x ∷ levels) (labels ∷ partitions) limits first levels_are partitions_are =
    let here = All-head IsFractionShape x levels levels_are in
    let part = All-head (IsPartition g.nodes) labels partitions partitions_are in
    All-cons (IsStepShape g.nodes) (step_of g before x labels) (steps_of g labels levels partitions)
    (record { level = record { at = here; value = value_size g before x limits first here }; partition = part })
    (steps_are g labels levels partitions limits part (All-tail IsFractionShape x levels levels_are) (All-tail (IsPartition g.nodes) labels partitions partitions_are))

all_partitions : (g : WeightedGraph) (a : PrincipalAnswer) → FitsGraph g a → All (IsPartition g.nodes) a.partitions
all_partitions g a fits = λ i d low.
    let count = fits.count in
    subst (IsPartition g.nodes) (get_or_default a.partitions i [] d low) (fits.partition i (omega (arith, low, count)))

-- the partitions after the first
abbrev pub later_partitions : PrincipalAnswer → List (List ℕ)
later_partitions a = drop 1 a.partitions

pub steps_shaped : (g : WeightedGraph) (a : PrincipalAnswer) → IsWithinLimits g → IsPrincipalShape g a →
    All (IsStepShape g.nodes) (steps_of g (partition_at a.partitions 0) a.levels (later_partitions a))
steps_shaped g a limits shape =
    steps_are g (partition_at a.partitions 0) a.levels (later_partitions a) limits (shape.fits.partition 0 (omega arith)) shape.levels
    (All-drop (IsPartition g.nodes) 1 a.partitions (all_partitions g a shape.fits))

pub as_many : (g : WeightedGraph) (a : PrincipalAnswer) → FitsGraph g a → length a.levels ≡ length (later_partitions a)
as_many g a fits = let count = fits.count in let less = length-drop 1 a.partitions in omega (arith, count, less)

first_and_later : (partitions : List (List ℕ)) → 0 < length partitions → partitions ≡ partition_at partitions 0 ∷ drop 1 partitions
first_and_later [] some = absurd (omega (arith, some))
first_and_later (x ∷ partitions) some = refl

-- ---- tables

pub tables_of_fits : (g : WeightedGraph) (a : PrincipalAnswer) → FitsGraph g a → AreTables g (length a.levels) a.vectors a.splits
tables_of_fits g a fits = record {
  vector_rows = fits.vector_rows;
  vectors_sized = λ i d low. subst (IsSized (digraph_of g)) (get_or_default a.vectors i [] d low) (fits.vectors i (let rows = fits.vector_rows in omega (arith, low, rows)));
  split_rows = fits.split_rows;
  splits_sized = λ i d low. subst (IsSized (digraph_of g)) (get_or_default a.splits i [] d low) (fits.splits i low);
}

pub rows_shaped_of : (g : WeightedGraph) (a : PrincipalAnswer) → FitsGraph g a → All (IsRowsShape g) (levels_rows g.nodes a.vectors a.splits)
rows_shaped_of g a fits =
    let P : ℕ → Type 0 = λ k. AreTables g k a.vectors a.splits in
    rows_shaped g a.vectors a.splits (subst P (sym fits.vector_rows) (tables_of_fits g a fits))

-- ---- answers, from their parts

same_fields : (levels levels' : List Fraction) (partitions partitions' : List (List ℕ)) (vectors vectors' splits splits' : List (List ℤ)) → levels ≡ levels' → partitions ≡ partitions' →
    vectors ≡ vectors' → splits ≡ splits' → answer_of levels partitions vectors splits ≡ answer_of levels' partitions' vectors' splits'
same_fields levels levels' partitions partitions' vectors vectors' splits splits' e f h k = cc

pub answer_again : (g : WeightedGraph) (a b : PrincipalAnswer) → FitsGraph g a → FitsGraph g b → partition_at a.partitions 0 ≡ partition_at b.partitions 0 →
    ats_of (steps_of g (partition_at a.partitions 0) a.levels (later_partitions a)) ≡ ats_of (steps_of g (partition_at b.partitions 0) b.levels (later_partitions b)) →
    partitions_of (steps_of g (partition_at a.partitions 0) a.levels (later_partitions a)) ≡ partitions_of (steps_of g (partition_at b.partitions 0) b.levels (later_partitions b)) →
    levels_rows g.nodes a.vectors a.splits ≡ levels_rows g.nodes b.vectors b.splits → a ≡ b
answer_again g a b fits fits' first ats later rows =
    let one = partition_at a.partitions 0 in
    let two = partition_at b.partitions 0 in
    let many = as_many g a fits in
    let many' = as_many g b fits' in
    let levels = sym (ats_of_steps g one a.levels (later_partitions a) many) ∙ ats ∙ ats_of_steps g two b.levels (later_partitions b) many' in
    let behind = sym (partitions_of_steps g one a.levels (later_partitions a) many) ∙ later ∙ partitions_of_steps g two b.levels (later_partitions b) many' in
    let count = fits.count in
    let count' = fits'.count in
    let partitions = first_and_later a.partitions (omega (arith, count)) ∙ ap (λ (x : List ℕ). x ∷ later_partitions a) first ∙ ap (λ (xs : List (List ℕ)). two ∷ xs) behind
    ∙ sym (first_and_later b.partitions (omega (arith, count'))) in
    let vectors = sym (vectors_again g.nodes a.vectors a.splits) ∙ ap vectors_of rows ∙ vectors_again g.nodes b.vectors b.splits in
    let counted : (c : PrincipalAnswer) → FitsGraph g c → length c.splits ≡ length c.vectors * g.nodes = λ c f. f.split_rows ∙ ap (λ k. k * g.nodes) (sym f.vector_rows) in
    let splits = sym (splits_again g.nodes a.vectors a.splits (counted a fits)) ∙ ap splits_of rows ∙ splits_again g.nodes b.vectors b.splits (counted b fits') in
    same_fields a.levels b.levels a.partitions b.partitions a.vectors b.vectors a.splits b.splits levels partitions vectors splits

-- ---- what is read

abbrev pub parts_with : List ℕ → List Step → List (List ℤ) → List (List ℤ) → Parts
parts_with first steps vectors splits = record { first = first; steps = steps; vectors = vectors; splits = splits }

-- the parts of an answer
abbrev pub parts_of : WeightedGraph → PrincipalAnswer → Parts
parts_of g a = parts_with (partition_at a.partitions 0) (steps_of g (partition_at a.partitions 0) a.levels (later_partitions a)) a.vectors a.splits

pub parts_shape : (g : WeightedGraph) (a : PrincipalAnswer) → IsWithinLimits g → IsPrincipalShape g a → IsPartsShape g (parts_of g a)
parts_shape g a limits shape =
    let count = length_steps g (partition_at a.partitions 0) a.levels (later_partitions a) (as_many g a shape.fits) in
    let P : ℕ → Type 0 = λ k. AreTables g k a.vectors a.splits in
    record {
      first = shape.fits.partition 0 (omega arith);
      steps = steps_shaped g a limits shape;
      tables = subst P (sym count) (tables_of_fits g a shape.fits);
    }

pub text_of_parts : (g : WeightedGraph) (a : PrincipalAnswer) → FitsGraph g a → parts_text g (parts_of g a) ≡ principal_text g a
unfolding principal_text
text_of_parts g a fits =
    let first = partition_at a.partitions 0 in
    let steps = steps_of g first a.levels (later_partitions a) in
    let count = length_steps g first a.levels (later_partitions a) (as_many g a fits) in
    ap (λ (k : ℕ). codes "o partition\n" ++ row_line (codes "k") (k ∷ []) [] ++ part_line 0 first ++ steps_text 0 steps ++ levels_text 0 (levels_rows g.nodes a.vectors a.splits) ++ codes "end\n") count

-- the answer of parts whose values are right
abbrev pub answer_of_parts : Parts → PrincipalAnswer
answer_of_parts parts = answer_of (ats_of parts.steps) (parts.first ∷ partitions_of parts.steps) parts.vectors parts.splits

all_ats : (n : ℕ) (steps : List Step) → All (IsStepShape n) steps → All IsFractionShape (ats_of steps)
all_ats n [] each = All-nil IsFractionShape
all_ats n (step ∷ steps) each =
    All-cons IsFractionShape step.level.at (ats_of steps) (All-head (IsStepShape n) step steps each).level.at (all_ats n steps (All-tail (IsStepShape n) step steps each))

partition_each : (n : ℕ) (steps : List Step) → All (IsStepShape n) steps → All (IsPartition n) (partitions_of steps)
partition_each n [] each = All-nil (IsPartition n)
partition_each n (step ∷ steps) each =
    All-cons (IsPartition n) step.partition (partitions_of steps) (All-head (IsStepShape n) step steps each).partition (partition_each n steps (All-tail (IsStepShape n) step steps each))

pub answer_shape : (g : WeightedGraph) (parts : Parts) → IsPartsShape g parts → IsPrincipalShape g (answer_of_parts parts)
answer_shape g parts s =
    let steps = parts.steps in
    let ats = length-map steps (λ (x : Step). x.level.at) in
    let labels = length-map steps (λ (x : Step). x.partition) in
    let all = All-cons (IsPartition g.nodes) parts.first (partitions_of steps) s.first (partition_each g.nodes steps s.steps) in
    record {
      levels = all_ats g.nodes steps s.steps;
      fits = record {
        count = omega (arith, ats, labels);
        partition = λ j low. all j [] (omega (arith, low, ats, labels));
        vector_rows = s.tables.vector_rows ∙ sym ats;
        vectors = λ j low. let rows = s.tables.vector_rows in s.tables.vectors_sized j [] (omega (arith, low, rows, ats));
        split_rows = s.tables.split_rows ∙ ap (λ k. k * g.nodes) (sym ats);
        splits = λ k low. s.tables.splits_sized k [] low;
      };
    }

pub text_of_answer : (g : WeightedGraph) (parts : Parts) → HaveValues g parts.first parts.steps → parts_text g parts ≡ principal_text g (answer_of_parts parts)
unfolding principal_text
text_of_answer g parts h =
    let steps = parts.steps in
    let ats = length-map steps (λ (x : Step). x.level.at) in
    ap (λ (k : ℕ). codes "o partition\n" ++ row_line (codes "k") (k ∷ []) [] ++ part_line 0 parts.first ++ steps_text 0 steps ++ levels_text 0 (levels_rows g.nodes parts.vectors parts.splits) ++ codes "end\n")
    (sym ats)
    ∙ ap (λ (s : List Step). codes "o partition\n" ++ row_line (codes "k") (length (ats_of steps) ∷ []) [] ++ part_line 0 parts.first ++ steps_text 0 s ++ levels_text 0 (levels_rows g.nodes parts.vectors parts.splits) ++ codes "end\n")
    (sym (steps_from_values g parts.first steps h))

-- the values of the parts of an answer are right
pub values_are : (g : WeightedGraph) (a : PrincipalAnswer) (parts : Parts) → parts ≡ parts_of g a → HaveValues g parts.first parts.steps
values_are g a parts e = rw e (values_of_steps g (partition_at a.partitions 0) a.levels (later_partitions a))

-- the answer that is made of what was read
pub read_answer : (parts : Parts) (levels : List Fraction) (partitions : List (List ℕ)) (a : PrincipalAnswer) → a ≡ answer_of levels partitions parts.vectors parts.splits →
    levels ≡ ats_of parts.steps → partitions ≡ parts.first ∷ partitions_of parts.steps → a ≡ answer_of_parts parts
read_answer parts levels partitions a e f h =
    e ∙ ap (λ (xs : List Fraction). answer_of xs partitions parts.vectors parts.splits) f
    ∙ ap (λ (ps : List (List ℕ)). answer_of (ats_of parts.steps) ps parts.vectors parts.splits) h
