-- The lines of a principal partition's text, one after the other.
use Rattle.std.proofs.Common.{◌≡◌, ℕ, ◌+◌, ◌≤◌, List, [], ◌∷◌, ◌++◌, length, refl, append_assoc, arith, ap, sym, ◌∙◌}
use Rattle.std.specs.Prelude.{ℤ, codes, map}
use Rattle.std.specs.List.{join_with_byte}
use Rattle.std.specs.Fmt.{decimal}
use Rattle.std.proofs.lemmas.List.{length-append}
use Rattle.pf_text.specs.Spelling.{line, head, row_line}
use Rattle.pf_graph.specs.WeightedGraph.{WeightedGraph}
use Rattle.pf_principal.specs.Text.{step_text, level_line, part_line, steps_text, levels_text, levels_rows}
use Rattle.pf_principal.specs.Reading.{parts_text}
use Rattle.pf_principal.specs.declared.steps.Step.{Step}
use Rattle.pf_principal.specs.declared.text.Parts.{Parts}
use Rattle.pf_principal.proofs.Shapes.{parts_with}

-- what stands after the tables, after the steps, after the first partition, and after the count
abbrev pub last_lines : List ℕ → List ℕ
last_lines rest = codes "end\n" ++ rest

abbrev pub table_lines : WeightedGraph → List (List ℤ) → List (List ℤ) → List ℕ → List ℕ
table_lines g vectors splits rest = levels_text 0 (levels_rows g.nodes vectors splits) ++ last_lines rest

abbrev pub step_lines : WeightedGraph → List Step → List (List ℤ) → List (List ℤ) → List ℕ → List ℕ
step_lines g steps vectors splits rest = steps_text 0 steps ++ table_lines g vectors splits rest

abbrev pub first_lines : WeightedGraph → List ℕ → List Step → List (List ℤ) → List (List ℤ) → List ℕ → List ℕ
first_lines g first steps vectors splits rest = part_line 0 first ++ step_lines g steps vectors splits rest

abbrev pub count_lines : WeightedGraph → Parts → List ℕ → List ℕ
count_lines g parts rest = row_line (codes "k") (length parts.steps ∷ []) [] ++ first_lines g parts.first parts.steps parts.vectors parts.splits rest

six : (a b c d e f rest : List ℕ) → (a ++ b ++ c ++ d ++ e ++ f) ++ rest ≡ a ++ (b ++ (c ++ (d ++ (e ++ (f ++ rest)))))
six a b c d e f rest = simp append_assoc

pub all_lines : (g : WeightedGraph) (parts : Parts) (rest : List ℕ) → parts_text g parts ++ rest ≡ codes "o partition\n" ++ count_lines g parts rest
all_lines g parts rest =
    six (codes "o partition\n") (row_line (codes "k") (length parts.steps ∷ []) []) (part_line 0 parts.first) (steps_text 0 parts.steps)
    (levels_text 0 (levels_rows g.nodes parts.vectors parts.splits)) (codes "end\n") rest

-- what was taken piece by piece
pub parts_taken : (g : WeightedGraph) (old a b c d e new : List ℕ) (count : ℕ) (first : List ℕ) (steps : List Step) (vectors splits : List (List ℤ)) →
    old ≡ codes "o partition\n" ++ a → a ≡ row_line (codes "k") (count ∷ []) [] ++ b → b ≡ part_line 0 first ++ c → c ≡ steps_text 0 steps ++ d →
    d ≡ levels_text 0 (levels_rows g.nodes vectors splits) ++ e → e ≡ codes "end\n" ++ new → length steps ≡ count → old ≡ parts_text g (parts_with first steps vectors splits) ++ new
parts_taken g old a b c d e new count first steps vectors splits one two three four five six' same =
    let h : d ≡ table_lines g vectors splits new = five ∙ ap (λ (t : List ℕ). levels_text 0 (levels_rows g.nodes vectors splits) ++ t) six' in
    let i : c ≡ step_lines g steps vectors splits new = four ∙ ap (λ (t : List ℕ). steps_text 0 steps ++ t) h in
    let j : b ≡ first_lines g first steps vectors splits new = three ∙ ap (λ (t : List ℕ). part_line 0 first ++ t) i in
    let k : a ≡ count_lines g (parts_with first steps vectors splits) new =
    two ∙ ap (λ (t : List ℕ). row_line (codes "k") (count ∷ []) [] ++ t) j
    ∙ ap (λ (n : ℕ). row_line (codes "k") (n ∷ []) [] ++ first_lines g first steps vectors splits new) (sym same) in
    one ∙ ap (λ (t : List ℕ). codes "o partition\n" ++ t) k ∙ sym (all_lines g (parts_with first steps vectors splits) new)

-- ---- as many bytes as levels stand after the line of their number

some_line : (fields : List (List ℕ)) → 1 ≤ length (line fields)
some_line fields = let both = length-append (join_with_byte 32 fields) (10 ∷ []) in omega (arith, both)

steps_long : (j : ℕ) (steps : List Step) → length steps ≤ length (steps_text j steps)
steps_long j [] = omega arith
steps_long j (step ∷ steps) =
    let later = steps_long (j + 1) steps in
    let both = length-append (step_text (j + 1) step) (steps_text (j + 1) steps) in
    let here = length-append (level_line (j + 1) step.level) (part_line (j + 1) step.partition) in
    let some = some_line (head (codes "s") ((j + 1) ∷ []) ++ map decimal step.partition) in
    omega (arith, later, both, here, some)

pub steps_behind : (g : WeightedGraph) (first : List ℕ) (steps : List Step) (vectors splits : List (List ℤ)) (rest : List ℕ) → length steps ≤ length (first_lines g first steps vectors splits rest)
steps_behind g first steps vectors splits rest =
    let long = steps_long 0 steps in
    let a = length-append (part_line 0 first) (step_lines g steps vectors splits rest) in
    let b = length-append (steps_text 0 steps) (table_lines g vectors splits rest) in
    omega (arith, long, a, b)

pub same_parts : (first : List ℕ) (steps : List Step) (vectors splits : List (List ℤ)) (parts : Parts) → first ≡ parts.first → steps ≡ parts.steps → vectors ≡ parts.vectors → splits ≡ parts.splits →
    parts_with first steps vectors splits ≡ parts
same_parts first steps vectors splits parts a b c d = rw (a, b, c, d) refl
