-- Answers of the right shape with equal texts are equal.
use Rattle.std.proofs.Common.{◌≡◌, ℕ, ◌+◌, List, [], ◌∷◌, ◌++◌, length, get_or, drop, map, refl, sym, ap, ◌∙◌, append_assoc, arith}
use Rattle.std.specs.Prelude.{◌^◌, ℤ, codes}
use Rattle.std.specs.List.{AllByRecursion}
use Rattle.std.specs.Fmt.{decimal, signed_decimal}
use Rattle.std.proofs.lemmas.List.{append-nil}
use Rattle.std.proofs.lemmas.List.Elements.{recursion_from_All}
use Rattle.pf_model.specs.Fraction.{Fraction}
use Rattle.pf_model.specs.Answer.{IsWithinSize, IsFractionShape}
use Rattle.pf_text.specs.Spelling.{line, row_line}
use Rattle.pf_text.proofs.SameParts.{same_fraction, same_numbers}
use Rattle.pf_text.proofs.TextLines.{ArePlain, lines_text, lines_text-append, same_lines, decimal_plain, signed_plain, numbers_plain}
use Rattle.pf_layers.specs.Answer.{LayersAnswer, IsLayersShape}
use Rattle.pf_layers.specs.Text.{level_line, levels_text, layers_text}

-- ---- the lines of an answer

abbrev Lines : Type 0
Lines = List (List (List ℕ))

abbrev level_fields : ℕ → List Fraction → Lines
level_fields j [] = []
level_fields j (x ∷ levels) = (codes "l" ∷ decimal (j + 1) ∷ signed_decimal x.p ∷ signed_decimal x.q ∷ []) ∷ level_fields (j + 1) levels

-- what stands after the levels
abbrev back_lines : List ℤ → Lines
back_lines layers = (codes "m" ∷ map signed_decimal layers) ∷ (codes "end" ∷ []) ∷ []

abbrev answer_lines : LayersAnswer → Lines
answer_lines answer =
    (codes "o" ∷ codes "layers" ∷ []) ∷ (codes "k" ∷ decimal (length answer.levels) ∷ []) ∷ (level_fields 0 answer.levels ++ back_lines answer.layers)

levels_text_is : (j : ℕ) (levels : List Fraction) → levels_text j levels ≡ lines_text (level_fields j levels)
levels_text_is j [] = refl
levels_text_is j (x ∷ levels) = ap (λ (t : List ℕ). level_line (j + 1) x ++ t) (levels_text_is (j + 1) levels)

five : (a b c d e : List ℕ) → a ++ b ++ c ++ d ++ e ≡ a ++ (b ++ (c ++ (d ++ (e ++ []))))
five a b c d e = simp (append_assoc, append-nil)

text_is : (answer : LayersAnswer) → layers_text answer ≡ lines_text (answer_lines answer)
unfolding layers_text
text_is answer =
    let a = line (codes "o" ∷ codes "layers" ∷ []) in
    let b = row_line (codes "k") (length answer.levels ∷ []) [] in
    five a b (levels_text 0 answer.levels) (row_line (codes "m") [] answer.layers) (line (codes "end" ∷ []))
    ∙ ap (λ (t : List ℕ). a ++ (b ++ t))
    (ap (λ (t : List ℕ). t ++ lines_text (back_lines answer.layers)) (levels_text_is 0 answer.levels)
    ∙ sym (lines_text-append (level_fields 0 answer.levels) (back_lines answer.layers)))

level_fields_plain : (j : ℕ) (levels : List Fraction) (layers : List ℤ) → AllByRecursion ArePlain (level_fields j levels ++ back_lines layers)
level_fields_plain j [] layers = ((record { some = omega arith; all = refl }, numbers_plain layers), ((record { some = omega arith; all = refl }, tt), tt))
level_fields_plain j (x ∷ levels) layers =
    ((record { some = omega arith; all = refl }, (decimal_plain (j + 1), (signed_plain _, (signed_plain _, tt)))), level_fields_plain (j + 1) levels layers)

lines_plain : (answer : LayersAnswer) → AllByRecursion ArePlain (answer_lines answer)
lines_plain answer = (
  (record { some = omega arith; all = refl }, (record { some = omega arith; all = refl }, tt)),
  ((record { some = omega arith; all = refl }, (decimal_plain _, tt)), level_fields_plain 0 answer.levels answer.layers),
)

-- ---- and they can be told apart

abbrev field_at : ℕ → ℕ → Lines → List ℕ
field_at i j lines = get_or (get_or lines i []) j []

-- the first byte of the first line
abbrev mark : Lines → ℕ
mark lines = get_or (field_at 0 0 lines) 0 0

record AreSameParts (levels levels' : List Fraction) (layers layers' : List ℤ) : Type 0 where
  levels_are : levels ≡ levels'
  numbers : map signed_decimal layers ≡ map signed_decimal layers'

same_parts : (j : ℕ) (a b : List Fraction) (layers layers' : List ℤ) → AllByRecursion IsFractionShape a → AllByRecursion IsFractionShape b →
    level_fields j a ++ back_lines layers ≡ level_fields j b ++ back_lines layers' → AreSameParts a b layers layers'
same_parts j [] [] layers layers' sa sb e = record { levels_are = refl; numbers = ap (λ (ls : Lines). drop 1 (get_or ls 0 [])) e }
same_parts j [] (y ∷ b) layers layers' sa sb e = absurd (let byte = ap mark e in omega (arith, byte))
same_parts j (x ∷ a) [] layers layers' sa sb e = absurd (let byte = ap mark e in omega (arith, byte))
same_parts j (x ∷ a) (y ∷ b) layers layers' sa sb e =
    let here = same_fraction x y sa.0 sb.0 (ap (field_at 0 2) e) (ap (field_at 0 3) e) in
    let later = same_parts (j + 1) a b layers layers' sa.1 sb.1 (ap (drop 1) e) in
    record { levels_are = ap (λ (z : Fraction). z ∷ a) here ∙ ap (λ (zs : List Fraction). y ∷ zs) later.levels_are; numbers = later.numbers }

abbrev answer_of : List Fraction → List ℤ → LayersAnswer
answer_of levels layers = record { levels = levels; layers = layers }

same_answer : (levels levels' : List Fraction) (layers layers' : List ℤ) → levels ≡ levels' → layers ≡ layers' → answer_of levels layers ≡ answer_of levels' layers'
same_answer levels levels' layers layers' e f = cc

pub one_answer : (n : ℕ) (a b : LayersAnswer) → IsLayersShape n a → IsLayersShape n b → layers_text a ≡ layers_text b → a ≡ b
one_answer n a b sa sb e =
    let lines : answer_lines a ≡ answer_lines b = same_lines (answer_lines a) (answer_lines b) (lines_plain a) (lines_plain b) (sym (text_is a) ∙ e ∙ text_is b) in
    let parts = same_parts 0 a.levels b.levels a.layers b.layers (recursion_from_All IsFractionShape a.levels sa.levels) (recursion_from_All IsFractionShape b.levels sb.levels) (ap (drop 2) lines) in
    let layers = same_numbers a.layers b.layers (recursion_from_All (IsWithinSize (2 ^ 104)) a.layers sa.each) (recursion_from_All (IsWithinSize (2 ^ 104)) b.layers sb.each) parts.numbers in
    same_answer a.levels b.levels a.layers b.layers parts.levels_are layers
