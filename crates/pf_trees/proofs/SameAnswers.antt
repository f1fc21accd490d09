-- Answers of the right shape with equal texts are equal.
use Rattle.std.proofs.Common.{◌≡◌, ℕ, ◌<◌, ◌^◌, List, [], ◌∷◌, ◌++◌, get_or, drop, map, refl, sym, ap, ◌∙◌, append_assoc, arith}
use Rattle.std.specs.Prelude.{ℤ, pos, codes}
use Rattle.std.specs.List.{AllByRecursion}
use Rattle.std.specs.Fmt.{decimal, signed_decimal}
use Rattle.std.proofs.lemmas.Int.{ints}
use Rattle.std.proofs.lemmas.List.{append-nil, get_or_default}
use Rattle.std.proofs.lemmas.List.Elements.{recursion_from_All}
use Rattle.pf_model.specs.Answer.{IsWithinSize}
use Rattle.pf_model.specs.Digraph.{Digraph}
use Rattle.pf_text.specs.Spelling.{line, row_line, label_line}
use Rattle.pf_text.proofs.SameParts.{same_numbers}
use Rattle.pf_text.proofs.TextLines.{ArePlain, lines_text, same_lines, decimal_plain, numbers_plain, same_decimal}
use Rattle.pf_graph.specs.Labels.{crossing_edges, IsPartition}
use Rattle.pf_graph.proofs.Counting.{label_top, parts_most}
use Rattle.pf_graph.proofs.SamePartition.{parts_greatest}
use Rattle.pf_trees.specs.declared.trees_of_graph.TreesOr.{TreesOr}
use Rattle.pf_trees.specs.declared.trees_of_graph.TreesOr.TheVariants.{Trees, Blocked}
use Rattle.pf_trees.specs.Laws.{TreesFromText}
use Rattle.pf_trees.specs.Text.{AreTreeNumbers, IsAnswerShape, trees_text}

-- ---- numbers and labels

all_sized : (g : Digraph) (k : ℕ) (numbers : List ℤ) → k < 2 ^ 104 → AreTreeNumbers g k numbers → AllByRecursion (IsWithinSize (2 ^ 104)) numbers
all_sized g k numbers few are = recursion_from_All (IsWithinSize (2 ^ 104)) numbers (λ i d there.
    let full = are.full in
    let same : get_or numbers i (pos 0) ≡ get_or numbers i d = get_or_default numbers i (pos 0) d there in
    let low = are.low i (omega (arith, full, there)) in
    let high = are.high i (omega (arith, full, there)) in
    record { low = omega (arith, ints, same, low); high = omega (arith, ints, same, high, few) })

all_labels : (n : ℕ) (labels : List ℕ) → n < 2 ^ 104 → IsPartition n labels → AllByRecursion (λ x. x < 10 ^ 64) labels
all_labels n labels few p = recursion_from_All (λ x. x < 10 ^ 64) labels (λ i d there.
    let same = get_or_default labels i 0 d there in
    let top = label_top labels i in
    let greatest = parts_greatest n labels p in
    let most = parts_most labels in
    let full = p.full in
    omega (arith, same, top, greatest, most, full, few))

same_labels : (a b : List ℕ) → AllByRecursion (λ x. x < 10 ^ 64) a → AllByRecursion (λ x. x < 10 ^ 64) b → map decimal a ≡ map decimal b → a ≡ b
same_labels [] [] sa sb e = refl
same_labels [] (y ∷ b) sa sb e = absurd cc
same_labels (x ∷ a) [] sa sb e = absurd cc
same_labels (x ∷ a) (y ∷ b) sa sb e =
    let here = same_decimal x y sa.0 sb.0 cc in
    let back = same_labels a b sa.1 sb.1 cc in
    cc

-- ---- the lines of an answer

abbrev Lines : Type 0
Lines = List (List (List ℕ))

abbrev last_lines : Digraph → TreesOr → Lines
last_lines g (Trees numbers) = (codes "m" ∷ map signed_decimal numbers) ∷ (codes "end" ∷ []) ∷ []
last_lines g (Blocked labels) =
    (codes "none" ∷ []) ∷ (codes "s" ∷ map decimal labels) ∷ (codes "c" ∷ decimal (crossing_edges g.ends labels) ∷ []) ∷ (codes "end" ∷ []) ∷ []

abbrev all_lines : Digraph → ℕ → TreesOr → Lines
all_lines g k answer = (codes "o" ∷ codes "trees" ∷ []) ∷ (codes "k" ∷ decimal k ∷ []) ∷ last_lines g answer

four : (a b c d : List ℕ) → a ++ b ++ (c ++ d) ≡ a ++ (b ++ (c ++ (d ++ [])))
four a b c d = simp (append_assoc, append-nil)

six : (a b c d e f : List ℕ) → a ++ b ++ (c ++ d ++ e ++ f) ≡ a ++ (b ++ (c ++ (d ++ (e ++ (f ++ [])))))
six a b c d e f = simp (append_assoc, append-nil)

text_is : (g : Digraph) (k : ℕ) (answer : TreesOr) → trees_text g k answer ≡ lines_text (all_lines g k answer)
unfolding trees_text
text_is g k (Trees numbers) =
    four (line (codes "o" ∷ codes "trees" ∷ [])) (row_line (codes "k") (k ∷ []) []) (row_line (codes "m") [] numbers) (line (codes "end" ∷ []))
text_is g k (Blocked labels) =
    six (line (codes "o" ∷ codes "trees" ∷ [])) (row_line (codes "k") (k ∷ []) []) (line (codes "none" ∷ [])) (label_line (codes "s") [] labels)
    (row_line (codes "c") (crossing_edges g.ends labels ∷ []) []) (line (codes "end" ∷ []))

labels_plain : (labels : List ℕ) → ArePlain (map decimal labels)
labels_plain [] = tt
labels_plain (x ∷ labels) = (decimal_plain x, labels_plain labels)

last_plain : (g : Digraph) (answer : TreesOr) → AllByRecursion ArePlain (last_lines g answer)
last_plain g (Trees numbers) = ((record { some = omega arith; all = refl }, numbers_plain numbers), ((record { some = omega arith; all = refl }, tt), tt))
last_plain g (Blocked labels) = (
  (record { some = omega arith; all = refl }, tt),
  (
    (record { some = omega arith; all = refl }, labels_plain labels),
    ((record { some = omega arith; all = refl }, (decimal_plain _, tt)), ((record { some = omega arith; all = refl }, tt), tt)),
  ),
)

all_plain : (g : Digraph) (k : ℕ) (answer : TreesOr) → AllByRecursion ArePlain (all_lines g k answer)
all_plain g k answer = (
  (record { some = omega arith; all = refl }, (record { some = omega arith; all = refl }, tt)),
  ((record { some = omega arith; all = refl }, (decimal_plain k, tt)), last_plain g answer),
)

-- ---- and they can be told apart

-- the fields of a line after its word, and the first byte of the first line
abbrev behind_word : ℕ → Lines → List (List ℕ)
behind_word i lines = drop 1 (get_or lines i [])

abbrev mark : Lines → ℕ
mark lines = get_or (get_or (get_or lines 0 []) 0 []) 0 0

same_answer : (g : Digraph) (k : ℕ) (a b : TreesOr) → k < 2 ^ 104 → g.nodes < 2 ^ 104 → IsAnswerShape g k a → IsAnswerShape g k b → last_lines g a ≡ last_lines g b → a ≡ b
same_answer g k (Trees a) (Trees b) few small sa sb e = ap Trees (same_numbers a b (all_sized g k a few sa) (all_sized g k b few sb) (ap (behind_word 0) e))
same_answer g k (Blocked a) (Blocked b) few small sa sb e = ap Blocked (same_labels a b (all_labels g.nodes a small sa) (all_labels g.nodes b small sb) (ap (behind_word 1) e))
same_answer g k (Trees a) (Blocked b) few small sa sb e = absurd (let byte = ap mark e in omega (arith, byte))
same_answer g k (Blocked a) (Trees b) few small sa sb e = absurd (let byte = ap mark e in omega (arith, byte))

pub trees_from_text : TreesFromText
trees_from_text = λ g k a b few small sa sb e.
    same_answer g k a b few small sa sb
    (ap (drop 2) (same_lines (all_lines g k a) (all_lines g k b) (all_plain g k a) (all_plain g k b) (sym (text_is g k a) ∙ e ∙ text_is g k b)))
