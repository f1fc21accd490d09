-- Labels, taken from the front of a text: those by the rule, and their number of parts.
use Rattle.std.proofs.Common.{◌≡◌, ℕ, ◌<◌, ◌≤◌, List, [], ◌∷◌, ◌++◌, length, map, sym, ap, subst, ◌∙◌, append_assoc, arith}
use Rattle.std.specs.Prelude.{codes}
use Rattle.std.specs.Fmt.{decimal}
use Rattle.std.proofs.lemmas.List.{length-append, length-map}
use Rattle.pf_text.specs.Spelling.{spaced, head_text, row_line, label_line}
use Rattle.pf_text.proofs.SpellingLemmas.{line_then}
use Rattle.pf_graph.specs.Labels.{parts, IsPartition, IsPartitionOf}
use Rattle.pf_graph.proofs.Counting.{parts_most, parts_some}
use Rattle.pf_graph.proofs.SamePartition.{same_partition}
use Rattle.pf_strength.specs.Text.{partition_text}

-- ---- the label rule

-- labels that are by the rule are the ones that number their groups
pub same_list : (groups labels : List ℕ) → IsPartition (length groups) groups → IsPartitionOf groups labels → labels ≡ groups
same_list groups labels p of = sym (same_partition (length groups) groups labels p of.partition of.same)

-- the rule, where the labels are known by another list
pub same_rule : (n : ℕ) (groups labels : List ℕ) → groups ≡ labels → IsPartition n labels → IsPartition (length groups) groups
same_rule n groups labels e p =
    let full = p.full in
    let P : List ℕ → Type 0 = λ l. IsPartition (length l) l in
    let Q : ℕ → Type 0 = λ k. IsPartition k labels in
    subst P (sym e) (subst Q (sym full) p)

pub same_count : (n m : ℕ) (labels : List ℕ) → m ≡ n → IsPartition m labels → IsPartition n labels
same_count n m labels e p = let P : ℕ → Type 0 = λ k. IsPartition k labels in subst P e p

pub rule_of_length : (n : ℕ) (groups labels : List ℕ) → length groups ≡ n → IsPartition (length groups) labels → IsPartition n labels
rule_of_length n groups labels full p = same_count n (length groups) labels full p

-- ---- the number of parts

pub parts_count : (n : ℕ) (labels : List ℕ) → 0 < n → IsPartition n labels → 1 ≤ parts labels
parts_count n labels some p =
    let full = p.full in
    let least = parts_some labels (omega (arith, some, full)) in
    omega (arith, least)

spaced_long : (fields : List (List ℕ)) → length fields ≤ length (spaced fields)
spaced_long [] = omega arith
spaced_long (field ∷ fields) =
    let later = spaced_long fields in
    let both = length-append (32 ∷ field) (spaced fields) in
    omega (arith, later, both)

-- as many bytes as parts stand after the line of their number
pub parts_behind : (labels rest : List ℕ) → parts labels ≤ length (label_line (codes "s") [] labels ++ rest)
parts_behind labels rest =
    let most = parts_most labels in
    let fields : List (List ℕ) = map decimal labels in
    let long = spaced_long (map decimal labels) in
    let count : length (map decimal labels) ≡ length labels = length-map labels decimal in
    let whole = ap length (line_then (codes "s") [] (map decimal labels) rest) in
    let a = length-append (head_text (codes "s") []) (spaced (map decimal labels) ++ (10 ∷ rest)) in
    let b = length-append (spaced (map decimal labels)) (10 ∷ rest) in
    omega (arith, most, long, count, whole, a, b)

-- ---- both lines

pub both_lines : (labels rest : List ℕ) → partition_text labels ++ rest ≡ row_line (codes "k") (parts labels ∷ []) [] ++ (label_line (codes "s") [] labels ++ rest)
both_lines labels rest = append_assoc (row_line (codes "k") (parts labels ∷ []) []) (label_line (codes "s") [] labels) rest

pub both_taken : (labels t0 t1 t2 : List ℕ) (count : ℕ) → t0 ≡ row_line (codes "k") (count ∷ []) [] ++ t1 → t1 ≡ label_line (codes "s") [] labels ++ t2 → count ≡ parts labels
    → t0 ≡ partition_text labels ++ t2
both_taken labels t0 t1 t2 count first second same =
    first ∙ ap (λ (k : ℕ). row_line (codes "k") (k ∷ []) [] ++ t1) same ∙ ap (λ (t : List ℕ). row_line (codes "k") (parts labels ∷ []) [] ++ t) second
    ∙ sym (both_lines labels t2)
