-- In front of a text stands at most one partition.
use Rattle.std.proofs.Common.{ℕ, ◌≤◌, List, [], ◌∷◌, ◌++◌, sym, ◌∙◌, append_assoc, arith}
use Rattle.std.specs.Prelude.{codes}
use Rattle.pf_text.specs.Spelling.{row_line, label_line}
use Rattle.pf_format.specs.Format.{HasOneReading}
use Rattle.pf_format.specs.LineLaws.{label_row_one}
use Rattle.pf_format.proofs.ItemLaws.{count_left}
use Rattle.pf_graph.specs.Labels.{parts, IsPartition}
use Rattle.pf_graph.proofs.LineLabels.{labels_of_partition}
use Rattle.pf_strength.specs.Text.{partition_text}

pub partition_one : (n : ℕ) → n ≤ 8192 → HasOneReading partition_text (IsPartition n)
partition_one n few x y rest later a b e =
    let front : List ℕ → List ℕ = λ labels. row_line (codes "k") (parts labels ∷ []) [] in
    let labels : List ℕ → List ℕ = label_line (codes "s") [] in
    let behind = count_left (codes "k") (parts x) (parts y) (labels x ++ rest) (labels y ++ later) (sym (append_assoc (front x) (labels x) rest) ∙ e ∙ append_assoc (front y) (labels y) later) in
    label_row_one (codes "s") [] n n (omega (arith, few)) x y rest later (labels_of_partition n x a) (labels_of_partition n y b) behind
