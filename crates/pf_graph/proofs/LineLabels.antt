-- Labels by the rule are labels of lines.
use Rattle.std.proofs.Common.{ℕ, ◌≤◌, List, arith}
use Rattle.std.proofs.lemmas.List.{get_or_default}
use Rattle.pf_lines.specs.Taking.{AreLabels}
use Rattle.pf_graph.specs.Labels.{label, IsPartition}
use Rattle.pf_graph.proofs.Counting.{label_top, parts_most}
use Rattle.pf_graph.proofs.SamePartition.{parts_greatest}

-- no label is greater than the number of vertices
label_high : (n : ℕ) (labels : List ℕ) (v : ℕ) → IsPartition n labels → label labels v ≤ n
label_high n labels v p =
    let top = label_top labels v in
    let same = parts_greatest n labels p in
    let most = parts_most labels in
    let full = p.full in
    omega (arith, top, same, most, full)

pub labels_of_partition : (n : ℕ) (labels : List ℕ) → IsPartition n labels → AreLabels n n labels
labels_of_partition n labels p = record {
  full = p.full;
  each = λ i d low.
      let full = p.full in
      let e = get_or_default labels i d 0 low in
      let least = p.low i (omega (arith, low, full)) in
      let most = label_high n labels i p in
      (omega (arith, e, least), omega (arith, e, most));
}
