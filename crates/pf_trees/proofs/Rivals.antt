-- Partitions by the label rule are enough to see that edges span.
use Rattle.std.proofs.Common.{◌≡◌, ℕ, ◌-◌, ◌<◌, List, length, sym, subst, arith}
use Rattle.pf_model.specs.Digraph.{IsDigraph}
use Rattle.pf_graph.specs.Labels.{parts, crossing_edges, IsPartition, IsSamePartition}
use Rattle.pf_graph.proofs.ByRule.{by_rule, same_parts, same_crossing_edges}
use Rattle.pf_trees.specs.Trees.{with_ends, IsSpanningTree}

pub spanning_by_rule : (n : ℕ) (edges : List (ℕ × ℕ)) → IsDigraph (with_ends n edges) → length edges ≡ n - 1 →
    ((r : List ℕ) → IsPartition n r → 1 < parts r → 0 < crossing_edges edges r) → IsSpanningTree n edges
spanning_by_rule n edges graph count crossed = record {
  count = count;
  crossed = λ other long some.
      let rule = by_rule other in
      let P : ℕ → Type 0 = λ k. IsPartition k rule.labels in
      let Q : ℕ → Type 0 = λ k. IsSamePartition k other rule.labels in
      let as_many = same_parts other rule.labels (sym rule.is.partition.full) rule.is.same in
      let same = same_crossing_edges (with_ends n edges) other rule.labels graph (subst Q long rule.is.same) in
      let here = crossed rule.labels (subst P long rule.is.partition) (omega (arith, some, as_many)) in
      omega (arith, here, same);
}
