-- Partitions by the label rule are enough to compare with.
use Rattle.std.proofs.Common.{◌≡◌, ℕ, ◌<◌, ◌≤◌, List, length, ap, sym, ◌∙◌, subst, arith}
use Rattle.std.specs.Prelude.{ℤ, ◌+ℤ◌, ◌-ℤ◌, ◌*ℤ◌, ◌≤ℤ◌, ◌<ℤ◌, pos}
use Rattle.std.proofs.lemmas.Int.{ints}
use Rattle.pf_model.specs.Cut.{at_arc}
use Rattle.pf_model.specs.Fraction.{Fraction}
use Rattle.pf_graph.specs.WeightedGraph.{WeightedGraph, IsWeightedGraph, digraph_of}
use Rattle.pf_graph.specs.Labels.{parts, crossing, crossing_edges, IsPartition, IsSamePartition}
use Rattle.pf_graph.specs.Best.{crossing_of}
use Rattle.pf_graph.proofs.ByRule.{by_rule, same_parts, same_crossing, same_crossing_edges}
use Rattle.pf_reinforce.specs.Reinforcement.{ReachesLevel, IsBlocked}

pub reaches_by_rule : (g : WeightedGraph) (x : Fraction) (u : ℕ) (numbers : List ℤ) → IsWeightedGraph g → length numbers ≡ length g.ends →
    ((i : ℕ) → i < length g.ends → pos 0 ≤ℤ at_arc numbers i) →
    ((r : List ℕ) → IsPartition g.nodes r →
    (pos u *ℤ (x.p *ℤ (pos (parts r) -ℤ pos 1))) ≤ℤ ((pos u *ℤ (x.q *ℤ crossing_of g r)) +ℤ crossing g.ends numbers r)) →
    ReachesLevel g x u numbers
reaches_by_rule g x u numbers graph full low reached = record {
  full = full;
  low = low;
  reaches = λ other long.
      let rule = by_rule other in
      let P : ℕ → Type 0 = λ n. IsPartition n rule.labels in
      let Q : ℕ → Type 0 = λ n. IsSamePartition n other rule.labels in
      let same = subst Q long rule.is.same in
      let most = reached rule.labels (subst P long rule.is.partition) in
      let a = ap (λ k. pos u *ℤ (x.p *ℤ (pos k -ℤ pos 1))) (same_parts other rule.labels (sym rule.is.partition.full) rule.is.same) in
      let b = ap (λ z. pos u *ℤ (x.q *ℤ z)) (same_crossing (digraph_of g) g.weights other rule.labels graph.graph same) in
      let c = same_crossing (digraph_of g) numbers other rule.labels graph.graph same in
      omega (arith, ints, most, a, b, c);
}

pub blocked_by_rule : (g : WeightedGraph) (x : Fraction) (labels : List ℕ) → IsWeightedGraph g → pos 0 <ℤ x.p → IsPartition g.nodes labels → 2 ≤ parts labels →
    crossing_edges g.ends labels ≡ 0 → ((r : List ℕ) → IsPartition g.nodes r → crossing_edges g.ends r ≡ 0 → parts r ≤ parts labels) → IsBlocked g x labels
blocked_by_rule g x labels graph level partition apart uncrossed most = record {
  level = level;
  partition = partition;
  apart = apart;
  uncrossed = uncrossed;
  most = λ other long none.
      let rule = by_rule other in
      let P : ℕ → Type 0 = λ n. IsPartition n rule.labels in
      let Q : ℕ → Type 0 = λ n. IsSamePartition n other rule.labels in
      let same = same_crossing_edges (digraph_of g) other rule.labels graph.graph (subst Q long rule.is.same) in
      let few = most rule.labels (subst P long rule.is.partition) (sym same ∙ none) in
      let as_many = same_parts other rule.labels (sym rule.is.partition.full) rule.is.same in
      omega (arith, few, as_many);
}
