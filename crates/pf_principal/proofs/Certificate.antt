-- The certificate proves the principal partition.
use Rattle.std.proofs.Common.{◌≡◌, ℕ, zero, suc, ◌+◌, ◌≤◌, length, arith, subst, add-one}
use Rattle.std.proofs.lemmas.Int.{ints}
use Rattle.pf_model.specs.Fraction.{IsParameter}
use Rattle.pf_frame.specs.Lending.{row_at}
use Rattle.pf_graph.specs.WeightedGraph.{WeightedGraph, IsWeightedGraph}
use Rattle.pf_graph.specs.Best.{level_at, partition_at, IsPrincipal}
use Rattle.pf_graph.specs.Laws.{AreLowest}
use Rattle.pf_graph.proofs.Principal.{principal_from_best, principal_lowest}
use Rattle.pf_forest.proofs.Law.{forest_is_best}
use Rattle.pf_principal.specs.Principal.{PrincipalAnswer, FitsGraph, CertifiesPrincipal, split_at}

parameter_of : (g : WeightedGraph) (a : PrincipalAnswer) → CertifiesPrincipal g a → (j : ℕ) → j ≤ length a.levels → IsParameter (level_at a.levels j)
parameter_of g a c zero low = omega (arith, ints)
parameter_of g a c (suc j) low =
    let P : ℕ → Type 0 = λ k. IsParameter (level_at a.levels k) in
    subst P (add-one j) (c.left j (omega (arith, low))).parameter

pub certificate_is_principal : (g : WeightedGraph) (a : PrincipalAnswer) → IsWeightedGraph g → FitsGraph g a → CertifiesPrincipal g a →
    IsPrincipal g a.levels a.partitions
certificate_is_principal g a graph s c = principal_from_best g a.levels a.partitions graph (record {
  levels_are = record { count = s.count; parameters = parameter_of g a c; rise = c.rise; partition = s.partition };
  first = c.first;
  left = λ j low. forest_is_best g (level_at a.levels (j + 1)) (row_at a.vectors j) (split_at g a.splits j) (partition_at a.partitions j) graph (c.left j low);
  right = λ j low. forest_is_best g (level_at a.levels (j + 1)) (row_at a.vectors j) (split_at g a.splits j) (partition_at a.partitions (j + 1)) graph (c.right j low);
  parts_rise = c.parts_rise;
  last = c.last;
})

pub certified_is_unique : (g : WeightedGraph) (a b : PrincipalAnswer) → IsWeightedGraph g → FitsGraph g a → CertifiesPrincipal g a → AreLowest a.levels →
    FitsGraph g b → CertifiesPrincipal g b → AreLowest b.levels → (a.levels ≡ b.levels) × (a.partitions ≡ b.partitions)
certified_is_unique g a b graph s c low s' c' low' =
    principal_lowest g a.levels b.levels a.partitions b.partitions (certificate_is_principal g a graph s c) (certificate_is_principal g b graph s' c') low low'
