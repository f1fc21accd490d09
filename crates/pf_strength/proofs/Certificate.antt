-- The certificate proves the strength.
use Rattle.std.proofs.Common.{◌≡◌, ℕ, arith, ap, sym, ◌∙◌}
use Rattle.std.specs.Prelude.{ℤ, ◌+ℤ◌, ◌-ℤ◌, ◌*ℤ◌, pos}
use Rattle.std.proofs.lemmas.Int.{ints}
use Rattle.pf_model.proofs.Integers.{mul_add, mul_comm}
use Rattle.pf_frame.specs.Lending.{row_at}
use Rattle.pf_graph.specs.WeightedGraph.{WeightedGraph, IsWeightedGraph}
use Rattle.pf_graph.specs.Labels.{parts, IsPartition}
use Rattle.pf_graph.specs.Best.{crossing_of, IsStrength}
use Rattle.pf_forest.proofs.Law.{forest_is_best}
use Rattle.pf_strength.specs.Strength.{StrengthAnswer, CertifiesStrength}

-- the value of a partition as a difference
pub worth_is : (c q p : ℤ) (k : ℕ) → (c *ℤ q) +ℤ ((pos 1 -ℤ pos k) *ℤ p) ≡ (q *ℤ c) -ℤ (p *ℤ (pos k -ℤ pos 1))
worth_is c q p k =
    let a = mul_comm c q in
    let b = mul_comm (pos 1 -ℤ pos k) p in
    let e : (pos 1 -ℤ pos k) +ℤ (pos k -ℤ pos 1) ≡ pos 0 = omega (arith, ints) in
    let f : (p *ℤ (pos 1 -ℤ pos k)) +ℤ (p *ℤ (pos k -ℤ pos 1)) ≡ p *ℤ pos 0 = sym (mul_add p (pos 1 -ℤ pos k) (pos k -ℤ pos 1)) ∙ ap (λ z. p *ℤ z) e in
    let none : p *ℤ pos 0 ≡ pos 0 = omega (arith, ints) in
    omega (arith, ints, a, b, f, none)

pub certificate_is_strength : (g : WeightedGraph) (a : StrengthAnswer) → IsWeightedGraph g → IsPartition g.nodes a.parts → CertifiesStrength g a → IsStrength g a.level a.parts
certificate_is_strength g a graph partition c =
    let best = forest_is_best g a.level a.vector (row_at a.splits) a.parts graph c.forest in
    record {
      partition = partition;
      parameter = c.forest.parameter;
      two = c.two;
      attained = c.ratio;
      least = λ other full some.
          let e = best.least other full in
          let x = worth_is (crossing_of g a.parts) a.level.q a.level.p (parts a.parts) in
          let y = worth_is (crossing_of g other) a.level.q a.level.p (parts other) in
          let r = c.ratio in
          omega (arith, ints, e, x, y, r);
    }
