-- A sparse vector within the weights, whose sum is that of a partition: no partition has a smaller worth.
use Rattle.std.proofs.Common.{◌≡◌, ℕ, zero, suc, ◌<◌, List, [], ◌∷◌, length, get_or, map, refl, true, arith, ap, ◌∙◌, inl, inr}
use Rattle.std.specs.Prelude.{ℤ, ◌+ℤ◌, ◌-ℤ◌, ◌*ℤ◌, ◌≤ℤ◌, pos, ◌==◌}
use Rattle.std.proofs.lemmas.Int.{ints}
use Rattle.std.proofs.lemmas.Bool.{both_ways, eq-eqb}
use Rattle.pf_model.specs.Cut.{at_arc}
use Rattle.pf_model.specs.Digraph.{Digraph, IsDigraph}
use Rattle.pf_model.specs.Fraction.{Fraction}
use Rattle.pf_model.proofs.Affine.{sum_where_scaled}
use Rattle.pf_model.proofs.Integers.{mul_add, mul_comm}
use Rattle.pf_model.proofs.Sums.{sum_where_most}
use Rattle.pf_graph.specs.WeightedGraph.{WeightedGraph, IsWeightedGraph, digraph_of, total}
use Rattle.pf_graph.specs.Labels.{label, part, parts, crosses, crossing}
use Rattle.pf_graph.specs.Best.{crossing_of, IsBest}
use Rattle.pf_graph.specs.Laws.{PartsMost}
use Rattle.pf_graph.proofs.Classes.{parts_most_sum, parts_tight_sum, has-part, length-part}
use Rattle.pf_graph.proofs.Counting.{occurs_find}
use Rattle.pf_forest.specs.Held.{tail_of, head_of}
use Rattle.pf_forest.specs.Forest.{IsSparse, IsInRange, MeetsTotal, MeetsForest}
use Rattle.pf_forest.specs.Filling.{IsForest, CrossingAreFull, MeetsSum}
use Rattle.pf_forest.proofs.Sparse.{some_size}
use Rattle.pf_forest.proofs.Splits.{splits_are_sparse}
use Rattle.pf_model.proofs.Facts.{not_true}

-- an edge that crosses has its goal
full_at : (g : Digraph) (goals vector : List ℤ) (groups : List ℕ) → CrossingAreFull g goals vector groups → (i : ℕ) → i < length g.ends →
    crosses groups (get_or g.ends i (0, 0)) ≡ true → at_arc vector i ≡ at_arc goals i
full_at g goals vector groups f i low passes = elim (f.done i low) [
  | inl full ↦ full
  | inr same ↦ absurd (both_ways _ (not_true (label groups (tail_of g.ends i) == label groups (head_of g.ends i)) passes) (eq-eqb _ _ same))
]

crossing_full : (g : Digraph) (goals vector : List ℤ) (groups : List ℕ) → CrossingAreFull g goals vector groups → crossing g.ends vector groups ≡ crossing g.ends goals groups
crossing_full g goals vector groups f =
    let a = sum_where_most (crosses groups) g.ends vector goals (λ i p. let e = full_at g goals vector groups f i p.in_range p.passes in omega (arith, ints, e)) in
    let b = sum_where_most (crosses groups) g.ends goals vector (λ i p. let e = full_at g goals vector groups f i p.in_range p.passes in omega (arith, ints, e)) in
    omega (arith, ints, a, b)

-- what is filled has the sum of its groups
pub full_sum : (g : Digraph) (limit : ℤ) (goals vector heads rooms : List ℤ) (groups : List ℕ) → IsDigraph g → IsForest g limit vector heads rooms groups →
    CrossingAreFull g goals vector groups → MeetsSum g limit goals vector groups
full_sum g limit goals vector heads rooms groups graph f full =
    let e = parts_tight_sum g vector limit groups graph f.full (record { tight = f.tight }) in
    let c = crossing_full g goals vector groups full in
    record { sum = omega (arith, ints, e, c) }

-- numbers times the denominator
at_scaled : (q : ℤ) (numbers : List ℤ) (i : ℕ) → at_arc (map (λ c. q *ℤ c) numbers) i ≡ q *ℤ at_arc numbers i
at_scaled q [] i = omega (arith, ints)
at_scaled q (x ∷ numbers) zero = refl
at_scaled q (x ∷ numbers) (suc i) = at_scaled q numbers i

-- goals that are the weights times the denominator
pub scaled_crossing : (g : WeightedGraph) (q : ℤ) (goals : List ℤ) (groups : List ℕ) → ((i : ℕ) → i < length g.ends → at_arc goals i ≡ q *ℤ at_arc g.weights i) →
    crossing g.ends goals groups ≡ q *ℤ crossing_of g groups
scaled_crossing g q goals groups are =
    let scaled : List ℤ = map (λ c. q *ℤ c) g.weights in
    let a = sum_where_most (crosses groups) g.ends goals scaled (λ i p. let e = are i p.in_range in let s = at_scaled q g.weights i in omega (arith, ints, e, s)) in
    let b = sum_where_most (crosses groups) g.ends scaled goals (λ i p. let e = are i p.in_range in let s = at_scaled q g.weights i in omega (arith, ints, e, s)) in
    let c = sum_where_scaled (crosses groups) q g.ends g.weights in
    omega (arith, ints, a, b, c)

-- any partition has at least the sum
pub sum_least : (g : WeightedGraph) (x : Fraction) (vector : List ℤ) (other : List ℕ) → IsDigraph (digraph_of g) → IsSparse (digraph_of g) x.p vector → IsInRange g x vector →
    length other ≡ g.nodes → total g.ends vector ≤ℤ ((x.q *ℤ crossing_of g other) +ℤ (x.p *ℤ (pos g.nodes -ℤ pos (parts other))))
sum_least g x vector other graph s r full =
    let most : PartsMost g.ends vector x.p other = record {
      most = λ a some.
          let f = occurs_find a other some in
          s.sparse (part other a) (length-part other a ∙ full)
          (some_size (part other a) f.vertex (has-part other a f.vertex f.in_range ∙ eq-eqb _ _ f.label_is));
    } in
    let e = parts_most_sum (digraph_of g) vector x.p other graph full most in
    let scaled : List ℤ = map (λ c. x.q *ℤ c) g.weights in
    let c = sum_where_most (crosses other) g.ends vector scaled (λ i p. let high = r.high i p.in_range in let t = at_scaled x.q g.weights i in omega (arith, ints, high, t)) in
    let d = sum_where_scaled (crosses other) x.q g.ends g.weights in
    omega (arith, ints, e, c, d)

-- one side of the worth, from the sum
pub worth_of : (c q p : ℤ) (n k : ℕ) → (c *ℤ q) +ℤ ((pos 1 -ℤ pos k) *ℤ p) ≡ ((q *ℤ c) +ℤ (p *ℤ (pos n -ℤ pos k))) -ℤ (p *ℤ (pos n -ℤ pos 1))
worth_of c q p n k =
    let a = mul_comm c q in
    let b = mul_comm (pos 1 -ℤ pos k) p in
    let e : pos n -ℤ pos k ≡ (pos 1 -ℤ pos k) +ℤ (pos n -ℤ pos 1) = omega (arith, ints) in
    let f : p *ℤ (pos n -ℤ pos k) ≡ (p *ℤ (pos 1 -ℤ pos k)) +ℤ (p *ℤ (pos n -ℤ pos 1)) = ap (λ x. p *ℤ x) e ∙ mul_add p (pos 1 -ℤ pos k) (pos n -ℤ pos 1) in
    omega (arith, ints, a, b, f)

pub best_of_sum : (g : WeightedGraph) (x : Fraction) (vector : List ℤ) (labels : List ℕ) → IsDigraph (digraph_of g) → length labels ≡ g.nodes →
    IsSparse (digraph_of g) x.p vector → IsInRange g x vector → MeetsTotal g x vector labels → IsBest g x labels
best_of_sum g x vector labels graph full s r m = record {
  full = full;
  least = λ other full'.
      let e = sum_least g x vector other graph s r full' in
      let sum = m.total_is in
      let c = worth_of (crossing g.ends g.weights labels) x.q x.p g.nodes (parts labels) in
      let d = worth_of (crossing g.ends g.weights other) x.q x.p g.nodes (parts other) in
      omega (arith, ints, e, sum, c, d);
}

-- the forest condition is a certificate
pub forest_is_sparse : (g : WeightedGraph) (x : Fraction) (vector : List ℤ) (splits : ℕ → List ℤ) (labels : List ℕ) → IsWeightedGraph g →
    MeetsForest g x vector splits labels → IsSparse (digraph_of g) x.p vector
forest_is_sparse g x vector splits labels graph m = splits_are_sparse (digraph_of g) x.p vector splits m.range.full m.splits_are

pub forest_is_best : (g : WeightedGraph) (x : Fraction) (vector : List ℤ) (splits : ℕ → List ℤ) (labels : List ℕ) → IsWeightedGraph g →
    MeetsForest g x vector splits labels → IsBest g x labels
forest_is_best g x vector splits labels graph m =
    best_of_sum g x vector labels graph.graph m.labels_full (forest_is_sparse g x vector splits labels graph m) m.range m.sum
