-- Each list of labels has one by the label rule with the same parts, so those by the rule are enough.
use Rattle.std.proofs.Common.{◌≡◌, ◌≢◌, ℕ, zero, suc, ◌+◌, ◌<◌, ◌≤◌, List, [], ◌∷◌, length, get_or, refl, Bool, true, false, cond, eqb, not, arith, ap, sym, ◌∙◌, inl, inr, subst}
use Rattle.std.specs.Prelude.{ℤ, ◌-ℤ◌, ◌*ℤ◌, ◌≤ℤ◌, pos, ◌⊎◌}
use Rattle.std.proofs.lemmas.Int.{ints}
use Rattle.std.proofs.lemmas.Bool.{cases_eq, cases_lt, eq-eqb, ne_eqb}
use Rattle.pf_model.specs.Fraction.{Fraction, IsParameter}
use Rattle.pf_model.proofs.Sums.{sum_where_none}
use Rattle.pf_model.specs.Digraph.{Digraph, IsDigraph}
use Rattle.pf_graph.specs.WeightedGraph.{WeightedGraph, IsWeightedGraph, digraph_of}
use Rattle.pf_graph.specs.Labels.{label, parts, crosses, crossing, crossing_edges, IsPartition, IsSamePartition, Refines}
use Rattle.pf_graph.specs.Best.{crossing_of, partition_value, IsBest, IsStrength}
use Rattle.pf_graph.specs.Laws.{HasRule}
use Rattle.pf_graph.proofs.Counting.{finer_parts}
use Rattle.pf_graph.proofs.Classes.{Adds, sum_add}
use Rattle.pf_graph.proofs.Numbering.{IsNumbered, begins, next_old, next_new, goes_on, ends}

-- a vertex below k of the same group as v, or that there is none
record Earlier (groups : List ℕ) (v k : ℕ) : Type 0 where
  vertex : ℕ
  before : vertex < k
  same : label groups vertex ≡ label groups v

the_last : (u k : ℕ) → u < suc k → k ≤ u → k ≡ u
the_last u k less last = omega arith

find_earlier : (groups : List ℕ) (v k : ℕ) → Earlier groups v k ⊎ ((u : ℕ) → u < k → label groups u ≢ label groups v)
find_earlier groups v zero = inr (λ u less. absurd (omega (arith, less)))
find_earlier groups v (suc k) = elim (find_earlier groups v k) [
  | inl found ↦ inl (record { vertex = found.vertex; before = omega (arith, found.before); same = found.same })
  | inr none ↦ elim (cases_eq (label groups k) (label groups v)) [
    | inl here ↦ inl (record { vertex = k; before = omega arith; same = here })
    | inr other ↦ inr (λ u less. elim (cases_lt u k) [
      | inl small ↦ none u small
      | inr last ↦ (let P : ℕ → Type 0 = λ n. label groups n ≢ label groups v in subst P (the_last u k less last) other)
    ])
  ]
]

record HasNumbers (groups : List ℕ) (v : ℕ) : Type 0 where
  labels : List ℕ
  count : ℕ
  are : IsNumbered groups labels v count

numbers : (groups : List ℕ) (v : ℕ) → v ≤ length groups → HasNumbers groups v
numbers groups zero low = record { labels = groups; count = 0; are = begins groups groups refl }
numbers groups (suc v) low =
    let before = numbers groups v (omega arith) in
    elim (find_earlier groups v v) [
      | inl found ↦ record {
        labels = _;
        count = _;
        are = goes_on groups before.labels v before.count _ _ before.are
            (next_old groups before.labels v before.count found.vertex before.are found.before found.same) (omega arith);
      }
      | inr none ↦ record {
        labels = _;
        count = _;
        are = goes_on groups before.labels v before.count _ _ before.are (next_new groups before.labels v before.count before.are none) (omega arith);
      }
    ]

pub by_rule : (groups : List ℕ) → HasRule groups
by_rule groups =
    let all = numbers groups (length groups) (omega arith) in
    record { labels = all.labels; is = ends groups all.labels (length groups) all.count all.are (omega arith) }

-- the same partition has the same numbers
pub same_parts : (first second : List ℕ) → length first ≡ length second → IsSamePartition (length first) first second → parts first ≡ parts second
same_parts first second full same =
    let most = finer_parts first second full same.to in
    let back : Refines (length second) second first = (let P : ℕ → Type 0 = λ n. Refines n second first in subst P full same.back) in
    let least = finer_parts second first (sym full) back in
    omega (arith, most, least)

same_test : (a b c e : ℕ) → (a ≡ b → c ≡ e) → (c ≡ e → a ≡ b) → eqb a b ≡ eqb c e
same_test a b c e h k = elim (cases_eq a b) [
  | inl equal ↦ eq-eqb a b equal ∙ sym (eq-eqb c e (h equal))
  | inr other ↦ ne_eqb a b other ∙ sym (ne_eqb c e (λ f. other (k f)))
]

alone : (p q : Bool) → p ≡ q → Adds p q false
alone true true e = record { either = refl; apart = refl }
alone true false e = cc
alone false true e = cc
alone false false e = record { either = refl; apart = refl }

same_crosses : (g : Digraph) (first second : List ℕ) → IsDigraph g → IsSamePartition g.nodes first second → (i : ℕ) → i < length g.ends →
    crosses first (get_or g.ends i (0, 0)) ≡ crosses second (get_or g.ends i (0, 0))
same_crosses g first second graph same i low =
    let edge = get_or g.ends i (0, 0) in
    let tail = graph.tails i low in
    let head = graph.heads i low in
    ap not (
    same_test (label first edge.0) (label first edge.1) (label second edge.0) (label second edge.1) (same.to.joins edge.0 edge.1 tail head)
    (same.back.joins edge.0 edge.1 tail head))

pub same_crossing : (g : Digraph) (numbers : List ℤ) (first second : List ℕ) → IsDigraph g → IsSamePartition g.nodes first second →
    crossing g.ends numbers first ≡ crossing g.ends numbers second
same_crossing g numbers first second graph same =
    let none : ℕ × ℕ → Bool = λ edge. false in
    let e = sum_add (crosses first) (crosses second) none g.ends numbers
    (λ i low. alone (crosses first (get_or g.ends i (0, 0))) (crosses second (get_or g.ends i (0, 0))) (same_crosses g first second graph same i low)) in
    let f = sum_where_none none g.ends numbers (λ edge. refl) in
    omega (arith, ints, e, f)

same_count : (p q : Bool) (m n : ℕ) → p ≡ q → m ≡ n → cond p 1 0 + m ≡ cond q 1 0 + n
same_count p q m n e f = ap (λ b. cond {A = ℕ} b 1 0 + m) e ∙ ap (λ k. cond {A = ℕ} q 1 0 + k) f

count_same : (ends : List (ℕ × ℕ)) (first second : List ℕ) →
    ((i : ℕ) → i < length ends → crosses first (get_or ends i (0, 0)) ≡ crosses second (get_or ends i (0, 0))) →
    crossing_edges ends first ≡ crossing_edges ends second
count_same [] first second h = refl
count_same (edge ∷ ends) first second h =
    same_count (crosses first edge) (crosses second edge) _ _ (h 0 (omega arith)) (count_same ends first second (λ i low. h (suc i) (omega arith)))

pub same_crossing_edges : (g : Digraph) (first second : List ℕ) → IsDigraph g → IsSamePartition g.nodes first second →
    crossing_edges g.ends first ≡ crossing_edges g.ends second
same_crossing_edges g first second graph same = count_same g.ends first second (same_crosses g first second graph same)

-- a list by the rule with the parts and the crossing weight of another
pub record HasEqual (g : WeightedGraph) (other : List ℕ) : Type 0 where
  pub labels : List ℕ
  pub partition : IsPartition g.nodes labels
  pub parts_are : parts labels ≡ parts other
  pub crossing_is : crossing_of g labels ≡ crossing_of g other

pub equal_by_rule : (g : WeightedGraph) (other : List ℕ) → IsWeightedGraph g → length other ≡ g.nodes → HasEqual g other
equal_by_rule g other graph full =
    let rule = by_rule other in
    let long = rule.is.partition.full in
    let P : ℕ → Type 0 = λ n. IsPartition n rule.labels in
    let Q : ℕ → Type 0 = λ n. IsSamePartition n other rule.labels in
    record {
      labels = rule.labels;
      partition = subst P full rule.is.partition;
      parts_are = sym (same_parts other rule.labels (sym long) rule.is.same);
      crossing_is = sym (same_crossing (digraph_of g) g.weights other rule.labels graph.graph (subst Q full rule.is.same));
    }

pub best_by_rule : (g : WeightedGraph) (x : Fraction) (d : List ℕ) → IsWeightedGraph g → length d ≡ g.nodes →
    ((r : List ℕ) → IsPartition g.nodes r → partition_value g d x ≤ℤ partition_value g r x) → IsBest g x d
best_by_rule g x d graph full h = record {
  full = full;
  least = λ other long.
      let equal = equal_by_rule g other graph long in
      let most = h equal.labels equal.partition in
      let a = ap (λ n. n *ℤ x.q) equal.crossing_is in
      let b = ap (λ n. (pos 1 -ℤ pos n) *ℤ x.p) equal.parts_are in
      omega (arith, ints, most, a, b);
}

pub strength_by_rule : (g : WeightedGraph) (x : Fraction) (d : List ℕ) → IsWeightedGraph g → IsPartition g.nodes d → IsParameter x → 2 ≤ parts d →
    x.q *ℤ crossing_of g d ≡ x.p *ℤ (pos (parts d) -ℤ pos 1) →
    ((r : List ℕ) → IsPartition g.nodes r → 2 ≤ parts r → (x.p *ℤ (pos (parts r) -ℤ pos 1)) ≤ℤ (x.q *ℤ crossing_of g r)) → IsStrength g x d
strength_by_rule g x d graph partition parameter two attained h = record {
  partition = partition;
  parameter = parameter;
  two = two;
  attained = attained;
  least = λ other long some.
      let equal = equal_by_rule g other graph long in
      let e = equal.parts_are in
      let most = h equal.labels equal.partition (omega (arith, some, e)) in
      let a = ap (λ n. x.q *ℤ n) equal.crossing_is in
      let b = ap (λ n. x.p *ℤ (pos n -ℤ pos 1)) equal.parts_are in
      omega (arith, ints, most, a, b);
}
