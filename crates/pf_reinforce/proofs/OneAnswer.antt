-- All reinforcements of a graph for a level have one cost, and one partition blocks a level.
use Rattle.std.proofs.Common.{◌≡◌, ℕ, zero, suc, ◌+◌, ◌≤◌, List, [], ◌∷◌, length, refl, Bool, true, false, cond, ap, sym, ◌∙◌, inl, inr, arith}
use Rattle.std.specs.Prelude.{ℤ, ◌+ℤ◌, ◌-ℤ◌, ◌*ℤ◌, ◌≤ℤ◌, pos}
use Rattle.std.proofs.lemmas.Bool.{cases_eq}
use Rattle.std.proofs.lemmas.Int.{ints}
use Rattle.pf_model.specs.Cut.{at_arc}
use Rattle.pf_model.specs.Fraction.{Fraction, IsParameter}
use Rattle.pf_model.proofs.Integers.{mul_comm, mul_most}
use Rattle.pf_graph.specs.WeightedGraph.{WeightedGraph, IsWeightedGraph}
use Rattle.pf_graph.specs.Labels.{parts, crosses, crossing, crossing_edges, IsPartition, Refines}
use Rattle.pf_graph.specs.Best.{level_zero, IsBest}
use Rattle.pf_graph.proofs.Counting.{parts_most}
use Rattle.pf_graph.proofs.Levels.{uncrossed_best}
use Rattle.pf_graph.proofs.Refinement.{refinement}
use Rattle.pf_graph.proofs.SamePartition.{same_partition}
use Rattle.pf_reinforce.specs.declared.reinforcement.Reinforcement.{Reinforcement}
use Rattle.pf_reinforce.specs.declared.reinforcement.Reinforcement.TheVariants.{Added, Blocked}
use Rattle.pf_reinforce.specs.Reinforcement.{cost_of_added, IsReinforcement, IsBlocked}
use Rattle.pf_reinforce.specs.Answer.{Answers}
use Rattle.pf_reinforce.specs.ReinforcementLaws.{TellTheSame}
use Rattle.pf_reinforce.proofs.Certificate.{blocked_is_not_reached}
use Rattle.pf_reinforce.proofs.Connected.{AreComponents}
use Rattle.pf_reinforce.proofs.OneThresholds.{one_list_of_thresholds}

-- no reinforcement costs more than another
at_most_cost : (g : WeightedGraph) (x : Fraction) (a b : List ℤ) → IsReinforcement g x a → IsReinforcement g x b →
    cost_of_added g.prices a ≤ℤ cost_of_added g.prices b
at_most_cost g x a b ra rb = let h = ra.least 1 b (omega arith) rb.reaches in omega (arith, ints, h)

pub one_cost : (g : WeightedGraph) (x : Fraction) (a b : List ℤ) → IsReinforcement g x a → IsReinforcement g x b →
    cost_of_added g.prices a ≡ cost_of_added g.prices b
one_cost g x a b ra rb =
    let to = at_most_cost g x a b ra rb in
    let back = at_most_cost g x b a rb ra in
    omega (arith, ints, to, back)

-- ---- the graph in which each edge weighs 1: its components are best at a level above 0

abbrev ones : List (ℕ × ℕ) → List ℤ
ones [] = []
ones (edge ∷ ends) = pos 1 ∷ ones ends

length_ones : (ends : List (ℕ × ℕ)) → length (ones ends) ≡ length ends
length_ones [] = refl
length_ones (edge ∷ ends) = ap suc (length_ones ends)

ones_low : (ends : List (ℕ × ℕ)) (i : ℕ) → pos 0 ≤ℤ at_arc (ones ends) i
ones_low [] i = omega (arith, ints)
ones_low (edge ∷ ends) zero = omega (arith, ints)
ones_low (edge ∷ ends) (suc i) = ones_low ends i

one_step : (here : Bool) (a : ℤ) (n : ℕ) → a ≡ pos n → cond here (pos 1) (pos 0) +ℤ a ≡ pos (cond here 1 0 + n)
one_step true a n e = omega (arith, ints, e)
one_step false a n e = omega (arith, ints, e)

crossing_ones : (ends : List (ℕ × ℕ)) (labels : List ℕ) → crossing ends (ones ends) labels ≡ pos (crossing_edges ends labels)
crossing_ones [] labels = refl
crossing_ones (edge ∷ ends) labels = one_step (crosses labels edge) (crossing ends (ones ends) labels) (crossing_edges ends labels) (crossing_ones ends labels)

abbrev unit_weights : WeightedGraph → WeightedGraph
unit_weights g = record { nodes = g.nodes; ends = g.ends; weights = ones g.ends; costs = g.costs; prices = g.prices }

unit_graph : (g : WeightedGraph) → IsWeightedGraph g → IsWeightedGraph (unit_weights g)
unit_graph g w = record {
  some = w.some;
  graph = w.graph;
  apart = w.apart;
  weights_full = length_ones g.ends;
  costs_full = w.costs_full;
  prices_full = w.prices_full;
  weights_low = λ i low. ones_low g.ends i;
  costs_low = w.costs_low;
  prices_low = w.prices_low;
}

-- at 1/n one crossing edge is worth n parts
worth_parts : (c c' : ℤ) (e e' k k' n : ℕ) → c ≡ pos e → c' ≡ pos e' → e ≡ 0 → k' ≤ n → (e' ≡ 0 → k' ≤ k) →
    ((c *ℤ pos n) +ℤ ((pos 1 -ℤ pos k) *ℤ pos 1)) ≤ℤ ((c' *ℤ pos n) +ℤ ((pos 1 -ℤ pos k') *ℤ pos 1))
worth_parts c c' e e' k k' n is is' none few more =
    let first = ap (λ z. z *ℤ pos n) (is ∙ ap pos none) in
    let zero_n : pos 0 *ℤ pos n ≡ pos 0 = omega (arith, ints) in
    elim (cases_eq e' 0) [
      | inl none' ↦
          let second = ap (λ z. z *ℤ pos n) (is' ∙ ap pos none') in
          let fewer = more none' in
          omega (arith, ints, first, second, zero_n, fewer)
      | inr some ↦
          let least = mul_most (pos n) (pos 1) c' (omega (arith, ints)) (omega (arith, ints, is', some)) in
          let turned = mul_comm (pos n) c' in
          let once : pos n *ℤ pos 1 ≡ pos n = omega (arith, ints) in
          omega (arith, ints, first, zero_n, least, turned, once, few)
    ]

abbrev small_level : ℕ → Fraction
small_level n = record { p = pos 1; q = pos n }

components_best : (g : WeightedGraph) (labels : List ℕ) → IsWeightedGraph g → length labels ≡ g.nodes → AreComponents g labels →
    IsBest (unit_weights g) (small_level g.nodes) labels
components_best g labels graph full a = record {
  full = full;
  least = λ other long.
      let most = parts_most other in
      worth_parts (crossing g.ends (ones g.ends) labels) (crossing g.ends (ones g.ends) other) (crossing_edges g.ends labels) (crossing_edges g.ends other)
      (parts labels) (parts other) g.nodes (crossing_ones g.ends labels) (crossing_ones g.ends other) a.uncrossed (omega (arith, most, long)) (λ none. a.most other long none);
}

-- so one of two lists of components refines the other
components_refine : (g : WeightedGraph) (d r : List ℕ) → IsWeightedGraph g → length d ≡ g.nodes → length r ≡ g.nodes → AreComponents g d → AreComponents g r →
    Refines g.nodes r d
components_refine g d r graph full full' a b =
    let some = graph.some in
    let unit : IsParameter (small_level g.nodes) = omega (arith, ints, some) in
    refinement (unit_weights g) level_zero (small_level g.nodes) d r (unit_graph g graph) (omega (arith, ints)) unit (omega (arith, ints))
    (uncrossed_best (unit_weights g) level_zero d (unit_graph g graph) (omega (arith, ints)) refl full (crossing_ones g.ends d ∙ ap pos a.uncrossed))
    (components_best g r graph full' b)

pub one_partition : (g : WeightedGraph) (d r : List ℕ) → IsWeightedGraph g → IsPartition g.nodes d → IsPartition g.nodes r → AreComponents g d → AreComponents g r → d ≡ r
one_partition g d r graph p q a b =
    same_partition g.nodes d r p q (record { to = components_refine g r d graph q.full p.full b a; back = components_refine g d r graph p.full q.full a b })

pub one_blocked : (g : WeightedGraph) (x : Fraction) (d r : List ℕ) → IsWeightedGraph g → IsBlocked g x d → IsBlocked g x r → d ≡ r
one_blocked g x d r graph a b =
    one_partition g d r graph a.partition b.partition (record { uncrossed = a.uncrossed; most = a.most }) (record { uncrossed = b.uncrossed; most = b.most })

-- ---- both kinds of answers

pub answers_tell_the_same : (g : WeightedGraph) (x : Fraction) (a b : Reinforcement) → IsWeightedGraph g → Answers g x a → Answers g x b → TellTheSame a b
answers_tell_the_same g x (Added a) (Added b) graph h k = record {
  level = h.level_is ∙ sym k.level_is;
  cost = h.certificate.cost_is ∙ one_cost g x a.added b.added h.least k.least ∙ sym k.certificate.cost_is;
  thresholds = one_list_of_thresholds g.prices a.thresholds b.thresholds h.certificate.thresholds_are k.certificate.thresholds_are;
}
answers_tell_the_same g x (Added a) (Blocked r) graph h k = blocked_is_not_reached g x r 1 a.added graph (omega arith) k h.least.reaches
answers_tell_the_same g x (Blocked d) (Added b) graph h k = blocked_is_not_reached g x d 1 b.added graph (omega arith) h k.least.reaches
answers_tell_the_same g x (Blocked d) (Blocked r) graph h k = one_blocked g x d r graph h k
