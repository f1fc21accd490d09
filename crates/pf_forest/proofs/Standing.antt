-- What the lists of a forest tell of its vector and its partition.
use Rattle.std.proofs.Common.{◌≡◌, ℕ, ◌+◌, ◌<◌, ◌^◌, List, [], ◌∷◌, ◌++◌, length, replicate, Bool, true, false, refl, length-append, arith, ap, sym, ◌∙◌, inl, inr, subst}
use Rattle.std.specs.Prelude.{ℤ, ◌+ℤ◌, ◌-ℤ◌, ◌*ℤ◌, ◌≤ℤ◌, pos, Some}
use Rattle.std.proofs.Math.ListN.{get_or-append}
use Rattle.std.proofs.Math.Seq.{get_or-append_seam}
use Rattle.std.proofs.lemmas.Int.{ints}
use Rattle.std.proofs.lemmas.Bool.{cases_eq}
use Rattle.pf_model.specs.Cut.{at_arc}
use Rattle.pf_model.specs.Digraph.{Digraph, IsDigraph}
use Rattle.pf_model.specs.Fraction.{Fraction, IsParameter}
use Rattle.pf_graph.specs.WeightedGraph.{WeightedGraph, IsWeightedGraph, digraph_of}
use Rattle.pf_graph.specs.Labels.{label, parts, IsPartition, IsSamePartition, IsPartitionOf, Refines}
use Rattle.pf_graph.specs.Limits.{IsWithinLimits}
use Rattle.pf_model.proofs.Integers.{mul_nonneg, mul_most, mul_comm}
use Rattle.pf_graph.proofs.ByRule.{same_parts, same_crossing}
use Rattle.pf_graph.proofs.Counting.{finer_parts, parts_most}
use Rattle.pf_graph.proofs.Levels.{singles, length_singles, parts_singles}
use Rattle.pf_forest.specs.Held.{tail_of, head_of}
use Rattle.pf_forest.specs.Forest.{IsInRange, MeetsTotal, HasForest, KeepsForest, IsFilled}
use Rattle.pf_forest.specs.Filling.{IsForest, CrossingAreFull, AreWithinGoals, IsGoals, AreGoalsOf, IsRaised, IsStanding, IsStandingAt, IsWhole, level_of}
use Rattle.pf_forest.specs.declared.workspace.Workspace.{Workspace}
use Rattle.pf_forest.proofs.Filling.{forest_starts}
use Rattle.pf_forest.proofs.Law.{full_sum, scaled_crossing, best_of_sum}
use Rattle.pf_forest.proofs.Sharing.{sparse_has_splits}

-- an edge that crosses after one was raised crossed before
pub crossing_stays : (g : Digraph) (goals old new : List ℤ) (groups joined : List ℕ) (e : ℕ) (goal : ℤ) → IsDigraph g → IsRaised g old groups new joined e goal →
    label joined (tail_of g.ends e) ≡ label joined (head_of g.ends e) → CrossingAreFull g goals old groups → CrossingAreFull g goals new joined
crossing_stays g goals old new groups joined e goal graph r same f = record {
  done = λ i low. elim (cases_eq i e) [
    | inl here ↦ inr (ap (λ k. label joined (tail_of g.ends k)) here ∙ same ∙ ap (λ k. label joined (head_of g.ends k)) (sym here))
    | inr other ↦ elim (f.done i low) [
      | inl full ↦ inl (r.others i other ∙ full)
      | inr joins ↦ inr (r.refines.joins _ _ (graph.tails i low) (graph.heads i low) joins)
    ]
  ];
}

pub nonneg_of : (g : Digraph) (limit : ℤ) (vector heads rooms : List ℤ) (groups : List ℕ) → IsForest g limit vector heads rooms groups → (i : ℕ) → i < length g.ends →
    pos 0 ≤ℤ at_arc vector i
nonneg_of g limit vector heads rooms groups f i low = let a = f.held.low i low in let b = f.held.high i low in omega (arith, ints, a, b)

partition_of : (g : WeightedGraph) (limit : ℤ) (vector heads rooms : List ℤ) (groups labels : List ℕ) → IsStanding g limit vector heads rooms groups labels →
    IsPartition g.nodes labels
partition_of g limit vector heads rooms groups labels s =
    let P : ℕ → Type 0 = λ n. IsPartition n labels in
    subst P s.forest.full s.labels_are.partition

pattern_of : (g : WeightedGraph) (limit : ℤ) (vector heads rooms : List ℤ) (groups labels : List ℕ) → IsStanding g limit vector heads rooms groups labels →
    IsSamePartition g.nodes groups labels
pattern_of g limit vector heads rooms groups labels s =
    let P : ℕ → Type 0 = λ n. IsSamePartition n groups labels in
    subst P s.forest.full s.labels_are.same

total_of : (g : WeightedGraph) (x : Fraction) (goals vector heads rooms : List ℤ) (groups labels : List ℕ) → IsWeightedGraph g →
    IsStanding g x.p vector heads rooms groups labels → IsStandingAt g x goals vector groups → MeetsTotal g x vector labels
total_of g x goals vector heads rooms groups labels graph s at_level =
    let e = full_sum (digraph_of g) x.p goals vector heads rooms groups graph.graph s.forest at_level.crossing in
    let sum = e.sum in
    let a = scaled_crossing g x.q goals groups at_level.goals_are.goals_are in
    let b = ap (λ z. x.q *ℤ z) (same_crossing (digraph_of g) g.weights groups labels graph.graph (pattern_of g x.p vector heads rooms groups labels s)) in
    let c = ap (λ n. x.p *ℤ (pos g.nodes -ℤ pos n)) (same_parts groups labels (sym s.labels_are.partition.full) s.labels_are.same) in
    record { total_is = omega (arith, ints, sum, a, b, c) }

pub keeps_of : (g : WeightedGraph) (x : Fraction) (goals vector heads rooms : List ℤ) (groups labels : List ℕ) → IsWeightedGraph g →
    IsStanding g x.p vector heads rooms groups labels → IsStandingAt g x goals vector groups → KeepsForest g x vector labels
keeps_of g x goals vector heads rooms groups labels graph s at_level = record {
  parameter = at_level.parameter;
  level = at_level.level;
  partition = partition_of g x.p vector heads rooms groups labels s;
  full = s.forest.held.vector_full;
  low = nonneg_of (digraph_of g) x.p vector heads rooms groups s.forest;
  sparse = s.forest.sparse;
  sum = total_of g x goals vector heads rooms groups labels graph s at_level;
}

-- the forest condition holds with some splits
forest_of : (g : WeightedGraph) (x : Fraction) (vector : List ℤ) (labels : List ℕ) → IsWeightedGraph g → KeepsForest g x vector labels → IsInRange g x vector →
    HasForest g x vector labels
forest_of g x vector labels graph k range = record {
  splits = λ r. (sparse_has_splits (digraph_of g) x.p vector r graph.graph k.level k.full k.low k.sparse).shares;
  meets = record {
    parameter = k.parameter;
    level = k.level;
    labels_full = k.partition.full;
    range = range;
    splits_are = λ r low. (sparse_has_splits (digraph_of g) x.p vector r graph.graph k.level k.full k.low k.sparse).split;
    sum = k.sum;
  };
}

pub filled_of : (g : WeightedGraph) (x : Fraction) (goals vector heads rooms : List ℤ) (groups labels : List ℕ) → IsWeightedGraph g →
    IsStanding g x.p vector heads rooms groups labels → IsStandingAt g x goals vector groups → AreWithinGoals (digraph_of g) goals vector → IsFilled g x vector labels
filled_of g x goals vector heads rooms groups labels graph s at_level within =
    let k = keeps_of g x goals vector heads rooms groups labels graph s at_level in
    let range : IsInRange g x vector = record {
      full = k.full;
      low = k.low;
      high = λ i low. let a = within.within i low in let e = at_level.goals_are.goals_are i low in omega (arith, ints, a, e);
    } in
    record {
      keeps = k;
      range = range;
      forest = forest_of g x vector labels graph k range;
      best = best_of_sum g x vector labels graph.graph k.partition.full k.sparse range k.sum;
    }

-- each vertex a group by itself: as many parts as vertices
pub own_parts : (groups labels : List ℕ) → ((v : ℕ) → v < length groups → label groups v ≡ v) → IsPartitionOf groups labels → parts labels ≡ length groups
own_parts groups labels own p =
    let n : ℕ = length groups in
    let long = length_singles n in
    let fine : Refines (length groups) groups (singles n) = record {
      joins = λ u v low_u low_v same. ap (label (singles n)) (sym (own u low_u) ∙ same ∙ own v low_v);
    } in
    let least = finer_parts groups (singles n) (sym long) fine in
    let most = parts_most groups in
    let all = parts_singles n in
    let same = same_parts groups labels (sym p.partition.full) p.same in
    omega (arith, least, most, all, same)

-- before the first filling
pub standing_starts : (g : WeightedGraph) (vector heads rooms : List ℤ) (groups labels : List ℕ) → vector ≡ replicate (length g.ends) (pos 0) →
    heads ≡ replicate (length g.ends) (pos 0) → rooms ≡ replicate g.nodes (pos 0) → length groups ≡ g.nodes → ((v : ℕ) → v < g.nodes → label groups v ≡ v) →
    IsPartitionOf groups labels → IsStanding g (pos 0) vector heads rooms groups labels
standing_starts g vector heads rooms groups labels a b c full own p = record {
  forest = forest_starts (digraph_of g) (pos 0) vector heads rooms groups (omega (arith, ints)) (omega (arith, ints)) a b c full own;
  labels_are = p;
}

-- the level that contracts see is the one that is kept
pub level_seen : (filled : Bool) (x y : Fraction) → level_of filled x ≡ Some y → (filled ≡ true) × (x ≡ y)
level_seen true x y e = (refl, cc)
level_seen false x y e = absurd cc

pub kept_of : (g : WeightedGraph) (filled : Bool) (x : Fraction) (goals vector heads rooms : List ℤ) (groups labels : List ℕ) (workspace : Workspace) →
    IsWeightedGraph g → IsWhole g filled x goals vector heads rooms groups labels workspace → (y : Fraction) → level_of filled x ≡ Some y →
    KeepsForest g y vector labels
kept_of g filled x goals vector heads rooms groups labels workspace graph w y e =
    let seen = level_seen filled x y e in
    let P : Fraction → Type 0 = λ z. KeepsForest g z vector labels in
    subst P seen.1 (keeps_of g x goals vector heads rooms groups labels graph w.standing (w.at_level seen.0))

-- after one edge was raised
pub raised_at : (g : WeightedGraph) (x : Fraction) (goals old new : List ℤ) (groups joined : List ℕ) (e : ℕ) (goal : ℤ) → IsWeightedGraph g →
    IsRaised (digraph_of g) old groups new joined e goal → label joined (tail_of g.ends e) ≡ label joined (head_of g.ends e) →
    IsStandingAt g x goals old groups → IsStandingAt g x goals new joined
raised_at g x goals old new groups joined e goal graph r same s = record {
  parameter = s.parameter;
  level = s.level;
  goals_are = s.goals_are;
  crossing = crossing_stays (digraph_of g) goals old new groups joined e goal graph.graph r same s.crossing;
}

-- groups that only join make a coarser partition
pub coarser_of : (n : ℕ) (groups joined labels labels' : List ℕ) → length groups ≡ n → length joined ≡ n → IsPartitionOf groups labels → IsPartitionOf joined labels' →
    Refines n groups joined → Refines n labels labels'
coarser_of n groups joined labels labels' full full' p p' r = record {
  joins = λ u v low_u low_v same.
      p'.same.to.joins u v (omega (arith, low_u, full')) (omega (arith, low_v, full'))
      (r.joins u v low_u low_v (p.same.back.joins u v (omega (arith, low_u, full)) (omega (arith, low_v, full)) same));
}

-- one group more, that of the next vertex
pub own_more : (xs ys : List ℕ) (v : ℕ) → ys ≡ xs ++ v ∷ [] → length xs ≡ v → ((w : ℕ) → w < v → label xs w ≡ w) →
    (length ys ≡ v + 1) × ((w : ℕ) → w < v + 1 → label ys w ≡ w)
own_more xs ys v e full own =
    rw e (
      omega (arith, length-append xs (v ∷ []), full),
      λ w low. elim (cases_eq w v) [
        | inl here ↦ ap (λ k. label (xs ++ v ∷ []) k) (here ∙ sym full) ∙ get_or-append_seam xs v [] 0 ∙ sym here
        | inr other ↦ get_or-append xs (v ∷ []) 0 w (omega (arith, low, other, full)) ∙ own w (omega (arith, low, other))
      ],
    )

-- the same, of a graph and a limit that are known by equations
pub forest_here : (g g' : Digraph) (limit limit' : ℤ) (vector heads rooms : List ℤ) (groups : List ℕ) → g ≡ g' → limit ≡ limit' →
    IsForest g limit vector heads rooms groups → IsForest g' limit' vector heads rooms groups
forest_here g g' limit limit' vector heads rooms groups e f x =
    let P : Digraph → Type 0 = λ h. IsForest h limit vector heads rooms groups in
    let Q : ℤ → Type 0 = λ l. IsForest g' l vector heads rooms groups in
    subst Q f (subst P e x)

pub goals_here : (g : WeightedGraph) (frame : Digraph) (q q' : ℤ) (goals : List ℤ) → frame ≡ digraph_of g → IsWithinLimits g → pos 1 ≤ℤ q → q ≤ℤ pos (2 ^ 46) → q' ≡ q →
    AreGoalsOf g q' goals → IsGoals frame goals
goals_here g frame q q' goals e l parameter high same a =
    let P : Digraph → Type 0 = λ h. IsGoals h goals in
    subst P (sym e) (record {
      goals_full = a.goals_full;
      goals_low = λ i low.
          let w = (l.weights i low).low in
          let is = a.goals_are i low in
          let product = mul_nonneg q' (at_arc g.weights i) (omega (arith, ints, parameter, same)) (omega (arith, ints, w)) in
          omega (arith, ints, is, product);
      goals_high = λ i low.
          let w = (l.weights i low).high in
          let is = a.goals_are i low in
          let product = mul_most q' (at_arc g.weights i) (pos 1000000) (omega (arith, ints, parameter, same)) w in
          omega (arith, ints, is, product, high, same);
    })

pub level_here : (g : WeightedGraph) (frame : Digraph) (x : Fraction) (q' : ℤ) (goals vector : List ℤ) (groups : List ℕ) → frame ≡ digraph_of g → IsParameter x → pos 0 ≤ℤ x.p →
    q' ≡ x.q → AreGoalsOf g q' goals → CrossingAreFull frame goals vector groups → IsStandingAt g x goals vector groups
level_here g frame x q' goals vector groups e parameter low same a crossing =
    let P : Digraph → Type 0 = λ h. CrossingAreFull h goals vector groups in
    let Q : ℤ → Type 0 = λ q. AreGoalsOf g q goals in
    record {
      parameter = parameter;
      level = low;
      goals_are = subst Q same a;
      crossing = subst P e crossing;
    }

pub raised_here : (g : WeightedGraph) (x : Fraction) (goals old new : List ℤ) (groups groups' joined : List ℕ) (e : ℕ) (goal : ℤ) → IsWeightedGraph g → groups' ≡ groups →
    IsRaised (digraph_of g) old groups' new joined e goal → label joined (tail_of g.ends e) ≡ label joined (head_of g.ends e) →
    IsStandingAt g x goals old groups → IsStandingAt g x goals new joined
raised_here g x goals old new groups groups' joined e goal graph same r met s =
    let P : List ℕ → Type 0 = λ l. IsRaised (digraph_of g) old l new joined e goal in
    raised_at g x goals old new groups joined e goal graph (subst P same r) met s

pub total_here : (a b c d q p : ℤ) → a ≡ c → b ≡ d → (a *ℤ q) +ℤ (b *ℤ p) ≡ (q *ℤ c) +ℤ (p *ℤ d)
total_here a b c d q p e f =
    let x = ap (λ z. z *ℤ q) e in
    let y = ap (λ z. z *ℤ p) f in
    let m = mul_comm c q in
    let n = mul_comm d p in
    omega (arith, ints, x, y, m, n)
