-- The parts of the test of a principal partition.
use Rattle.std.proofs.Common.{◌≡◌, ℕ, ◌+◌, ◌<◌, ◌≤◌, List, [], length, get_or, arith, ap, sym, ◌∙◌, add-one}
use Rattle.std.specs.Prelude.{ℤ}
use Rattle.std.proofs.lemmas.List.{get_or_default}
use Rattle.pf_model.specs.Fraction.{Fraction}
use Rattle.pf_frame.specs.Lending.{row_at}
use Rattle.pf_graph.specs.WeightedGraph.{WeightedGraph}
use Rattle.pf_graph.specs.Labels.{parts}
use Rattle.pf_graph.specs.Best.{crossing_of, level_zero, level_at, partition_at}
use Rattle.pf_forest.specs.Forest.{MeetsTotal}
use Rattle.pf_principal.specs.Principal.{PrincipalAnswer, FitsGraph, CertifiesPrincipal, MeetsLevel}
use Rattle.pf_principal.specs.Testing.{MeetsBoth, MeetsStep, MeetsSteps, HasEnds}

pub same_both : (g : WeightedGraph) (x x' : Fraction) (v v' : List ℤ) (s s' : List (List ℤ)) (f f' : ℕ) (l l' r r' : List ℕ) → x ≡ x' → v ≡ v' → s ≡ s' → f ≡ f' →
    l ≡ l' → r ≡ r' → MeetsBoth g x v s f l r → MeetsBoth g x' v' s' f' l' r'
same_both g x x' v v' s s' f f' l l' r r' a b c d e h m = rw (← a, ← b, ← c, ← d, ← e, ← h) m

forest_from : (g : WeightedGraph) (a : PrincipalAnswer) (j i : ℕ) → length (partition_at a.partitions i) ≡ g.nodes → MeetsStep g a j →
    MeetsTotal g (level_at a.levels (j + 1)) (row_at a.vectors j) (partition_at a.partitions i) → MeetsLevel g a j i
forest_from g a j i full m sum = record {
  parameter = m.both.parameter;
  level = m.both.level;
  labels_full = full;
  range = m.both.range;
  splits_are = m.both.splits_are.each;
  sum = sum;
}

pub certified_from : (g : WeightedGraph) (a : PrincipalAnswer) (first last : List ℕ) (n : ℕ) → FitsGraph g a → first ≡ partition_at a.partitions 0 →
    last ≡ partition_at a.partitions (length a.levels) → HasEnds g first last → MeetsSteps g a n → length a.levels ≤ n → CertifiesPrincipal g a
certified_from g a first last n s e f ends steps all = record {
  rise = λ j low. (steps.each j (omega (arith, low, all))).rise;
  parts_rise = λ j low. (steps.each j (omega (arith, low, all))).parts_rise;
  first = ap (crossing_of g) (sym e) ∙ ends.uncrossed;
  last = ap parts (sym f) ∙ ends.single;
  left = λ j low. let m = steps.each j (omega (arith, low, all)) in forest_from g a j j (s.partition j (omega (arith, low))).full m m.both.with_left;
  right = λ j low. let m = steps.each j (omega (arith, low, all)) in forest_from g a j (j + 1) (s.partition (j + 1) (omega (arith, low))).full m m.both.with_right;
}

-- elements of lists that are known by an equation
pub partition_seen : (ps qs : List (List ℕ)) (i : ℕ) (r : List ℕ) → ps ≡ qs → r ≡ get_or ps i r → i < length qs → r ≡ partition_at qs i
partition_seen ps qs i r p e low = e ∙ ap (λ l. get_or l i r) p ∙ get_or_default qs i r [] low

pub level_seen : (ls ms : List Fraction) (j : ℕ) (r : Fraction) → ls ≡ ms → r ≡ get_or ls j r → j < length ms → r ≡ level_at ms (j + 1)
level_seen ls ms j r p e low = e ∙ ap (λ l. get_or l j r) p ∙ get_or_default ms j r level_zero low ∙ sym (ap (level_at ms) (add-one j))
