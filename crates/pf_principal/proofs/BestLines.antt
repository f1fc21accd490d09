-- Best partitions and least lines, and the principal partition from a lower envelope.
use Rattle.std.proofs.Common.{◌≡◌, ℕ, zero, suc, ◌+◌, ◌<◌, ◌≤◌, List, length, add-one, refl, arith, ap, sym, ◌∙◌, subst}
use Rattle.std.specs.Prelude.{pos}
use Rattle.std.proofs.lemmas.Int.{ints}
use Rattle.pf_model.specs.Fraction.{Fraction, IsParameter, IsBelow}
use Rattle.pf_model.specs.Line.{AffineLine, value_at}
use Rattle.pf_model.proofs.Certificate.{at_most_reflexive}
use Rattle.pf_envelope.specs.Envelope.{Segment, IsLowerEnvelope, IsLeastAt, left_end, segment_at}
use Rattle.pf_graph.specs.WeightedGraph.{WeightedGraph, IsWeightedGraph}
use Rattle.pf_graph.specs.Labels.{parts, IsPartition}
use Rattle.pf_graph.specs.Best.{crossing_of, partition_line, IsBest, level_zero, level_at, partition_at}
use Rattle.pf_graph.specs.Laws.{level_above}
use Rattle.pf_graph.proofs.Levels.{best_uncrossed, best_single}
use Rattle.pf_principal.specs.Lines.{IsPartitionFound, IsLineOfPartition}

-- ---- a best partition has a least line, and only it

pub least_line : (g : WeightedGraph) (x : Fraction) (line : AffineLine) (labels : List ℕ) → IsBest g x labels → line ≡ partition_line g labels → IsLeastAt (IsLineOfPartition g) line x
least_line g x line labels best e other o =
    let mine = ap (λ (l : AffineLine). value_at l x) e in
    let theirs = ap (λ (l : AffineLine). value_at l x) o.line_is in
    let most = best.least o.labels o.full in
    omega (arith, ints, most, mine, theirs)

pub best_of_least : (g : WeightedGraph) (x : Fraction) (line : AffineLine) (labels : List ℕ) → length labels ≡ g.nodes → line ≡ partition_line g labels →
    IsLeastAt (IsLineOfPartition g) line x → IsBest g x labels
best_of_least g x line labels full e least = record {
  full = full;
  least = λ other long.
      let most = least (partition_line g other) (record { labels = other; full = long; line_is = refl }) in
      let mine = ap (λ (l : AffineLine). value_at l x) e in
      omega (arith, ints, most, mine);
}

-- ---- the segments of an envelope, as levels and partitions

-- levels and partitions that belong to the segments: a level between each two
pub record Fits (g : WeightedGraph) (segments : List Segment) (levels : List Fraction) (partitions : List (List ℕ)) : Type 0 where
  pub count : length partitions ≡ length segments
  pub level_count : length segments ≡ length levels + 1
  pub right : (i : ℕ) → i < length levels → level_at levels (i + 1) ≡ (segment_at segments i).right
  pub found : (i : ℕ) → i < length segments → IsPartitionFound g (segment_at segments i).line (partition_at partitions i)

-- the envelope over all levels from 0 to one above which single vertices are best
abbrev pub IsWholeEnvelope : WeightedGraph → List Segment → Type 0
IsWholeEnvelope g segments = IsLowerEnvelope (IsLineOfPartition g) level_zero (level_above g) segments

left_is : (g : WeightedGraph) (segments : List Segment) (levels : List Fraction) (partitions : List (List ℕ)) → Fits g segments levels partitions →
    (i : ℕ) → i ≤ length levels → left_end level_zero segments i ≡ level_at levels i
left_is g segments levels partitions f zero low = refl
left_is g segments levels partitions f (suc i) low = sym (f.right i (omega arith)) ∙ ap (level_at levels) (add-one i)

best_right : (g : WeightedGraph) (segments : List Segment) (levels : List Fraction) (partitions : List (List ℕ)) → IsWholeEnvelope g segments → Fits g segments levels partitions →
    (i : ℕ) → i < length segments → IsBest g (segment_at segments i).right (partition_at partitions i)
best_right g segments levels partitions env f i low =
    let here = f.found i low in
    let x = (segment_at segments i).right in
    let rise = env.rise i low in
    best_of_least g x (segment_at segments i).line (partition_at partitions i) here.partition.full here.line_is
    (env.least i low x (env.parameters i low) (omega (arith, ints, rise)) (at_most_reflexive x))

best_left : (g : WeightedGraph) (segments : List Segment) (levels : List Fraction) (partitions : List (List ℕ)) → IsWholeEnvelope g segments → Fits g segments levels partitions →
    (i : ℕ) → i < length segments → IsParameter (left_end level_zero segments i) → IsBest g (left_end level_zero segments i) (partition_at partitions i)
best_left g segments levels partitions env f i low parameter =
    let here = f.found i low in
    let x = left_end level_zero segments i in
    let rise = env.rise i low in
    best_of_least g x (segment_at segments i).line (partition_at partitions i) here.partition.full here.line_is
    (env.least i low x parameter (at_most_reflexive x) (omega (arith, ints, rise)))

-- what the envelope says of levels and partitions
pub record AreBest (g : WeightedGraph) (levels : List Fraction) (partitions : List (List ℕ)) : Type 0 where
  pub count : length partitions ≡ length levels + 1
  pub partition : (j : ℕ) → j ≤ length levels → IsPartition g.nodes (partition_at partitions j)
  pub rise : (j : ℕ) → j < length levels → IsBelow (level_at levels j) (level_at levels (j + 1))
  pub parts_rise : (j : ℕ) → j < length levels → parts (partition_at partitions j) < parts (partition_at partitions (j + 1))
  pub first : crossing_of g (partition_at partitions 0) ≡ pos 0
  pub last : parts (partition_at partitions (length levels)) ≡ g.nodes
  pub left : (j : ℕ) → j < length levels → IsBest g (level_at levels (j + 1)) (partition_at partitions j)
  pub right : (j : ℕ) → j < length levels → IsBest g (level_at levels (j + 1)) (partition_at partitions (j + 1))

last_is : (high : Fraction) (low : Fraction) (segments : List Segment) (k : ℕ) → length segments ≡ k + 1 → left_end low segments (length segments) ≡ high →
    (segment_at segments k).right ≡ high
last_is high low segments k e covers = ap (left_end low segments) (sym (add-one k) ∙ sym e) ∙ covers

pub are_best : (g : WeightedGraph) (segments : List Segment) (levels : List Fraction) (partitions : List (List ℕ)) → IsWeightedGraph g → IsWholeEnvelope g segments →
    Fits g segments levels partitions → AreBest g levels partitions
are_best g segments levels partitions graph env f =
    let count = f.count in
    let level_count = f.level_count in
    let left = left_is g segments levels partitions f in
    let K = length levels in
    record {
      count = count ∙ level_count;
      partition = λ j low. (f.found j (omega (arith, low, level_count))).partition;
      rise = λ j low.
          let here = env.rise j (omega (arith, low, level_count)) in
          let P : Fraction → Type 0 = λ x. IsBelow x (level_at levels (j + 1)) in
          let Q : Fraction → Type 0 = λ x. IsBelow (left_end level_zero segments j) x in
          subst P (left j (omega arith)) (subst Q (sym (f.right j low)) here);
      parts_rise = λ j low.
          let here = env.slopes_fall j (omega (arith, low, level_count)) in
          let first = ap (λ (l : AffineLine). l.b) (f.found j (omega (arith, low, level_count))).line_is in
          let second = ap (λ (l : AffineLine). l.b) (f.found (j + 1) (omega (arith, low, level_count))).line_is in
          omega (arith, ints, here, first, second);
      first = best_uncrossed g level_zero (partition_at partitions 0) graph (omega (arith, ints)) refl
          (best_left g segments levels partitions env f 0 (omega (arith, level_count)) (omega (arith, ints)));
      last =
          let here = best_right g segments levels partitions env f K (omega (arith, level_count)) in
          let P : Fraction → Type 0 = λ x. IsBest g x (partition_at partitions K) in
          best_single g (partition_at partitions K) graph (subst P (last_is (level_above g) level_zero segments K level_count env.covers) here);
      left = λ j low.
          let P : Fraction → Type 0 = λ x. IsBest g x (partition_at partitions j) in
          subst P (sym (f.right j low)) (best_right g segments levels partitions env f j (omega (arith, low, level_count)));
      right = λ j low.
          let e = left (j + 1) (omega arith) in
          let P : Fraction → Type 0 = λ x. IsBest g x (partition_at partitions (j + 1)) in
          let same : left_end level_zero segments (j + 1) ≡ (segment_at segments j).right = e ∙ f.right j low in
          let R : Fraction → Type 0 = λ x. IsParameter x in
          subst P e (best_left g segments levels partitions env f (j + 1) (omega (arith, low, level_count))
          (subst R (sym same) (env.parameters j (omega (arith, low, level_count)))));
    }
