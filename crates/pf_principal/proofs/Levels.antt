-- Levels and partitions, from the parts of an envelope.
use Rattle.std.proofs.Common.{◌≡◌, ℕ, zero, suc, ◌+◌, ◌-◌, ◌<◌, List, [], ◌∷◌, ◌++◌, length, get_or, map, take, add-one, arith, ap, sym, ◌∙◌, subst}
use Rattle.std.specs.Prelude.{ℤ, pos, All}
use Rattle.std.proofs.lemmas.Int.{ints}
use Rattle.std.proofs.lemmas.List.{length-map, length-take, get_or-map, get_or-take, get_or_default, map_more}
use Rattle.std.proofs.Math.Nat.{eq-one_of_dvd-one}
use Rattle.std.proofs.lemmas.List.Elements.{All-push, All-nil}
use Rattle.pf_model.specs.Answer.{IsFractionShape}
use Rattle.pf_model.specs.Fraction.{Fraction, IsBelow, IsAtMost, IsLowest, lowest}
use Rattle.pf_model.specs.Line.{AffineLine}
use Rattle.pf_model.proofs.Certificate.{at_most_trans}
use Rattle.pf_model.proofs.Lowest.{lowest_stays}
use Rattle.pf_envelope.specs.Envelope.{Segment, IsLowerEnvelope, left_end, segment_at, no_segment}
use Rattle.pf_graph.specs.WeightedGraph.{WeightedGraph, IsWeightedGraph}
use Rattle.pf_graph.specs.Best.{level_zero, level_at, partition_at}
use Rattle.pf_graph.specs.Laws.{level_above}
use Rattle.pf_graph.proofs.Levels.{crossing_low, crossing_high}
use Rattle.pf_principal.specs.Lines.{IsPartitionFound, IsLineOfPartition, IsLevel}
use Rattle.pf_principal.proofs.BestLines.{Fits, IsWholeEnvelope, AreBest, are_best}

-- ---- right ends, one after another

-- the right ends of the first parts, and their shape
pub record AreRights {A : Type 0} (right : A → Fraction) (parts : List A) (i : ℕ) (levels : List Fraction) : Type 0 where
  pub levels_are : levels ≡ map right (take i parts)
  pub shape : All IsFractionShape levels

pub rights_begin : {A : Type 0} (right : A → Fraction) (parts : List A) (levels : List Fraction) → levels ≡ [] → AreRights right parts 0 levels
rights_begin right parts levels e = record { levels_are = e; shape = let P : List Fraction → Type 0 = λ xs. All IsFractionShape xs in subst P (sym e) (All-nil IsFractionShape) }

pub rights_more : {A : Type 0} (right : A → Fraction) (parts : List A) (i : ℕ) (item : A) (old new : List Fraction) → i < length parts → item ≡ get_or parts i item →
    AreRights right parts i old → new ≡ old ++ right item ∷ [] → IsFractionShape (right item) → AreRights right parts (i + 1) new
rights_more right parts i item old new low is known added shape = record {
  levels_are =
      let more = map_more right parts i item low in
      let here = ap right (sym is) in
      added ∙ ap (λ (xs : List Fraction). xs ++ right item ∷ []) known.levels_are
      ∙ ap (λ (x : Fraction). map right (take i parts) ++ x ∷ []) (sym here)
      ∙ sym more;
  shape =
      let P : List Fraction → Type 0 = λ xs. All IsFractionShape xs in
      subst P (sym added) (All-push IsFractionShape old (right item) known.shape shape);
}

-- ---- the segments, levels and partitions of one list of parts

right_at : {A : Type 0} (right : A → Fraction) (line : A → AffineLine) (parts : List A) (k i : ℕ) → i < k → k < length parts →
    level_at (map right (take k parts)) (i + 1) ≡ (segment_at (map (λ p. record { right = right p; line = line p }) parts) i).right
right_at right line [] k i low few = absurd (omega (arith, few))
right_at {A} right line (p ∷ parts) k i low few =
    let segment : A → Segment = λ q. record { right = right q; line = line q } in
    let long : length (take k (p ∷ parts)) ≡ k = length-take k (p ∷ parts) ∙ omega (arith, few) in
    let first = get_or-map right (take k (p ∷ parts)) i p level_zero (omega (arith, low, long)) in
    let front = ap right (get_or-take k (p ∷ parts) i p low) in
    let second = get_or-map segment (p ∷ parts) i p no_segment (omega (arith, low, few)) in
    ap (level_at (map right (take k (p ∷ parts)))) (add-one i) ∙ first ∙ front ∙ sym (ap (λ (x : Segment). x.right) second)

found_at : {A : Type 0} (g : WeightedGraph) (right : A → Fraction) (line : A → AffineLine) (labels : A → List ℕ) (parts : List A) →
    All (λ p. IsPartitionFound g (line p) (labels p)) parts → (i : ℕ) → i < length parts →
    IsPartitionFound g (segment_at (map (λ p. record { right = right p; line = line p }) parts) i).line (partition_at (map labels parts) i)
found_at g right line labels [] each i low = absurd (omega (arith, low))
found_at {A} g right line labels (p ∷ parts) each i low =
    let segment : A → Segment = λ q. record { right = right q; line = line q } in
    let first = get_or-map segment (p ∷ parts) i p no_segment low in
    let second = get_or-map labels (p ∷ parts) i p [] low in
    rw (first, second) (each i p low)

pub fit : {A : Type 0} (g : WeightedGraph) (right : A → Fraction) (line : A → AffineLine) (labels : A → List ℕ) (parts : List A) → 0 < length parts →
    All (λ p. IsPartitionFound g (line p) (labels p)) parts →
    Fits g (map (λ p. record { right = right p; line = line p }) parts) (map right (take (length parts - 1) parts)) (map labels parts)
fit {A} g right line labels parts some each =
    let segment : A → Segment = λ p. record { right = right p; line = line p } in
    let segments = length-map parts segment in
    let k = length parts - 1 in
    let levels = length-map (take k parts) right in
    let front = length-take k parts in
    record {
      count = length-map parts labels ∙ sym segments;
      level_count = omega (arith, segments, levels, front, some);
      right = λ i low. right_at right line parts k i (omega (arith, low, levels, front)) (omega (arith, some));
      found = λ i low. found_at g right line labels parts each i (omega (arith, low, segments));
    }

-- an envelope over an interval has a part
pub some_parts : {A : Type 0} (segment : A → Segment) (parts : List A) (low high : Fraction) → IsBelow low high →
    left_end low (map segment parts) (length (map segment parts)) ≡ high → 0 < length parts
some_parts segment [] low high below covers =
    let P : Fraction → Type 0 = λ x. IsBelow low x in
    let same = subst P (sym covers) below in
    absurd (omega (arith, ints, same))
some_parts segment (p ∷ parts) low high below covers = omega arith

-- ---- every level is above 0

above_zero : (g : WeightedGraph) (segments : List Segment) → IsWholeEnvelope g segments → (i : ℕ) → i < length segments → IsAtMost level_zero (segment_at segments i).right
above_zero g segments env zero low = let rise = env.rise 0 low in omega (arith, ints, rise)
above_zero g segments env (suc i) low =
    let before = above_zero g segments env i (omega (arith, low)) in
    let rise = env.rise (suc i) low in
    at_most_trans level_zero (segment_at segments i).right (segment_at segments (suc i)).right (omega (arith, ints)) (env.parameters i (omega (arith, low))) (env.parameters (suc i) low)
    before (omega (arith, ints, rise))

pub all_levels : (g : WeightedGraph) (segments : List Segment) (levels : List Fraction) (partitions : List (List ℕ)) → IsWholeEnvelope g segments →
    Fits g segments levels partitions → All IsLevel levels
all_levels g segments levels partitions env f = λ i d low.
    let inside : i < length segments = let count = f.level_count in omega (arith, low, count) in
    let e = sym (f.right i low) ∙ ap (level_at levels) (add-one i) ∙ get_or_default levels i level_zero d low in
    let P : Fraction → Type 0 = λ x. IsLevel x in
    subst P e (record { parameter = env.parameters i inside; low = above_zero g segments env i inside })

-- ---- as the code calls it: the parts were found in the graph `found`, which is this one

pub record IsSearched (g : WeightedGraph) (levels : List Fraction) (partitions : List (List ℕ)) : Type 0 where
  pub best : AreBest g levels partitions
  pub levels_are : All IsLevel levels

pub searched : {A : Type 0} (g found : WeightedGraph) (right : A → Fraction) (line : A → AffineLine) (labels : A → List ℕ) (parts listed : List A) (lo hi : Fraction)
    (levels : List Fraction) (partitions : List (List ℕ)) → IsWeightedGraph g → found ≡ g → lo ≡ level_zero → hi ≡ level_above g → listed ≡ parts → 0 < length parts →
    All (λ p. IsPartitionFound found (line p) (labels p)) parts →
    IsLowerEnvelope (IsLineOfPartition found) lo hi (map (λ p. record { right = right p; line = line p }) parts) →
    levels ≡ map right (take (length listed - 1) listed) → partitions ≡ map labels parts → IsSearched g levels partitions
searched {A} g found right line labels parts listed lo hi levels partitions graph is_found is_lo is_hi is_listed some each env is_levels is_partitions =
    let segment : A → Segment = λ p. record { right = right p; line = line p } in
    let each_here : All (λ p. IsPartitionFound g (line p) (labels p)) parts = rw is_found at each in
    let here : IsWholeEnvelope g (map segment parts) = rw (is_found, is_lo, is_hi) at env in
    let f = fit g right line labels parts some each_here in
    let K : List A → List Fraction = λ ps. map right (take (length ps - 1) ps) in
    let e : levels ≡ map right (take (length parts - 1) parts) = is_levels ∙ ap K is_listed in
    rw (e, is_partitions) (record {
      best = are_best g (map segment parts) (map right (take (length parts - 1) parts)) (map labels parts) graph here f;
      levels_are = all_levels g (map segment parts) (map right (take (length parts - 1) parts)) (map labels parts) here f;
    })

-- ---- whole numbers as levels

whole_lowest : (z : ℤ) → IsLowest (record { p = z; q = pos 1 })
whole_lowest z = record { alone = λ d by_p by_q. eq-one_of_dvd-one by_q }

-- a whole number is in lowest terms
pub whole_stays : (z : ℤ) → lowest (record { p = z; q = pos 1 }) ≡ record { p = z; q = pos 1 }
whole_stays z = lowest_stays (record { p = z; q = pos 1 }) (omega (arith, ints)) (whole_lowest z)

-- ---- the ends of the search

pub zero_served : (x : Fraction) → x ≡ level_zero → IsLevel x
zero_served x e = let P : Fraction → Type 0 = λ y. IsLevel y in subst P (sym e) (record { parameter = omega (arith, ints); low = omega (arith, ints) })

top_above : (g : WeightedGraph) → IsWeightedGraph g → IsBelow level_zero (level_above g)
top_above g graph =
    let low = crossing_low g [] graph in
    let high = crossing_high g [] graph in
    omega (arith, ints, low, high)

pub top_served : (g : WeightedGraph) (x : Fraction) → IsWeightedGraph g → x ≡ level_above g → IsLevel x
top_served g x graph e =
    let P : Fraction → Type 0 = λ y. IsLevel y in
    let above = top_above g graph in
    subst P (sym e) (record { parameter = omega (arith, ints); low = omega (arith, ints, above) })

pub ends_rise : (g : WeightedGraph) (x y : Fraction) → IsWeightedGraph g → x ≡ level_zero → y ≡ level_above g → IsBelow x y
ends_rise g x y graph e f =
    let P : Fraction → Type 0 = λ z. IsBelow z y in
    let Q : Fraction → Type 0 = λ z. IsBelow level_zero z in
    subst P (sym e) (subst Q (sym f) (top_above g graph))
