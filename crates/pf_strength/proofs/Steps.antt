-- The steps of Newton's iteration.
use Rattle.std.proofs.Common.{◌≡◌, ℕ, ◌<◌, ◌≤◌, List, length, arith, ap, sym, inl, inr, subst}
use Rattle.std.specs.Prelude.{ℤ, ◌+ℤ◌, ◌-ℤ◌, ◌*ℤ◌, ◌≤ℤ◌, ◌<ℤ◌, pos, Some}
use Rattle.std.proofs.lemmas.Int.{ints, by_lt_z}
use Rattle.std.proofs.lemmas.Bool.{cases_eq}
use Rattle.pf_model.specs.Fraction.{Fraction, IsParameter, IsBelow, IsEqual}
use Rattle.pf_model.proofs.Integers.{mul_add, mul_comm, mul_nonneg, mul_most, mul_less, nonneg_inverse, swap}
use Rattle.pf_graph.specs.WeightedGraph.{WeightedGraph, IsWeightedGraph, total}
use Rattle.pf_graph.specs.Labels.{parts, IsPartition, IsPartitionOf}
use Rattle.pf_graph.specs.Best.{crossing_of, partition_value, IsBest}
use Rattle.pf_graph.specs.Laws.{level_above}
use Rattle.pf_graph.proofs.Counting.{parts_some}
use Rattle.pf_graph.proofs.Levels.{crossing_low, crossing_high, single_best, fewer_parts}
use Rattle.pf_graph.proofs.SamePartition.{same_partition}
use Rattle.pf_forest.specs.Forest.{ForestState, IsFilled}
use Rattle.pf_forest.proofs.Law.{worth_of}
use Rattle.pf_strength.specs.Newton.{HasRatio, IsStep, IsLast}
use Rattle.pf_strength.proofs.Certificate.{worth_is}

-- a fraction that is equal to the crossing weight over the number of parts less one
pub ratio_of : (g : WeightedGraph) (y : Fraction) (labels : List ℕ) → IsWeightedGraph g → IsParameter y → 2 ≤ parts labels →
    IsEqual y (record { p = crossing_of g labels; q = pos (parts labels) -ℤ pos 1 }) → HasRatio g y labels
ratio_of g y labels graph parameter two e =
    let k1 : ℤ = pos (parts labels) -ℤ pos 1 in
    let c : ℤ = crossing_of g labels in
    let cross : y.p *ℤ k1 ≡ c *ℤ y.q = e in
    let turned = mul_comm c y.q in
    let low = crossing_low g labels graph in
    let product = mul_nonneg c y.q low (omega (arith, ints, parameter)) in
    let other = mul_comm k1 y.p in
    record {
      parameter = parameter;
      level = nonneg_inverse k1 y.p (omega (arith, ints, two)) (omega (arith, ints, cross, product, other));
      attained = omega (arith, ints, cross, turned);
    }

-- a ratio is below one more than the total weight
ratio_below : (g : WeightedGraph) (x : Fraction) (labels : List ℕ) → IsWeightedGraph g → HasRatio g x labels → 2 ≤ parts labels → IsBelow x (level_above g)
ratio_below g x labels graph r two =
    let t : ℤ = total g.ends g.weights in
    let parameter = r.parameter in
    let level = r.level in
    let high = crossing_high g labels graph in
    let a = mul_most x.p (pos 1) (pos (parts labels) -ℤ pos 1) level (omega (arith, ints, two)) in
    let b = mul_most x.q (crossing_of g labels) t (omega (arith, ints, parameter)) high in
    let c = mul_add x.q t (pos 1) in
    let d = mul_comm (t +ℤ pos 1) x.q in
    let e = r.attained in
    let one : x.p *ℤ pos 1 ≡ x.p = omega (arith, ints) in
    let one' : x.q *ℤ pos 1 ≡ x.q = omega (arith, ints) in
    omega (arith, ints, a, b, c, d, e, one, one', parameter)

-- a partition whose value at p/q is below 0 has a smaller ratio
below_of : (p q p' q' c k1 : ℤ) → pos 0 <ℤ k1 → pos 1 ≤ℤ q' → (q *ℤ c) <ℤ (p *ℤ k1) → q' *ℤ c ≡ p' *ℤ k1 → (p' *ℤ q) <ℤ (p *ℤ q')
below_of p q p' q' c k1 some parameter less same =
    let e1 = swap k1 p q' in
    let e2 = swap q' p k1 in
    let e3 = ap (λ z. p *ℤ z) (mul_comm q' k1) in
    let f1 = swap k1 p' q in
    let f2 = swap q p' k1 in
    let f3 = ap (λ z. p' *ℤ z) (mul_comm q k1) in
    let f4 = ap (λ z. q *ℤ z) same in
    let f5 = swap q q' c in
    let f6 = ap (λ z. q' *ℤ z) (mul_comm c q) in
    let more = mul_less q' (q *ℤ c) (p *ℤ k1) (omega (arith, ints, parameter)) less in
    by_lt_z (p' *ℤ q) (p *ℤ q') (λ here. here)
    (λ back. absurd (let most = mul_most k1 (p *ℤ q') (p' *ℤ q) (omega (arith, ints, some)) back in omega (arith, ints, e1, e2, e3, f1, f2, f3, f4, f5, f6, more, most)))

-- the value of a partition at its own ratio
own_worth : (g : WeightedGraph) (x : Fraction) (labels : List ℕ) → HasRatio g x labels → partition_value g labels x ≡ pos 0
own_worth g x labels r =
    let e = worth_is (crossing_of g labels) x.q x.p (parts labels) in
    let a = r.attained in
    omega (arith, ints, e, a)

pub step_begins : (g : WeightedGraph) (x : Fraction) (labels : List ℕ) (forest : ForestState) (found : ℤ) → IsWeightedGraph g → IsPartition g.nodes labels → parts labels ≡ g.nodes →
    2 ≤ g.nodes → HasRatio g x labels → forest.graph ≡ g → forest.level ≡ Some x → IsFilled g x forest.vector forest.labels → found ≡ partition_value g forest.labels x →
    IsStep g x labels forest found
step_begins g x labels forest found graph partition single two ratio same level filled is =
    let some : 2 ≤ parts labels = omega (arith, two, single) in
    record {
      partition = partition;
      two = some;
      ratio = ratio;
      above = record {
        above = level_above g;
        parameter = omega (arith, ints);
        below = ratio_below g x labels graph ratio some;
        best = single_best g labels graph partition.full single;
      };
      graph = same;
      level = level;
      filled = filled;
      found_is = is;
    }

-- a partition whose value is below 0 has at least two parts
two_of : (g : WeightedGraph) (x : Fraction) (labels : List ℕ) → IsWeightedGraph g → IsParameter x → 0 < length labels → partition_value g labels x <ℤ pos 0 → 2 ≤ parts labels
two_of g x labels graph parameter some less =
    let most = parts_some labels some in
    let e = worth_is (crossing_of g labels) x.q x.p (parts labels) in
    let low = crossing_low g labels graph in
    let product = mul_nonneg x.q (crossing_of g labels) (omega (arith, ints, parameter)) low in
    elim (cases_eq (parts labels) 1) [
      | inl one ↦
          let none : pos (parts labels) -ℤ pos 1 ≡ pos 0 = omega (arith, ints, one) in
          let f = ap (λ z. x.p *ℤ z) none in
          let zero_is : x.p *ℤ pos 0 ≡ pos 0 = omega (arith, ints) in
          absurd (omega (arith, ints, e, f, zero_is, product, less))
      | inr other ↦ omega (arith, most, other)
    ]

pub record IsBetter (g : WeightedGraph) (labels better : List ℕ) : Type 0 where
  pub two : 2 ≤ parts better
  pub fewer : parts better < parts labels

pub step_better : (g : WeightedGraph) (x : Fraction) (labels : List ℕ) (forest : ForestState) (found : ℤ) → IsWeightedGraph g → IsStep g x labels forest found → found <ℤ pos 0 →
    IsBetter g labels forest.labels
step_better g x labels forest found graph s less =
    let none = own_worth g x labels s.ratio in
    let is = s.found_is in
    let full = s.filled.keeps.partition.full in
    let some = graph.some in
    record {
      two = two_of g x forest.labels graph s.ratio.parameter (omega (arith, full, some)) (omega (arith, ints, is, less));
      fewer = fewer_parts g x s.above.above labels forest.labels s.ratio.parameter s.above.parameter s.above.below s.above.best full (omega (arith, ints, none, is, less));
    }

-- the partition by the label rule is the same list
pub same_labels : (n : ℕ) (labels regrouped : List ℕ) → IsPartition n labels → IsPartitionOf labels regrouped → labels ≡ regrouped
same_labels n labels regrouped p of =
    let P : ℕ → Type 0 = λ k. IsPartition k labels in
    same_partition (length labels) labels regrouped (subst P (sym p.full) p) of.partition of.same

pub step_goes_on : (g : WeightedGraph) (x y : Fraction) (labels regrouped : List ℕ) (forest next : ForestState) (found found' : ℤ) → IsWeightedGraph g → IsStep g x labels forest found →
    found <ℤ pos 0 → IsPartitionOf forest.labels regrouped → HasRatio g y regrouped → next.graph ≡ g → next.level ≡ Some y → IsFilled g y next.vector next.labels →
    found' ≡ partition_value g next.labels y → IsStep g y regrouped next found'
step_goes_on g x y labels regrouped forest next found found' graph s less of ratio same level filled is =
    let e = same_labels g.nodes forest.labels regrouped s.filled.keeps.partition of in
    let better = step_better g x labels forest found graph s less in
    let P : List ℕ → Type 0 = λ l. IsPartition g.nodes l in
    let B : List ℕ → Type 0 = λ l. IsBest g x l in
    let Q : List ℕ → Type 0 = λ l. 2 ≤ parts l in
    let two : 2 ≤ parts regrouped = subst Q e better.two in
    let W : List ℕ → Type 0 = λ l. partition_value g l x <ℤ pos 0 in
    let found_is = s.found_is in
    let worse : partition_value g regrouped x <ℤ pos 0 = subst W e (omega (arith, ints, found_is, less)) in
    let w = worth_is (crossing_of g regrouped) x.q x.p (parts regrouped) in
    record {
      partition = subst P e s.filled.keeps.partition;
      two = two;
      ratio = ratio;
      above = record {
        above = x;
        parameter = s.ratio.parameter;
        below = below_of x.p x.q y.p y.q (crossing_of g regrouped) (pos (parts regrouped) -ℤ pos 1) (omega (arith, ints, two)) ratio.parameter
            (omega (arith, ints, w, worse)) ratio.attained;
        best = subst B e s.filled.best;
      };
      graph = same;
      level = level;
      filled = filled;
      found_is = is;
    }

pub step_ends : (g : WeightedGraph) (x : Fraction) (labels : List ℕ) (forest : ForestState) (found : ℤ) → IsWeightedGraph g → IsStep g x labels forest found → pos 0 ≤ℤ found →
    IsLast g x labels forest
step_ends g x labels forest found graph s low =
    let none = own_worth g x labels s.ratio in
    let is = s.found_is in
    let best = s.filled.best.least labels s.partition.full in
    let a = worth_of (crossing_of g labels) x.q x.p g.nodes (parts labels) in
    let b = worth_of (crossing_of g forest.labels) x.q x.p g.nodes (parts forest.labels) in
    let sum = s.filled.keeps.sum.total_is in
    record {
      partition = s.partition;
      two = s.two;
      ratio = s.ratio;
      graph = s.graph;
      level = s.level;
      range = s.filled.range;
      sum = record { total_is = omega (arith, ints, none, is, best, a, b, sum, low) };
    }
