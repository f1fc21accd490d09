-- The certificate, once all edges are raised.
use Rattle.std.proofs.Common.{◌≡◌, ℕ, suc, ◌+◌, ◌^◌, ◌<◌, ◌≤◌, List, [], ◌∷◌, length, refl, Bool, true, false, cond, not, arith, ap, ◌∙◌, subst, zero-add}
use Rattle.std.specs.Prelude.{ℤ, ◌+ℤ◌, ◌-ℤ◌, ◌*ℤ◌, ◌≤ℤ◌, pos, int_lt, ◌==◌}
use Rattle.std.proofs.lemmas.Int.{ints, by_lt_z}
use Rattle.std.proofs.lemmas.Bool.{eq-eqb}
use Rattle.pf_model.specs.Cut.{at_arc}
use Rattle.pf_model.specs.Fraction.{Fraction}
use Rattle.pf_model.proofs.Integers.{mul_add}
use Rattle.pf_frame.specs.Lending.{row_at}
use Rattle.pf_graph.specs.WeightedGraph.{WeightedGraph, IsWeightedGraph, digraph_of, total}
use Rattle.pf_graph.specs.Labels.{label, parts, crossing_edges}
use Rattle.pf_graph.specs.Best.{crossing_of, partition_at}
use Rattle.pf_graph.specs.Limits.{IsWithinLimits}
use Rattle.pf_graph.proofs.Counting.{parts_some}
use Rattle.pf_forest.specs.Held.{tail_of, head_of}
use Rattle.pf_forest.specs.Forest.{ForestState, KeepsForest, IsFilled, IsSplit, IsKept, AddsSplits}
use Rattle.pf_forest.proofs.Filling.{edge_most}
use Rattle.pf_strength.proofs.Whole.{adds_here}
use Rattle.pf_reinforce.specs.Reinforcement.{AddedAnswer, CertifiesReinforcement, IsThreshold, cost_of_added, sum_from}
use Rattle.pf_reinforce.specs.Answer.{IsAdded}
use Rattle.pf_reinforce.specs.Raising.{IsAllRaised, IsConnectedAbove, IsLevelled, IsGain, AreSmall, sum_below}
use Rattle.pf_reinforce.proofs.Certificate.{certificate_is_least, uncrossed_sum}
use Rattle.pf_reinforce.proofs.Thresholds.{sum_is_total}

-- where both ends of each edge are in one part, none crosses
uncrossed_step : (u v k : ℕ) → u ≡ v → k ≡ 0 → cond (not (u == v)) 1 0 + k ≡ 0
uncrossed_step u v k e h = rw (e, eq-eqb v v refl) (omega (arith, h))

joined_uncrossed : (ends : List (ℕ × ℕ)) (labels : List ℕ) → ((i : ℕ) → i < length ends → label labels (tail_of ends i) ≡ label labels (head_of ends i)) → crossing_edges ends labels ≡ 0
joined_uncrossed [] labels same = refl
joined_uncrossed (edge ∷ ends) labels same =
    uncrossed_step (label labels edge.0) (label labels edge.1) (crossing_edges ends labels) (same 0 (omega arith))
    (joined_uncrossed ends labels (λ i low. same (suc i) (omega (arith, low))))

-- the sum of all numbers at the end
end_one : (t q c p : ℤ) (n k : ℕ) → t ≡ (q *ℤ c) +ℤ (p *ℤ (pos n -ℤ pos k)) → c ≡ pos 0 → k ≡ 1 → t ≡ p *ℤ (pos n -ℤ pos 1)
end_one t q c p n k e none one =
    let a = ap (λ z. q *ℤ z) none in
    let zero_q : q *ℤ pos 0 ≡ pos 0 = omega (arith, ints) in
    let b = ap (λ z. p *ℤ (pos n -ℤ pos z)) one in
    omega (arith, ints, e, a, zero_q, b)

end_none : (t q c p : ℤ) (n k : ℕ) → t ≡ (q *ℤ c) +ℤ (p *ℤ (pos n -ℤ pos k)) → c ≡ pos 0 → p ≡ pos 0 → t ≡ p *ℤ (pos n -ℤ pos 1)
end_none t q c p n k e none level =
    let a = ap (λ z. q *ℤ z) none in
    let zero_q : q *ℤ pos 0 ≡ pos 0 = omega (arith, ints) in
    let b = ap (λ z. z *ℤ (pos n -ℤ pos k)) level in
    let d = ap (λ z. z *ℤ (pos n -ℤ pos 1)) level in
    let zero_b : pos 0 *ℤ (pos n -ℤ pos k) ≡ pos 0 = omega (arith, ints) in
    let zero_d : pos 0 *ℤ (pos n -ℤ pos 1) ≡ pos 0 = omega (arith, ints) in
    omega (arith, ints, e, a, zero_q, b, d, zero_b, zero_d)

all_joined : (g : WeightedGraph) (x : Fraction) (first : List ℤ) (forest : ForestState) (thresholds : List ℤ) (partitions : List (List ℕ)) → IsWithinLimits g →
    IsAllRaised g x first forest thresholds partitions → crossing_edges g.ends forest.labels ≡ 0
all_joined g x first forest thresholds partitions l a =
    joined_uncrossed g.ends forest.labels (λ i low. a.raised.joined i low (let high = (l.prices i low).high in omega (arith, ints, high)))

one_of : (k : ℕ) → 0 < k → k ≤ 1 → k ≡ 1
one_of k low high = omega (arith, low, high)

end_sum : (g : WeightedGraph) (x : Fraction) (vector : List ℤ) (labels : List ℕ) → IsWithinLimits g → pos 0 ≤ℤ x.p → IsConnectedAbove g x → KeepsForest g x vector labels →
    crossing_edges g.ends labels ≡ 0 → total g.ends vector ≡ x.p *ℤ (pos g.nodes -ℤ pos 1)
end_sum g x vector labels l low c k none =
    let crossing = uncrossed_sum g.ends g.weights labels none in
    by_lt_z (pos 0) x.p
    (λ above.
    let some = parts_some labels (let f = k.partition.full in let s = l.graph.some in omega (arith, f, s)) in
    end_one (total g.ends vector) x.q (crossing_of g labels) x.p g.nodes (parts labels) k.sum.total_is crossing
    (one_of (parts labels) some (c.one above labels k.partition.full none)))
    (λ below. end_none (total g.ends vector) x.q (crossing_of g labels) x.p g.nodes (parts labels) k.sum.total_is crossing (omega (arith, ints, low, below)))

-- what is added from a price on
gain_step : (below : Bool) (a x y s t u : ℤ) → a ≡ x -ℤ y → s ≡ t -ℤ u → cond below (pos 0) a +ℤ s ≡ (cond below (pos 0) x +ℤ t) -ℤ (cond below (pos 0) y +ℤ u)
gain_step true a x y s t u e h = omega (arith, ints, e, h)
gain_step false a x y s t u e h = omega (arith, ints, e, h)

sum_of_gain : (c : ℤ) (prices first vector added : List ℤ) → length first ≡ length prices → length vector ≡ length prices → length added ≡ length prices →
    ((i : ℕ) → i < length prices → at_arc added i ≡ at_arc vector i -ℤ at_arc first i) → sum_from c prices added ≡ sum_from c prices vector -ℤ sum_from c prices first
sum_of_gain c [] first vector added k l m is = omega (arith, ints)
sum_of_gain c (price ∷ prices) [] vector added k l m is = absurd (omega (arith, k))
sum_of_gain c (price ∷ prices) (y ∷ first) [] added k l m is = absurd (omega (arith, l))
sum_of_gain c (price ∷ prices) (y ∷ first) (x ∷ vector) [] k l m is = absurd (omega (arith, m))
sum_of_gain c (price ∷ prices) (y ∷ first) (x ∷ vector) (a ∷ added) k l m is =
    gain_step (int_lt price c) a x y (sum_from c prices added) (sum_from c prices vector) (sum_from c prices first) (is 0 (omega arith))
    (sum_of_gain c prices first vector added (omega (arith, k)) (omega (arith, l)) (omega (arith, m)) (λ i low. is (suc i) (omega (arith, low))))

threshold_sum : (a below from first t q p c : ℤ) (n k : ℕ) → a ≡ from -ℤ first → below +ℤ from ≡ t → t ≡ p *ℤ (pos n -ℤ pos 1) →
    below +ℤ first ≡ (q *ℤ c) +ℤ (p *ℤ (pos n -ℤ pos k)) → a ≡ (p *ℤ (pos k -ℤ pos 1)) -ℤ (q *ℤ c)
threshold_sum a below from first t q p c n k e f g h =
    let gap : pos n -ℤ pos 1 ≡ (pos n -ℤ pos k) +ℤ (pos k -ℤ pos 1) = omega (arith, ints) in
    let s = ap (λ z. p *ℤ z) gap ∙ mul_add p (pos n -ℤ pos k) (pos k -ℤ pos 1) in
    omega (arith, ints, e, f, g, h, s)

-- the answer of these parts
abbrev pub answer_of : Fraction → ℤ → List ℤ → List ℤ → List ℤ → List (List ℕ) → List (List ℤ) → AddedAnswer
answer_of x cost added vector thresholds partitions splits = record {
  level = x;
  cost = cost;
  added = added;
  vector = vector;
  thresholds = thresholds;
  parts = partitions;
  splits = splits;
}

-- what stands when all edges are raised
pub record IsEnd (g : WeightedGraph) (x : Fraction) (first : List ℤ) (forest : ForestState) (added thresholds : List ℤ) (partitions : List (List ℕ)) (splits : List (List ℤ)) : Type 0 where
  pub low : pos 0 ≤ℤ x.p
  pub connected : IsConnectedAbove g x
  pub first_full : length first ≡ length g.ends
  pub first_high : (i : ℕ) → i < length g.ends → at_arc first i ≤ℤ (x.q *ℤ at_arc g.weights i)
  pub all : IsAllRaised g x first forest thresholds partitions
  pub keeps : KeepsForest g x forest.vector forest.labels
  pub gains : IsGain first forest.vector added
  pub splits_are : AddsSplits g x forest.vector [] splits g.nodes

-- numbers that can be paid for
pub are_small : (g : WeightedGraph) (x : Fraction) (first vector added : List ℤ) (labels : List ℕ) → IsWithinLimits g → x.p ≤ℤ pos (2 ^ 73) → KeepsForest g x vector labels →
    ((i : ℕ) → i < length g.ends → pos 0 ≤ℤ at_arc first i) → ((i : ℕ) → at_arc first i ≤ℤ at_arc vector i) → IsGain first vector added → AreSmall g added
are_small g x first vector added labels l high k low more gains = record {
  full = gains.full ∙ k.full;
  low = λ i in_range. let e = gains.is i (let f = k.full in omega (arith, in_range, f)) in let m = more i in omega (arith, ints, e, m);
  high = λ i in_range.
      let e = gains.is i (let f = k.full in omega (arith, in_range, f)) in
      let most = edge_most (digraph_of g) x.p vector i l.graph.graph k.sparse k.full k.low in_range (l.graph.apart i in_range) in
      let least = low i in_range in
      omega (arith, ints, e, most, least, high);
}

end_threshold : (g : WeightedGraph) (x : Fraction) (first vector added : List ℤ) (c : ℤ) (labels : List ℕ) → IsWeightedGraph g → length first ≡ length g.ends → length vector ≡ length g.ends →
    IsGain first vector added → total g.ends vector ≡ x.p *ℤ (pos g.nodes -ℤ pos 1) → IsLevelled g x first vector c labels → IsThreshold g x added c labels
end_threshold g x first vector added c labels graph first_full full gains sum v =
    let k = graph.prices_full in
    let a = sum_of_gain c g.prices first vector added (omega (arith, k, first_full)) (omega (arith, k, full)) (let f = gains.full in omega (arith, k, full, f))
    (λ i low. gains.is i (omega (arith, low, k, full))) in
    let t = sum_is_total c g.ends g.prices vector vector k full full (λ i low h. refl) in
    record {
      full = v.partition.full;
      dear = v.dear;
      sum = threshold_sum (sum_from c g.prices added) (sum_below c g.prices vector) (sum_from c g.prices vector) (sum_from c g.prices first) (total g.ends vector) x.q x.p
          (crossing_of g labels) g.nodes (parts labels) a t sum v.sum;
    }

pub certified : (g : WeightedGraph) (x : Fraction) (first : List ℤ) (forest : ForestState) (cost : ℤ) (added thresholds : List ℤ) (partitions : List (List ℕ)) (splits : List (List ℤ)) →
    IsWithinLimits g → cost ≡ cost_of_added g.prices added → IsEnd g x first forest added thresholds partitions splits →
    CertifiesReinforcement g (answer_of x cost added forest.vector thresholds partitions splits)
certified g x first forest cost added thresholds partitions splits l paid e =
    let k = e.keeps in
    let h = e.all.thresholds_are in
    let sum = end_sum g x forest.vector forest.labels l e.low e.connected k (all_joined g x first forest thresholds partitions l e.all) in
    record {
      parameter = k.parameter;
      level = e.low;
      reinforced = record {
        added_full = e.gains.full ∙ k.full;
        added_low = λ i low. let s = e.gains.is i (let f = k.full in omega (arith, low, f)) in let m = e.all.raised.more i in omega (arith, ints, s, m);
        vector_full = k.full;
        vector_low = k.low;
        vector_high = λ i low. let s = e.gains.is i (let f = k.full in omega (arith, low, f)) in let m = e.first_high i low in omega (arith, ints, s, m);
      };
      splits_are = λ r low. let R : ℕ → Type 0 = λ j. IsSplit (digraph_of g) x.p forest.vector (row_at splits j) r in subst R (zero-add r) (e.splits_are.splits.each r low);
      sum = sum;
      thresholds_are = record {
        rise = h.rise;
        occur = h.occur;
        all = λ i low. h.all i low (let high = (l.prices i (let f = l.graph.prices_full in omega (arith, low, f))).high in omega (arith, ints, high));
      };
      each = λ j low. end_threshold g x first forest.vector added (at_arc thresholds j) (partition_at partitions j) l.graph e.first_full k.full e.gains sum (h.levelled j low);
      cost_is = paid;
    }

pub is_added : (g : WeightedGraph) (x : Fraction) (first : List ℤ) (forest : ForestState) (cost : ℤ) (added thresholds : List ℤ) (partitions : List (List ℕ)) (splits : List (List ℤ)) →
    IsWithinLimits g → cost ≡ cost_of_added g.prices added → IsEnd g x first forest added thresholds partitions splits →
    IsAdded g x (answer_of x cost added forest.vector thresholds partitions splits)
is_added g x first forest cost added thresholds partitions splits l paid e =
    let c = certified g x first forest cost added thresholds partitions splits l paid e in
    let h = e.all.thresholds_are in
    record {
      level_is = refl;
      shape = record {
        count = h.count;
        partition = λ j low. (h.levelled j low).partition;
        rows = e.splits_are.rows ∙ zero-add g.nodes;
      };
      certificate = c;
      least = certificate_is_least g (answer_of x cost added forest.vector thresholds partitions splits) l.graph c;
    }

-- what the calls leave
pub end_of : (g : WeightedGraph) (x : Fraction) (start forest : ForestState) (added thresholds : List ℤ) (partitions : List (List ℕ)) (old splits : List (List ℤ)) → pos 0 ≤ℤ x.p →
    IsConnectedAbove g x → start.graph ≡ g → IsFilled start.graph x start.vector start.labels → IsAllRaised g x start.vector forest thresholds partitions → IsKept forest →
    IsGain start.vector forest.vector added → old ≡ [] → AddsSplits forest.graph x forest.vector old splits forest.graph.nodes →
    IsEnd g x start.vector forest added thresholds partitions splits
end_of g x start forest added thresholds partitions old splits low connected graph filled all kept gains e adds =
    let F : WeightedGraph → Type 0 = λ h. IsFilled h x start.vector start.labels in
    let f = subst F graph filled in
    let K : WeightedGraph → Type 0 = λ h. KeepsForest h x forest.vector forest.labels in
    let k = subst K all.raised.graph (kept.filled x all.raised.level) in
    record {
      low = low;
      connected = connected;
      first_full = f.range.full;
      first_high = f.range.high;
      all = all;
      keeps = k;
      gains = gains;
      splits_are = adds_here g x forest old splits all.raised.graph e adds;
    }

pub first_low : (g : WeightedGraph) (x : Fraction) (start : ForestState) → start.graph ≡ g → IsFilled start.graph x start.vector start.labels → (i : ℕ) → i < length g.ends → pos 0 ≤ℤ at_arc start.vector i
first_low g x start graph filled i low =
    let F : WeightedGraph → Type 0 = λ h. IsFilled h x start.vector start.labels in
    (subst F graph filled).range.low i low

pub keeps_here : (g : WeightedGraph) (x : Fraction) (first : List ℤ) (forest : ForestState) (thresholds : List ℤ) (partitions : List (List ℕ)) → IsAllRaised g x first forest thresholds partitions → IsKept forest →
    KeepsForest g x forest.vector forest.labels
keeps_here g x first forest thresholds partitions all kept =
    let K : WeightedGraph → Type 0 = λ h. KeepsForest h x forest.vector forest.labels in
    subst K all.raised.graph (kept.filled x all.raised.level)
