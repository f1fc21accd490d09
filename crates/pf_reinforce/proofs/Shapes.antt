-- Right answers have the right shape: no number of theirs is above the level times the number of vertices less one.
use Rattle.std.proofs.Common.{◌≡◌, ℕ, zero, suc, ◌+◌, ◌*◌, ◌<◌, ◌≤◌, ◌^◌, List, [], ◌∷◌, length, Bool, true, false, cond, arith, sym, subst}
use Rattle.std.specs.Prelude.{ℤ, ◌+ℤ◌, ◌-ℤ◌, ◌*ℤ◌, ◌≤ℤ◌, pos, int_lt, All}
use Rattle.std.proofs.lemmas.Int.{ints}
use Rattle.std.proofs.lemmas.List.{get_or_default}
use Rattle.pf_model.specs.Fraction.{Fraction}
use Rattle.pf_model.specs.Answer.{IsFractionShape, IsWithinSize}
use Rattle.pf_model.specs.Cut.{at_arc}
use Rattle.pf_model.proofs.Integers.{mul_most, mul_nonneg, mul_comm}
use Rattle.pf_frame.specs.Lending.{row_at}
use Rattle.pf_frame.specs.Numbers.{IsSized}
use Rattle.pf_graph.specs.WeightedGraph.{WeightedGraph, digraph_of, total}
use Rattle.pf_graph.specs.Labels.{parts, IsPartition}
use Rattle.pf_graph.specs.Best.{crossing_of, partition_at}
use Rattle.pf_graph.specs.Limits.{IsWithinLimits}
use Rattle.pf_graph.proofs.Counting.{parts_most}
use Rattle.pf_graph.proofs.Levels.{crossing_low}
use Rattle.pf_reinforce.specs.declared.reinforcement.Reinforcement.{Reinforcement}
use Rattle.pf_reinforce.specs.declared.reinforcement.Reinforcement.TheVariants.{Added, Blocked}
use Rattle.pf_reinforce.specs.Reinforcement.{AddedAnswer, CertifiesReinforcement, cost_of_added, sum_from}
use Rattle.pf_reinforce.specs.Answer.{Answers, IsAdded, IsSizedAdded, IsReinforcementShape}

-- ---- no number is above a sum of numbers that are not below 0

first_low : (x : ℤ) (numbers : List ℤ) → ((i : ℕ) → i < length (x ∷ numbers) → pos 0 ≤ℤ at_arc (x ∷ numbers) i) → pos 0 ≤ℤ x
first_low x numbers low = low 0 (omega arith)

others_low : (x : ℤ) (numbers : List ℤ) → ((i : ℕ) → i < length (x ∷ numbers) → pos 0 ≤ℤ at_arc (x ∷ numbers) i) → (i : ℕ) → i < length numbers → pos 0 ≤ℤ at_arc numbers i
others_low x numbers low i h = low (suc i) (omega (arith, h))

total_low : (ends : List (ℕ × ℕ)) (numbers : List ℤ) → ((i : ℕ) → i < length numbers → pos 0 ≤ℤ at_arc numbers i) → pos 0 ≤ℤ total ends numbers
total_low [] numbers low = omega (arith, ints)
total_low (edge ∷ ends) [] low = omega (arith, ints)
total_low (edge ∷ ends) (x ∷ numbers) low =
    let here = first_low x numbers low in
    let rest = total_low ends numbers (others_low x numbers low) in
    omega (arith, ints, here, rest)

total_holds : (ends : List (ℕ × ℕ)) (numbers : List ℤ) (i : ℕ) → length numbers ≡ length ends → ((k : ℕ) → k < length numbers → pos 0 ≤ℤ at_arc numbers k) → i < length numbers →
    at_arc numbers i ≤ℤ total ends numbers
total_holds ends [] i full low h = absurd (omega (arith, h))
total_holds [] (x ∷ numbers) i full low h = absurd (omega (arith, full))
total_holds (edge ∷ ends) (x ∷ numbers) zero full low h = let rest = total_low ends numbers (others_low x numbers low) in omega (arith, ints, rest)
total_holds (edge ∷ ends) (x ∷ numbers) (suc i) full low h =
    let here = first_low x numbers low in
    let rest = total_holds ends numbers i (omega (arith, full)) (others_low x numbers low) (omega (arith, h)) in
    omega (arith, ints, here, rest)

from_step : (t : Bool) (x : ℤ) → pos 0 ≤ℤ x → pos 0 ≤ℤ cond t (pos 0) x
from_step true x low = omega (arith, ints)
from_step false x low = low

from_low : (c : ℤ) (prices numbers : List ℤ) → ((i : ℕ) → i < length numbers → pos 0 ≤ℤ at_arc numbers i) → pos 0 ≤ℤ sum_from c prices numbers
from_low c [] numbers low = omega (arith, ints)
from_low c (price ∷ prices) [] low = omega (arith, ints)
from_low c (price ∷ prices) (x ∷ numbers) low =
    let here = from_step (int_lt price c) x (first_low x numbers low) in
    let rest = from_low c prices numbers (others_low x numbers low) in
    omega (arith, ints, here, rest)

from_here : (c price x rest : ℤ) → c ≤ℤ price → pos 0 ≤ℤ rest → x ≤ℤ (cond (int_lt price c) (pos 0) x +ℤ rest)
from_here c price x rest dear low = let e : int_lt price c ≡ false = grind (arith, ints) in rw e (omega (arith, ints, low))

from_holds : (c : ℤ) (prices numbers : List ℤ) (i : ℕ) → length numbers ≡ length prices → ((k : ℕ) → k < length numbers → pos 0 ≤ℤ at_arc numbers k) → i < length numbers →
    c ≤ℤ at_arc prices i → at_arc numbers i ≤ℤ sum_from c prices numbers
from_holds c prices [] i full low h dear = absurd (omega (arith, h))
from_holds c [] (x ∷ numbers) i full low h dear = absurd (omega (arith, full))
from_holds c (price ∷ prices) (x ∷ numbers) zero full low h dear = from_here c price x (sum_from c prices numbers) dear (from_low c prices numbers (others_low x numbers low))
from_holds c (price ∷ prices) (x ∷ numbers) (suc i) full low h dear =
    let here = from_step (int_lt price c) x (first_low x numbers low) in
    let rest = from_holds c prices numbers i (omega (arith, full)) (others_low x numbers low) (omega (arith, h)) dear in
    omega (arith, ints, here, rest)

-- ---- so none is above 2 ^ 82

level_high : (p : ℤ) (n : ℕ) → pos 0 ≤ℤ p → p ≤ℤ pos (2 ^ 73) → 1 ≤ n → n ≤ 500 → (p *ℤ (pos n -ℤ pos 1)) ≤ℤ pos (2 ^ 82)
level_high p n low high some few =
    let a = mul_most p (pos n -ℤ pos 1) (pos 512) low (omega (arith, ints, few)) in
    omega (arith, ints, a, high)

threshold_high : (p q crossing sum : ℤ) (k n : ℕ) → pos 0 ≤ℤ p → pos 1 ≤ℤ q → pos 0 ≤ℤ crossing → k ≤ n → sum ≡ (p *ℤ (pos k -ℤ pos 1)) -ℤ (q *ℤ crossing) →
    sum ≤ℤ (p *ℤ (pos n -ℤ pos 1))
threshold_high p q crossing sum k n low q_low c_low few e =
    let a = mul_most p (pos k -ℤ pos 1) (pos n -ℤ pos 1) low (omega (arith, ints, few)) in
    let b = mul_nonneg q crossing (omega (arith, ints, q_low)) c_low in
    omega (arith, ints, a, b, e)

added_high : (g : WeightedGraph) (a : AddedAnswer) → IsWithinLimits g → CertifiesReinforcement g a → a.level.p ≤ℤ pos (2 ^ 73) → (i : ℕ) → i < length g.ends → at_arc a.added i ≤ℤ pos (2 ^ 82)
added_high g a limits c high i h =
    let graph = limits.graph in
    let full : length a.added ≡ length g.ends = c.reinforced.added_full in
    let prices : length g.prices ≡ length g.ends = graph.prices_full in
    let among = c.thresholds_are.all i (omega (arith, h, prices)) in
    let j = among.place in
    let t = c.each j among.in_range in
    let there = among.there in
    let labels = partition_at a.parts j in
    let few = parts_most labels in
    let wide : length labels ≡ g.nodes = t.full in
    let sum = threshold_high a.level.p a.level.q (crossing_of g labels) (sum_from (at_arc a.thresholds j) g.prices a.added) (parts labels) g.nodes
    c.level c.parameter (crossing_low g labels graph) (omega (arith, few, wide)) t.sum in
    let holds = from_holds (at_arc a.thresholds j) g.prices a.added i (omega (arith, full, prices)) (λ k low. c.reinforced.added_low k (omega (arith, low, full))) (omega (arith, h, full))
    (omega (arith, ints, there)) in
    let top = level_high a.level.p g.nodes c.level high graph.some limits.nodes in
    omega (arith, ints, sum, holds, top)

vector_high : (g : WeightedGraph) (a : AddedAnswer) → IsWithinLimits g → CertifiesReinforcement g a → a.level.p ≤ℤ pos (2 ^ 73) → (i : ℕ) → i < length g.ends → at_arc a.vector i ≤ℤ pos (2 ^ 82)
vector_high g a limits c high i h =
    let full : length a.vector ≡ length g.ends = c.reinforced.vector_full in
    let holds = total_holds g.ends a.vector i full (λ k low. c.reinforced.vector_low k (omega (arith, low, full))) (omega (arith, h, full)) in
    let sum = c.sum in
    let top = level_high a.level.p g.nodes c.level high limits.graph.some limits.nodes in
    omega (arith, ints, holds, sum, top)

sized : (g : WeightedGraph) (numbers : List ℤ) → length numbers ≡ length g.ends → ((i : ℕ) → i < length g.ends → pos 0 ≤ℤ at_arc numbers i) →
    ((i : ℕ) → i < length g.ends → at_arc numbers i ≤ℤ pos (2 ^ 82)) → IsSized (digraph_of g) numbers
sized g numbers full low high = record {
  full = full;
  low = λ i h. let l = low i h in omega (arith, ints, l);
  high = λ i h. let m = high i h in omega (arith, ints, m);
}

-- ---- the cost

pay_high : (price x : ℤ) → pos 0 ≤ℤ price → price ≤ℤ pos (2 ^ 20) → pos 0 ≤ℤ x → x ≤ℤ pos (2 ^ 82) → (price *ℤ x) ≤ℤ pos (2 ^ 102)
pay_high price x p q m n =
    let a = mul_most price x (pos (2 ^ 82)) p n in
    let b = mul_comm price (pos (2 ^ 82)) in
    omega (arith, ints, a, b, q)

record IsCostUpTo (count : ℕ) (cost : ℤ) : Type 0 where
  low : pos 0 ≤ℤ cost
  high : cost ≤ℤ pos (count * 2 ^ 102)

cost_step : (count : ℕ) (paid rest : ℤ) → pos 0 ≤ℤ paid → paid ≤ℤ pos (2 ^ 102) → IsCostUpTo count rest → IsCostUpTo (suc count) (paid +ℤ rest)
cost_step count paid rest low high r =
    let r_low = r.low in
    let r_high = r.high in
    record { low = omega (arith, ints, low, r_low); high = omega (arith, ints, high, r_high) }

cost_up_to : (prices numbers : List ℤ) → length numbers ≡ length prices → ((i : ℕ) → i < length prices → (pos 0 ≤ℤ at_arc prices i) × (at_arc prices i ≤ℤ pos (2 ^ 20))) →
    ((i : ℕ) → i < length prices → (pos 0 ≤ℤ at_arc numbers i) × (at_arc numbers i ≤ℤ pos (2 ^ 82))) → IsCostUpTo (length prices) (cost_of_added prices numbers)
cost_up_to [] numbers full p x = record { low = omega (arith, ints); high = omega (arith, ints) }
cost_up_to (price ∷ prices) [] full p x = absurd (omega (arith, full))
cost_up_to (price ∷ prices) (n ∷ numbers) full p x =
    let a = p 0 (omega arith) in
    let b = x 0 (omega arith) in
    cost_step (length prices) (price *ℤ n) (cost_of_added prices numbers) (mul_nonneg price n a.0 b.0) (pay_high price n a.0 a.1 b.0 b.1)
    (cost_up_to prices numbers (omega (arith, full)) (λ i h. p (suc i) (omega (arith, h))) (λ i h. x (suc i) (omega (arith, h))))

cost_size : (count : ℕ) (cost : ℤ) → count ≤ 5000 → IsCostUpTo count cost → IsWithinSize (2 ^ 127) cost
cost_size count cost few c = let l = c.low in let h = c.high in record { low = omega (arith, ints, l); high = omega (arith, ints, h, few) }

-- ---- the whole answer

thresholds_size : (g : WeightedGraph) (a : AddedAnswer) → IsWithinLimits g → CertifiesReinforcement g a → All (IsWithinSize (2 ^ 104)) a.thresholds
thresholds_size g a limits c = λ j d h.
    let among = c.thresholds_are.occur j h in
    let there = among.there in
    let in_range = among.in_range in
    let prices = limits.graph.prices_full in
    let small = limits.prices among.place (omega (arith, in_range, prices)) in
    let low = small.low in
    let high = small.high in
    subst (IsWithinSize (2 ^ 104)) (get_or_default a.thresholds j (pos 0) d h)
    (record { low = omega (arith, ints, there, low); high = omega (arith, ints, there, high) })

sized_added : (g : WeightedGraph) (x : Fraction) (a : AddedAnswer) → IsWithinLimits g → IsFractionShape x → IsAdded g x a → IsSizedAdded g a
sized_added g x a limits shape r =
    let c = r.certificate in
    let level : IsFractionShape a.level = subst IsFractionShape (sym r.level_is) shape in
    let high = level.bounds.p_high in
    let prices = limits.graph.prices_full in
    let edges = limits.edges in
    let full = c.reinforced.added_full in
    let count = r.shape.count in
    let rows = r.shape.rows in
    let cost = cost_size (length g.prices) (cost_of_added g.prices a.added) (omega (arith, prices, edges)) (cost_up_to g.prices a.added (omega (arith, full, prices))
    (λ i h. let s = limits.prices i (omega (arith, h, prices)) in let l = s.low in let m = s.high in (omega (arith, ints, l), omega (arith, ints, m)))
    (λ i h. (c.reinforced.added_low i (omega (arith, h, prices)), added_high g a limits c high i (omega (arith, h, prices))))) in
    record {
      level = level;
      cost = subst (IsWithinSize (2 ^ 127)) (sym c.cost_is) cost;
      added = sized g a.added full c.reinforced.added_low (added_high g a limits c high);
      vector = sized g a.vector c.reinforced.vector_full c.reinforced.vector_low (vector_high g a limits c high);
      thresholds = thresholds_size g a limits c;
      count = count;
      parts = λ j d h. subst (IsPartition g.nodes) (get_or_default a.parts j [] d h) (r.shape.partition j (omega (arith, h, count)));
      rows = rows;
      splits = λ v d h.
          let s = c.splits_are v (omega (arith, h, rows)) in
          subst (IsSized (digraph_of g)) (get_or_default a.splits v [] d h)
          (sized g (row_at a.splits v) s.full s.low (λ i low. let m = s.high i low in let top = vector_high g a limits c high i low in omega (arith, ints, m, top)));
    }

pub right_shape : (g : WeightedGraph) (x : Fraction) (answer : Reinforcement) → IsWithinLimits g → IsFractionShape x → Answers g x answer → IsReinforcementShape g answer
right_shape g x (Added a) limits shape right = sized_added g x a limits shape right
right_shape g x (Blocked labels) limits shape right = right.partition
