-- The best partition at a level below 1 / (vertices - 1): the connected components.
use Rattle.std.proofs.Common.{◌≡◌, ℕ, zero, suc, ◌+◌, ◌<◌, ◌≤◌, List, [], ◌∷◌, length, refl, Bool, true, false, cond, arith, ap, ◌∙◌}
use Rattle.std.specs.Prelude.{ℤ, ◌+ℤ◌, ◌-ℤ◌, ◌*ℤ◌, ◌≤ℤ◌, ◌<ℤ◌, pos, nat_lt}
use Rattle.std.proofs.lemmas.Bool.Decides.{nat_tests}
use Rattle.std.proofs.lemmas.Int.{ints, by_lt_z}
use Rattle.pf_model.specs.Cut.{at_arc}
use Rattle.pf_model.specs.Fraction.{Fraction, IsParameter}
use Rattle.pf_model.proofs.Integers.{mul_add, mul_comm, mul_nonneg, mul_most, mul_most_inverse}
use Rattle.pf_graph.specs.WeightedGraph.{WeightedGraph}
use Rattle.pf_graph.specs.Labels.{parts, crosses, crossing, crossing_edges, IsPartition}
use Rattle.pf_graph.specs.Best.{crossing_of, IsBest}
use Rattle.pf_graph.specs.Limits.{IsWithinLimits}
use Rattle.pf_graph.proofs.Counting.{parts_most}
use Rattle.pf_graph.proofs.Levels.{crossing_low, one_part, crossing_one, length_one}
use Rattle.pf_reinforce.specs.Reinforcement.{IsBlocked}
use Rattle.pf_reinforce.specs.Raising.{IsConnectedAbove}
use Rattle.pf_reinforce.proofs.Certificate.{uncrossed_sum}

parts_one : (n : ℕ) → parts (one_part (suc n)) ≡ 1
parts_one zero = refl
parts_one (suc n) = let e = parts_one n in omega (arith, e)

-- as many edges cross as weigh 1 or more together
edge_step : (here : Bool) (x a : ℤ) (k : ℕ) → pos 1 ≤ℤ x → pos k ≤ℤ a → pos (cond here 1 0 + k) ≤ℤ (cond here x (pos 0) +ℤ a)
edge_step true x a k h l = omega (arith, ints, h, l)
edge_step false x a k h l = omega (arith, ints, l)

edges_weigh : (ends : List (ℕ × ℕ)) (numbers : List ℤ) (labels : List ℕ) → length numbers ≡ length ends → ((i : ℕ) → i < length ends → pos 1 ≤ℤ at_arc numbers i) →
    pos (crossing_edges ends labels) ≤ℤ crossing ends numbers labels
edges_weigh [] numbers labels full low = omega (arith, ints)
edges_weigh (edge ∷ ends) [] labels full low = absurd (omega (arith, full))
edges_weigh (edge ∷ ends) (x ∷ numbers) labels full low =
    edge_step (crosses labels edge) x (crossing ends numbers labels) (crossing_edges ends labels) (low 0 (omega arith))
    (edges_weigh ends numbers labels (omega (arith, full)) (λ i h. low (suc i) (omega (arith, h))))

-- a level that is 1 / n is above 0
level_above : (p q : ℤ) (n : ℕ) → pos 1 ≤ℤ q → p *ℤ pos n ≡ q → pos 0 <ℤ p
level_above p q n some e =
    by_lt_z (pos 0) p (λ less. less) (λ low. absurd (
    let a = mul_most (pos n) p (pos 0) (omega (arith, ints)) low in
    let b = mul_comm p (pos n) in
    let none : pos n *ℤ pos 0 ≡ pos 0 = omega (arith, ints) in
    omega (arith, ints, some, e, a, b, none)))

-- at 1 / n a crossing weight of 1 is more than what n - 1 parts are worth
none_crosses : (c q p : ℤ) (k n : ℕ) → pos 1 ≤ℤ q → p *ℤ pos n ≡ q → k ≤ n → pos 0 ≤ℤ c → ((c *ℤ q) +ℤ ((pos 1 -ℤ pos k) *ℤ p)) ≤ℤ pos 0 → c ≡ pos 0
none_crosses c q p k n some e few low l =
    let above = level_above p q n some e in
    by_lt_z c (pos 1) (λ less. omega (arith, ints, less, low)) (λ high. absurd (
    let a = mul_most q (pos 1) c (omega (arith, ints, some)) high in
    let a' = mul_comm q c in
    let one : q *ℤ pos 1 ≡ q = omega (arith, ints) in
    let b = mul_comm (pos 1 -ℤ pos k) p in
    let d = mul_nonneg p (pos n -ℤ pos k) (omega (arith, ints, above)) (omega (arith, ints, few)) in
    let gap : pos n -ℤ pos k ≡ (pos 1 -ℤ pos k) +ℤ (pos n -ℤ pos 1) = omega (arith, ints) in
    let f = ap (λ z. p *ℤ z) gap ∙ mul_add p (pos 1 -ℤ pos k) (pos n -ℤ pos 1) in
    let last : pos n ≡ (pos n -ℤ pos 1) +ℤ pos 1 = omega (arith, ints) in
    let h = ap (λ z. p *ℤ z) last ∙ mul_add p (pos n -ℤ pos 1) (pos 1) in
    let once : p *ℤ pos 1 ≡ p = omega (arith, ints) in
    omega (arith, ints, above, a, a', one, b, d, f, h, once, e, l)))

-- among those that no weight crosses, the best has most parts
most_parts : (c c' q p : ℤ) (k k' : ℕ) → pos 0 <ℤ p → c ≡ pos 0 → c' ≡ pos 0 →
    ((c *ℤ q) +ℤ ((pos 1 -ℤ pos k) *ℤ p)) ≤ℤ ((c' *ℤ q) +ℤ ((pos 1 -ℤ pos k') *ℤ p)) → k' ≤ k
most_parts c c' q p k k' above e e' l =
    let a = ap (λ z. z *ℤ q) e in
    let a' = ap (λ z. z *ℤ q) e' in
    let none : pos 0 *ℤ q ≡ pos 0 = omega (arith, ints) in
    let b = mul_comm (pos 1 -ℤ pos k) p in
    let b' = mul_comm (pos 1 -ℤ pos k') p in
    let m = mul_most_inverse p (pos 1 -ℤ pos k) (pos 1 -ℤ pos k') above (omega (arith, ints, l, a, a', none, b, b')) in
    omega (arith, ints, m)

-- the parts are the connected components
pub record AreComponents (g : WeightedGraph) (labels : List ℕ) : Type 0 where
  pub uncrossed : crossing_edges g.ends labels ≡ 0
  pub most : (other : List ℕ) → length other ≡ g.nodes → crossing_edges g.ends other ≡ 0 → parts other ≤ parts labels

one_value : (c q : ℤ) (k : ℕ) (p : ℤ) → c ≡ pos 0 → k ≡ 1 → (c *ℤ q) +ℤ ((pos 1 -ℤ pos k) *ℤ p) ≡ pos 0
one_value c q k p e f =
    let a = ap (λ z. z *ℤ q) e in
    let b = ap (λ z. (pos 1 -ℤ pos z) *ℤ p) f in
    omega (arith, ints, a, b)

one_part_of : (n : ℕ) → 0 < n → parts (one_part n) ≡ 1
one_part_of zero some = absurd (omega (arith, some))
one_part_of (suc n) some = parts_one n

pub components : (g : WeightedGraph) (x : Fraction) (labels : List ℕ) → IsWithinLimits g → IsParameter x → x.p *ℤ pos g.nodes ≡ x.q → IsBest g x labels → AreComponents g labels
components g x labels l parameter e best =
    let h = best.least (one_part g.nodes) (length_one g.nodes) in
    let one = one_value (crossing_of g (one_part g.nodes)) x.q (parts (one_part g.nodes)) x.p (crossing_one g g.nodes) (one_part_of g.nodes l.graph.some) in
    let few : parts labels ≤ g.nodes = let m = parts_most labels in let f = best.full in omega (arith, m, f) in
    let none = none_crosses (crossing_of g labels) x.q x.p (parts labels) g.nodes parameter e few (crossing_low g labels l.graph) (omega (arith, ints, h, one)) in
    let weigh = edges_weigh g.ends g.weights labels l.graph.weights_full (λ i low. (l.weights i low).low) in
    record {
      uncrossed = omega (arith, ints, weigh, none);
      most = λ other full uncrossed.
          most_parts (crossing_of g labels) (crossing_of g other) x.q x.p (parts labels) (parts other) (level_above x.p x.q g.nodes parameter e) none
          (uncrossed_sum g.ends g.weights other uncrossed) (best.least other full);
    }

-- two answers from the number of parts
pub blocked_by : (g : WeightedGraph) (x : Fraction) (labels : List ℕ) → AreComponents g labels → IsPartition g.nodes labels → pos 0 <ℤ x.p → 1 < parts labels → IsBlocked g x labels
blocked_by g x labels a partition level some = record {
  level = level;
  partition = partition;
  apart = omega (arith, some);
  uncrossed = a.uncrossed;
  most = a.most;
}

pub connected_by : (g : WeightedGraph) (x : Fraction) (labels : List ℕ) → AreComponents g labels → parts labels ≤ 1 → IsConnectedAbove g x
connected_by g x labels a few = record { one = λ level other full none. let m = a.most other full none in omega (arith, m, few) }

-- the test on the number of parts
pub told_more : (k n : ℕ) → nat_lt 1 k ≡ true → k ≡ n → 1 < n
told_more k n e f = let h : 1 < k = grind (arith, nat_tests) in omega (arith, h, f)

pub told_few : (k n : ℕ) → nat_lt 1 k ≡ false → k ≡ n → n ≤ 1
told_few k n e f = let h : k ≤ 1 = grind (arith, nat_tests) in omega (arith, h, f)
