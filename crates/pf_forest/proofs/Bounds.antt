-- Sums over the edges of a graph within its limits are small.
use Rattle.std.proofs.Common.{◌≡◌, ℕ, suc, ◌+◌, ◌*◌, ◌<◌, ◌^◌, List, [], ◌∷◌, length, Bool, true, false, cond, arith}
use Rattle.std.specs.Prelude.{ℤ, ◌+ℤ◌, ◌≤ℤ◌, pos}
use Rattle.std.proofs.lemmas.Int.{ints}
use Rattle.pf_model.specs.Cut.{sum_where, at_arc}
use Rattle.pf_model.specs.Fraction.{Fraction, IsParameter}
use Rattle.pf_model.proofs.Integers.{mul_most}
use Rattle.pf_graph.specs.WeightedGraph.{WeightedGraph, digraph_of}
use Rattle.pf_graph.specs.Labels.{crosses}
use Rattle.pf_graph.specs.Best.{crossing_of}
use Rattle.pf_graph.specs.Limits.{IsWithinLimits}
use Rattle.pf_graph.proofs.Levels.{crossing_low}
use Rattle.pf_frame.specs.Numbers.{IsBounded}
use Rattle.pf_forest.specs.Forest.{IsInRange}

high_step : (here : Bool) (x a : ℤ) (m n k : ℕ) → x ≤ℤ pos m → a ≤ℤ pos n → k ≡ n + m → (cond here x (pos 0) +ℤ a) ≤ℤ pos k
high_step true x a m n k h rest e = omega (arith, ints, h, rest, e)
high_step false x a m n k h rest e = omega (arith, ints, h, rest, e)

next_product : (n m : ℕ) → suc n * m ≡ (n * m) + m
next_product n m = grind arith

pub sum_where_high : (test : ℕ × ℕ → Bool) (ends : List (ℕ × ℕ)) (numbers : List ℤ) (m : ℕ) → ((i : ℕ) → i < length ends → at_arc numbers i ≤ℤ pos m) →
    sum_where test ends numbers ≤ℤ pos (length ends * m)
sum_where_high test [] numbers m h = omega (arith, ints)
sum_where_high test (edge ∷ ends) [] m h = omega (arith, ints)
sum_where_high test (edge ∷ ends) (x ∷ numbers) m h =
    let here : x ≤ℤ pos m = h 0 (omega arith) in
    let rest = sum_where_high test ends numbers m (λ i low. h (suc i) (omega (arith, low))) in
    high_step (test edge) x (sum_where test ends numbers) m (length ends * m) (suc (length ends) * m) here rest (next_product (length ends) m)

pub record IsCrossingSmall (g : WeightedGraph) (labels : List ℕ) : Type 0 where
  pub low : pos 0 ≤ℤ crossing_of g labels
  pub high : crossing_of g labels ≤ℤ pos 5000000000

pub crossing_small : (g : WeightedGraph) (labels : List ℕ) → IsWithinLimits g → IsCrossingSmall g labels
crossing_small g labels l =
    let most = sum_where_high (crosses labels) g.ends g.weights 1000000 (λ i low. (l.weights i low).high) in
    let few = l.edges in
    record { low = crossing_low g labels l.graph; high = omega (arith, ints, most, few) }

-- numbers within the weights are bounded
pub range_bounded : (g : WeightedGraph) (x : Fraction) (vector : List ℤ) → IsWithinLimits g → IsParameter x → x.q ≤ℤ pos (2 ^ 46) → IsInRange g x vector → IsBounded (digraph_of g) vector
range_bounded g x vector l parameter high r = record {
  full = r.full;
  low = r.low;
  high = λ i low.
      let a = r.high i low in
      let w = (l.weights i low).high in
      let b = mul_most x.q (at_arc g.weights i) (pos 1000000) (omega (arith, ints, parameter)) w in
      omega (arith, ints, a, b, high);
}
