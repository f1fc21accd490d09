-- The weights at the vertices and that of all edges, edge by edge.
use Rattle.std.proofs.Common.{◌≡◌, ℕ, ◌+◌, ◌*◌, ◌^◌, ◌<◌, ◌≤◌, List, length, set, take, replicate, refl, Bool, true, false, cond, eqb, arith, ap, ◌∙◌}
use Rattle.std.specs.Prelude.{ℤ, ◌+ℤ◌, ◌≤ℤ◌, pos}
use Rattle.std.proofs.lemmas.Int.{ints}
use Rattle.std.proofs.lemmas.List.{length-replicate}
use Rattle.pf_model.specs.Cut.{sum_where, at_arc}
use Rattle.pf_model.proofs.Sums.{sum_where_more, sum_all, sum_next}
use Rattle.pf_frame.proofs.Balances.{raised, raised_length, zero_at}
use Rattle.pf_graph.specs.WeightedGraph.{WeightedGraph, IsWeightedGraph}
use Rattle.pf_dense.specs.Certificate.{first_end, second_end}
use Rattle.pf_dense.specs.Reduction.{total_weight}
use Rattle.pf_dense.specs.Weighing.{HasWeights}

-- the weight of the first edges at a vertex
abbrev pub weight_by : WeightedGraph → ℕ → ℕ → ℤ
weight_by g i v =
    sum_where (λ edge. eqb edge.0 v) (take i g.ends) (take i g.weights) +ℤ sum_where (λ edge. eqb edge.1 v) (take i g.ends) (take i g.weights)

pub record IsWeighing (g : WeightedGraph) (sums : List ℤ) (i : ℕ) : Type 0 where
  pub full : length sums ≡ g.nodes
  pub each : (v : ℕ) → v < g.nodes → at_arc sums v ≡ weight_by g i v
  pub low : (v : ℕ) → v < g.nodes → pos 0 ≤ℤ at_arc sums v
  pub high : (v : ℕ) → v < g.nodes → at_arc sums v ≤ℤ pos (i * 2 ^ 40)

pub weighing_begins : (g : WeightedGraph) (sums : List ℤ) (n : ℕ) → sums ≡ replicate n (pos 0) → n ≡ g.nodes → IsWeighing g sums 0
weighing_begins g sums n e room = rw e (record {
  full = length-replicate n (pos 0) ∙ room;
  each = λ v h. zero_at n v;
  low = λ v h. let z = zero_at n v in omega (arith, ints, z);
  high = λ v h. let z = zero_at n v in omega (arith, ints, z);
})

high_step : (a b : ℤ) (c i : ℕ) (p q : Bool) → b ≡ (a +ℤ cond p (pos c) (pos 0)) +ℤ cond q (pos c) (pos 0) → c ≤ 1000000 → a ≤ℤ pos (i * 2 ^ 40) →
    b ≤ℤ pos ((i + 1) * 2 ^ 40)
high_step a b c i true true e ch h = omega (arith, ints)
high_step a b c i true false e ch h = omega (arith, ints)
high_step a b c i false true e ch h = omega (arith, ints)
high_step a b c i false false e ch h = omega (arith, ints)

low_step : (a b : ℤ) (c : ℕ) (p q : Bool) → b ≡ (a +ℤ cond p (pos c) (pos 0)) +ℤ cond q (pos c) (pos 0) → pos 0 ≤ℤ a → pos 0 ≤ℤ b
low_step a b c true true e h = omega (arith, ints)
low_step a b c true false e h = omega (arith, ints)
low_step a b c false true e h = omega (arith, ints)
low_step a b c false false e h = omega (arith, ints)

pub weighing_goes_on : (g : WeightedGraph) (sums sums' sums'' : List ℤ) (i u w c : ℕ) → IsWeightedGraph g → IsWeighing g sums i → i < length g.ends →
    u ≡ first_end g i → w ≡ second_end g i → pos c ≡ at_arc g.weights i → c ≤ 1000000 →
    sums' ≡ set sums u (at_arc sums u +ℤ pos c) → sums'' ≡ set sums' w (at_arc sums' w +ℤ pos c) → IsWeighing g sums'' (i + 1)
weighing_goes_on g sums sums' sums'' i u w c graph b low first second is small e f =
    let places = b.full in
    let wide = graph.weights_full in
    let l = raised_length sums sums' u _ e in
    let l' = raised_length sums' sums'' w _ f in
    let low_u : u < g.nodes = (let h = graph.graph.tails i low in omega (arith, h, first)) in
    let low_w : w < g.nodes = (let h = graph.graph.heads i low in omega (arith, h, second)) in
    let step : (v : ℕ) → at_arc sums'' v ≡ (at_arc sums v +ℤ cond (eqb u v) (pos c) (pos 0)) +ℤ cond (eqb w v) (pos c) (pos 0) =
    λ v.
    let here = raised sums sums' u v (pos c) e (omega (arith, low_u, places)) in
    let there = raised sums' sums'' w v (pos c) f (omega (arith, low_w, places, l)) in
    omega (arith, ints, here, there) in
    record {
      full = omega (arith, places, l, l');
      each = λ v h.
          let before = b.each v h in
          let t = step v in
          let m = sum_where_more (λ edge. eqb edge.0 v) g.ends g.weights i wide low in
          let n = sum_where_more (λ edge. eqb edge.1 v) g.ends g.weights i wide low in
          let p = ap (λ k. cond (eqb k v) (at_arc g.weights i) (pos 0)) first in
          let q = ap (λ k. cond (eqb k v) (at_arc g.weights i) (pos 0)) second in
          let p' = ap (λ k. cond (eqb u v) k (pos 0)) is in
          let q' = ap (λ k. cond (eqb w v) k (pos 0)) is in
          omega (arith, ints, before, t, m, n, p, q, p', q');
      low = λ v h. low_step (at_arc sums v) (at_arc sums'' v) c (eqb u v) (eqb w v) (step v) (b.low v h);
      high = λ v h. high_step (at_arc sums v) (at_arc sums'' v) c i (eqb u v) (eqb w v) (step v) small (b.high v h);
    }

pub weighing_ends : (g : WeightedGraph) (sums : List ℤ) (i : ℕ) → IsWeightedGraph g → IsWeighing g sums i → length g.ends ≤ i → i ≤ 5000 → HasWeights g sums
weighing_ends g sums i graph b done few =
    let wide = graph.weights_full in
    record {
      full = b.full;
      each = λ v low.
          let e = b.each v low in
          let m = sum_all (λ edge. eqb edge.0 v) g.ends g.weights i wide done in
          let n = sum_all (λ edge. eqb edge.1 v) g.ends g.weights i wide done in
          omega (arith, ints, e, m, n);
      low = b.low;
      high = λ v low. let h = b.high v low in omega (arith, ints, h, few);
    }

within_high : (a b : ℤ) (c i : ℕ) (p : Bool) → b ≡ a +ℤ cond p (pos c) (pos 0) → i ≤ 5000 → c ≤ 1000000 → pos 0 ≤ℤ a → a ≤ℤ pos (i * 2 ^ 40) →
    (pos 0 ≤ℤ b) × (b ≤ℤ pos (2 ^ 60))
within_high a b c i true e few ch l h = (omega (arith, ints), omega (arith, ints))
within_high a b c i false e few ch l h = (omega (arith, ints), omega (arith, ints))

pub raised_high : (sums sums' : List ℤ) (u v i c : ℕ) → sums' ≡ set sums u (at_arc sums u +ℤ pos c) → u < length sums → i ≤ 5000 → c ≤ 1000000 →
    pos 0 ≤ℤ at_arc sums v → at_arc sums v ≤ℤ pos (i * 2 ^ 40) → (pos 0 ≤ℤ at_arc sums' v) × (at_arc sums' v ≤ℤ pos (2 ^ 60))
raised_high sums sums' u v i c e low few ch l h =
    within_high (at_arc sums v) (at_arc sums' v) c i (eqb u v) (raised sums sums' u v (pos c) e low) few ch l h

-- the weight of the first edges
pub record IsTotal (g : WeightedGraph) (sum : ℤ) (i : ℕ) : Type 0 where
  pub value : sum ≡ sum_where (λ edge. true) (take i g.ends) (take i g.weights)
  pub low : pos 0 ≤ℤ sum
  pub high : sum ≤ℤ pos (i * 1000000)

pub total_goes_on : (g : WeightedGraph) (sum sum' : ℤ) (i c : ℕ) → IsWeightedGraph g → IsTotal g sum i → i < length g.ends → pos c ≡ at_arc g.weights i → c ≤ 1000000 →
    sum' ≡ sum +ℤ pos c → IsTotal g sum' (i + 1)
total_goes_on g sum sum' i c graph t low is small step =
    let wide = graph.weights_full in
    let l = t.low in
    let h = t.high in
    record {
      value = sum_next (λ edge. true) g.ends g.weights i sum sum' true wide low t.value refl (omega (arith, ints, step, is));
      low = omega (arith, ints, l, step);
      high = omega (arith, ints, h, step, small);
    }

pub total_ends : (g : WeightedGraph) (sum : ℤ) (i : ℕ) → IsWeightedGraph g → IsTotal g sum i → length g.ends ≤ i → sum ≡ total_weight g
total_ends g sum i graph t done = t.value ∙ sum_all (λ edge. true) g.ends g.weights i graph.weights_full done
