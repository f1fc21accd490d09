-- What each vertex is charged, edge by edge.
use Rattle.std.proofs.Common.{◌≡◌, ℕ, ◌+◌, ◌*◌, ◌^◌, ◌<◌, ◌≤◌, List, length, set, take, replicate, Bool, true, false, cond, eqb, arith, ap, ◌∙◌, to_z, of_z}
use Rattle.std.specs.Prelude.{ℤ, ◌+ℤ◌, ◌-ℤ◌, ◌≤ℤ◌, pos}
use Rattle.std.proofs.lemmas.Int.{ints}
use Rattle.std.proofs.lemmas.List.{length-replicate}
use mir.Syntax.{w128}
use mir.Val.{SFits}
use Rattle.pf_model.specs.Fraction.{Fraction}
use Rattle.pf_model.specs.Cut.{sum_where, at_arc}
use Rattle.pf_model.proofs.Sums.{sum_where_more, sum_all}
use Rattle.pf_frame.proofs.Balances.{raised, raised_length, zero_at}
use Rattle.pf_graph.specs.WeightedGraph.{WeightedGraph, IsWeightedGraph}
use Rattle.pf_dense.specs.Certificate.{first_end, second_end, whole_charge, second_charges, second_charge, AreCharges, AreWithin}
use Rattle.pf_dense.specs.Dropping.{AreChargesTo, HasCharged, AreAllowed}
use Rattle.pf_dense.proofs.ChargeSums.{length_seconds, second_at}

-- the charges of the first edges to a vertex
abbrev pub charged_by : WeightedGraph → Fraction → List ℤ → ℕ → ℕ → ℤ
charged_by g x charges i v =
    sum_where (λ edge. eqb edge.0 v) (take i g.ends) (take i charges)
    +ℤ sum_where (λ edge. eqb edge.1 v) (take i g.ends) (take i (second_charges x g.weights charges))

pub record IsCharging (g : WeightedGraph) (x : Fraction) (charges sums : List ℤ) (i : ℕ) : Type 0 where
  pub places : g.nodes ≤ length sums
  pub each : (v : ℕ) → v < g.nodes → at_arc sums v ≡ charged_by g x charges i v
  pub low : (v : ℕ) → v < g.nodes → pos 0 ≤ℤ at_arc sums v
  pub high : (v : ℕ) → v < g.nodes → at_arc sums v ≤ℤ pos (i * 2 ^ 72)

pub charging_begins : (g : WeightedGraph) (x : Fraction) (charges sums : List ℤ) (n : ℕ) → sums ≡ replicate n (pos 0) → g.nodes ≤ n → IsCharging g x charges sums 0
charging_begins g x charges sums n e room = rw e (record {
  places = omega (arith, length-replicate n (pos 0));
  each = λ v h. zero_at n v;
  low = λ v h. let z = zero_at n v in omega (arith, ints, z);
  high = λ v h. let z = zero_at n v in omega (arith, ints, z);
})

high_step : (a b c d : ℤ) (i : ℕ) (p q : Bool) → b ≡ (a +ℤ cond p c (pos 0)) +ℤ cond q d (pos 0) → pos 0 ≤ℤ c → c ≤ℤ pos (2 ^ 70) → pos 0 ≤ℤ d → d ≤ℤ pos (2 ^ 70) →
    a ≤ℤ pos (i * 2 ^ 72) → b ≤ℤ pos ((i + 1) * 2 ^ 72)
high_step a b c d i true true e cl ch dl dh h = omega (arith, ints)
high_step a b c d i true false e cl ch dl dh h = omega (arith, ints)
high_step a b c d i false true e cl ch dl dh h = omega (arith, ints)
high_step a b c d i false false e cl ch dl dh h = omega (arith, ints)

low_step : (a b c d : ℤ) (p q : Bool) → b ≡ (a +ℤ cond p c (pos 0)) +ℤ cond q d (pos 0) → pos 0 ≤ℤ c → pos 0 ≤ℤ d → pos 0 ≤ℤ a → pos 0 ≤ℤ b
low_step a b c d true true e cl dl h = omega (arith, ints)
low_step a b c d true false e cl dl h = omega (arith, ints)
low_step a b c d false true e cl dl h = omega (arith, ints)
low_step a b c d false false e cl dl h = omega (arith, ints)

-- an edge's two charges
pub record IsShared (g : WeightedGraph) (x : Fraction) (charges : List ℤ) (i : ℕ) (c d : ℤ) : Type 0 where
  pub first : c ≡ at_arc charges i
  pub second : d ≡ second_charge g x charges i
  pub first_low : pos 0 ≤ℤ c
  pub first_high : c ≤ℤ pos (2 ^ 70)
  pub second_low : pos 0 ≤ℤ d
  pub second_high : d ≤ℤ pos (2 ^ 70)

pub shared_of : (g : WeightedGraph) (x : Fraction) (charges : List ℤ) (i : ℕ) (weight whole c d : ℤ) → IsWeightedGraph g → AreCharges g x charges → i < length g.ends →
    weight ≡ at_arc g.weights i → whole ≡ whole_charge x weight → whole ≤ℤ pos (2 ^ 70) → c ≡ at_arc charges i → d ≡ whole -ℤ c → IsShared g x charges i c d
shared_of g x charges i weight whole c d graph a low is told high e f =
    let wide = graph.weights_full in
    let full = a.full in
    let l = a.low i low in
    let h = a.high i low in
    let same : whole ≡ whole_charge x (at_arc g.weights i) = told ∙ ap (whole_charge x) is in
    let s = second_at x g.weights charges i (omega (arith, full, wide)) (omega (arith, low, wide)) in
    record {
      first = e;
      second = omega (arith, ints, s, f, same, e);
      first_low = omega (arith, ints, e, l);
      first_high = omega (arith, ints, e, h, same, high);
      second_low = omega (arith, ints, f, e, h, same);
      second_high = omega (arith, ints, f, e, l, high);
    }

-- the same for the numbers as they come back from their bits
stripped_first : (charge whole : ℤ) → pos 0 ≤ℤ charge → charge ≤ℤ whole → whole ≤ℤ pos (2 ^ 70) → to_z w128 (of_z w128 charge) ≡ charge
stripped_first charge whole l h m = omega (arith, ints, l, h, m)

stripped_second : (charge whole : ℤ) → pos 0 ≤ℤ charge → charge ≤ℤ whole → whole ≤ℤ pos (2 ^ 70) →
    to_z w128 (of_z w128 (to_z w128 (of_z w128 whole) -ℤ to_z w128 (of_z w128 charge))) ≡ whole -ℤ charge
stripped_second charge whole l h m =
    let a : to_z w128 (of_z w128 charge) ≡ charge = omega (arith, ints, l, h, m) in
    let b : to_z w128 (of_z w128 whole) ≡ whole = omega (arith, ints, l, h, m) in
    rw (a, b) (omega (arith, ints, l, h, m))

pub difference_fits : (charge whole : ℤ) → pos 0 ≤ℤ charge → charge ≤ℤ whole → whole ≤ℤ pos (2 ^ 70) →
    SFits w128 (to_z w128 (of_z w128 whole) -ℤ to_z w128 (of_z w128 charge))
difference_fits charge whole l h m =
    let a : to_z w128 (of_z w128 charge) ≡ charge = omega (arith, ints, l, h, m) in
    let b : to_z w128 (of_z w128 whole) ≡ whole = omega (arith, ints, l, h, m) in
    rw (a, b) (omega (arith, ints, l, h, m))

pub edge_shared : (g : WeightedGraph) (x : Fraction) (charges : List ℤ) (i : ℕ) (weight whole : ℤ) → IsWeightedGraph g → AreCharges g x charges → i < length g.ends →
    weight ≡ at_arc g.weights i → whole ≡ whole_charge x weight → whole ≤ℤ pos (2 ^ 70) →
    IsShared g x charges i (to_z w128 (of_z w128 (at_arc charges i)))
    (to_z w128 (of_z w128 (to_z w128 (of_z w128 whole) -ℤ to_z w128 (of_z w128 (at_arc charges i)))))
edge_shared g x charges i weight whole graph a low is told high =
    let l = a.low i low in
    let same : whole ≡ whole_charge x (at_arc g.weights i) = told ∙ ap (whole_charge x) is in
    let h : at_arc charges i ≤ℤ whole = (let most = a.high i low in omega (arith, ints, most, same)) in
    let first = stripped_first (at_arc charges i) whole l h high in
    let second = stripped_second (at_arc charges i) whole l h high in
    shared_of g x charges i weight whole _ _ graph a low is told high first (omega (arith, ints, first, second))

pub charging_goes_on : (g : WeightedGraph) (x : Fraction) (charges sums sums' sums'' : List ℤ) (i u w : ℕ) (c d : ℤ) → IsWeightedGraph g → AreCharges g x charges →
    IsCharging g x charges sums i → i < length g.ends → u ≡ first_end g i → w ≡ second_end g i → IsShared g x charges i c d →
    sums' ≡ set sums u (at_arc sums u +ℤ c) → sums'' ≡ set sums' w (at_arc sums' w +ℤ d) → IsCharging g x charges sums'' (i + 1)
charging_goes_on g x charges sums sums' sums'' i u w c d graph a b low first second s e f =
    let places = b.places in
    let full = a.full in
    let wide = graph.weights_full in
    let long = length_seconds x g.weights charges (omega (arith, full, wide)) in
    let l = raised_length sums sums' u _ e in
    let l' = raised_length sums' sums'' w _ f in
    let low_u : u < g.nodes = (let h = graph.graph.tails i low in omega (arith, h, first)) in
    let low_w : w < g.nodes = (let h = graph.graph.heads i low in omega (arith, h, second)) in
    let step : (v : ℕ) → at_arc sums'' v ≡ (at_arc sums v +ℤ cond (eqb u v) c (pos 0)) +ℤ cond (eqb w v) d (pos 0) =
    λ v.
    let here = raised sums sums' u v c e (omega (arith, low_u, places)) in
    let there = raised sums' sums'' w v d f (omega (arith, low_w, places, l)) in
    omega (arith, ints, here, there) in
    record {
      places = omega (arith, places, l, l');
      each = λ v h.
          let before = b.each v h in
          let t = step v in
          let m = sum_where_more (λ edge. eqb edge.0 v) g.ends charges i full low in
          let n = sum_where_more (λ edge. eqb edge.1 v) g.ends (second_charges x g.weights charges) i (omega (arith, long, wide)) low in
          let p = ap (λ k. cond (eqb k v) (at_arc charges i) (pos 0)) first in
          let q = ap (λ k. cond (eqb k v) (second_charge g x charges i) (pos 0)) second in
          let p' = ap (λ k. cond (eqb u v) k (pos 0)) s.first in
          let q' = ap (λ k. cond (eqb w v) k (pos 0)) s.second in
          omega (arith, ints, before, t, m, n, p, q, p', q');
      low = λ v h. low_step (at_arc sums v) (at_arc sums'' v) c d (eqb u v) (eqb w v) (step v) s.first_low s.second_low (b.low v h);
      high = λ v h. high_step (at_arc sums v) (at_arc sums'' v) c d i (eqb u v) (eqb w v) (step v) s.first_low s.first_high s.second_low s.second_high (b.high v h);
    }

pub charging_ends : (g : WeightedGraph) (x : Fraction) (charges sums : List ℤ) (i : ℕ) → IsWeightedGraph g → AreCharges g x charges → IsCharging g x charges sums i →
    length g.ends ≤ i → HasCharged g x charges sums
charging_ends g x charges sums i graph a b done =
    let full = a.full in
    let wide = graph.weights_full in
    let long = length_seconds x g.weights charges (omega (arith, full, wide)) in
    record {
      places = b.places;
      each = λ v low.
          let e = b.each v low in
          let m = sum_all (λ edge. eqb edge.0 v) g.ends charges i full done in
          let n = sum_all (λ edge. eqb edge.1 v) g.ends (second_charges x g.weights charges) i (omega (arith, long, wide)) done in
          omega (arith, ints, e, m, n);
    }

-- between the two charges of an edge
pub raised_high : (sums sums' : List ℤ) (u v i : ℕ) (c : ℤ) → sums' ≡ set sums u (at_arc sums u +ℤ c) → u < length sums → i ≤ 5000 →
    pos 0 ≤ℤ c → c ≤ℤ pos (2 ^ 70) → pos 0 ≤ℤ at_arc sums v → at_arc sums v ≤ℤ pos (i * 2 ^ 72) →
    (pos 0 ≤ℤ at_arc sums' v) × (at_arc sums' v ≤ℤ pos (2 ^ 120))
raised_high sums sums' u v i c e low few cl ch l h =
    let r = raised sums sums' u v c e low in
    (low_step (at_arc sums v) (at_arc sums' v) c (pos 0) (eqb u v) false (r ∙ none _) cl (omega (arith, ints)) l, within (at_arc sums v) (at_arc sums' v) c i (eqb u v) r few ch cl h)
  where
    none : (a : ℤ) → a ≡ a +ℤ pos 0
    none a = omega (arith, ints)

    within : (a b c : ℤ) (i : ℕ) (p : Bool) → b ≡ a +ℤ cond p c (pos 0) → i ≤ 5000 → c ≤ℤ pos (2 ^ 70) → pos 0 ≤ℤ c → a ≤ℤ pos (i * 2 ^ 72) → b ≤ℤ pos (2 ^ 120)
    within a b c i true e few ch cl h = omega (arith, ints)
    within a b c i false e few ch cl h = omega (arith, ints)

-- the parts of the certificate
pub charges_of : (g : WeightedGraph) (x : Fraction) (charges : List ℤ) → length charges ≡ length g.ends → AreChargesTo g x charges (length g.ends) → AreCharges g x charges
charges_of g x charges full a = record { full = full; low = a.low; high = a.high }

pub charges_to : (g : WeightedGraph) (x : Fraction) (charges : List ℤ) → AreCharges g x charges → AreChargesTo g x charges (length g.ends)
charges_to g x charges a = record { low = a.low; high = a.high }

pub within_of : (g : WeightedGraph) (x : Fraction) (charges sums : List ℤ) → HasCharged g x charges sums → AreAllowed g x sums g.nodes → AreWithin g x charges
within_of g x charges sums s a = record {
  most = λ v low. let e = s.each v low in let h = a.most v low in omega (arith, ints, e, h);
}

pub allowed_of : (g : WeightedGraph) (x : Fraction) (charges sums : List ℤ) → HasCharged g x charges sums → AreWithin g x charges → AreAllowed g x sums g.nodes
allowed_of g x charges sums s w = record {
  most = λ v low. let e = s.each v low in let h = w.most v low in omega (arith, ints, e, h);
}
