-- Charges that keep within what each vertex may be charged bound every density, and certify the densest set.
use Rattle.std.proofs.Common.{◌≡◌, ℕ, zero, suc, ◌<◌, List, [], ◌∷◌, length, get_or, map, refl, Bool, true, false, not, ◌&&◌, arith, ap, sym, ◌∙◌, inl, inr}
use Rattle.std.specs.Prelude.{ℤ, ◌+ℤ◌, ◌*ℤ◌, ◌≤ℤ◌, pos}
use Rattle.std.proofs.lemmas.Int.{ints, by_lt_z}
use Rattle.std.proofs.lemmas.Bool.{cases_Bool, both_ways}
use Rattle.pf_model.specs.Fraction.{Fraction}
use Rattle.pf_model.specs.Cut.{has, at_arc, leaves, enters, IsContained}
use Rattle.pf_model.proofs.Sums.{Passes}
use Rattle.pf_model.proofs.Balance.{inside}
use Rattle.pf_model.proofs.Duality.{leaves_parts, enters_parts, enters_by, leaves_by}
use Rattle.pf_graph.specs.WeightedGraph.{WeightedGraph, IsWeightedGraph, lies_in}
use Rattle.pf_dense.specs.Densest.{weight_inside, cost_within, HasDensity, IsDensest}
use Rattle.pf_dense.specs.Certificate.{first_end, second_end, second_charges, second_charge, charged, allowance, AreCharges, AreWithin, KeepsRules, CertifiesDense}
use Rattle.pf_dense.proofs.VertexSums.{sum_over, sum_over_most, sum_over_tight, sum_over_scale, cost_is_sum}
use Rattle.pf_dense.proofs.ChargeSums.{second_at, length_seconds, spread_is, mixed, charged_sum, sum_low, sum_none, each_none}

-- what the vertices of a set may be charged
pub allowance_sum : (g : WeightedGraph) (x : Fraction) (set : List Bool) → sum_over (λ v. allowance g x v) set ≡ pos 2 *ℤ (x.p *ℤ cost_within g set)
allowance_sum g x set =
    let f : ℕ → ℤ = λ v. at_arc g.costs v in
    sum_over_scale (pos 2) (λ v. x.p *ℤ f v) set ∙ ap (λ n. pos 2 *ℤ n) (sum_over_scale x.p f set)
    ∙ sym (ap (λ n. pos 2 *ℤ (x.p *ℤ n)) (cost_is_sum g.costs set))

-- the charges to the second ends are not below 0 either
second_low : (g : WeightedGraph) (x : Fraction) (charges : List ℤ) → IsWeightedGraph g → AreCharges g x charges →
    (i : ℕ) → i < length g.ends → pos 0 ≤ℤ second_charge g x charges i
second_low g x charges graph a i low =
    let wide = graph.weights_full in
    let full = a.full in
    let e = second_at x g.weights charges i (omega arith) (omega arith) in
    let h = a.high i low in
    omega (arith, ints, e, h)

mixed_low : (g : WeightedGraph) (x : Fraction) (charges : List ℤ) (set : List Bool) → IsWeightedGraph g → AreCharges g x charges → pos 0 ≤ℤ mixed g x charges set
mixed_low g x charges set graph a =
    let first = sum_low (leaves set) g.ends charges a.low in
    let second = sum_low (enters set) g.ends (second_charges x g.weights charges) (second_low g x charges graph a) in
    omega (arith, ints, first, second)

-- the charges to the vertices of a set, once by edges and once by vertices
pub record IsSpread (g : WeightedGraph) (x : Fraction) (charges : List ℤ) (set : List Bool) : Type 0 where
  pub by_edges : sum_over (λ v. charged g x charges v) set ≡ (pos 2 *ℤ (x.q *ℤ weight_inside g set)) +ℤ mixed g x charges set
  pub low : pos 0 ≤ℤ mixed g x charges set
  pub by_vertices : sum_over (λ v. charged g x charges v) set ≤ℤ (pos 2 *ℤ (x.p *ℤ cost_within g set))

within_set : (g : WeightedGraph) (x : Fraction) (charges : List ℤ) (set : List Bool) → AreWithin g x charges → length set ≡ g.nodes →
    (v : ℕ) → has set v ≡ true → charged g x charges v ≤ℤ allowance g x v
within_set g x charges set w full v held = let low = inside set v held in w.most v (omega (arith, low, full))

spread_of : (g : WeightedGraph) (x : Fraction) (charges : List ℤ) (set : List Bool) → IsWeightedGraph g → AreCharges g x charges → AreWithin g x charges →
    length set ≡ g.nodes → IsSpread g x charges set
spread_of g x charges set graph a w full = record {
  by_edges = charged_sum g x charges set ∙ spread_is g x charges set graph.weights_full a.full;
  low = mixed_low g x charges set graph a;
  by_vertices = (
      let most = sum_over_most (λ v. charged g x charges v) (λ v. allowance g x v) set (within_set g x charges set w full) in
      let e = allowance_sum g x set in
      omega (arith, ints, most, e));
}

-- so no set is denser
pub none_denser : (g : WeightedGraph) (x : Fraction) (charges : List ℤ) (set : List Bool) → IsWeightedGraph g → AreCharges g x charges → AreWithin g x charges →
    length set ≡ g.nodes → (x.q *ℤ weight_inside g set) ≤ℤ (x.p *ℤ cost_within g set)
none_denser g x charges set graph a w full =
    let s = spread_of g x charges set graph a w full in
    let e = s.by_edges in
    let l = s.low in
    let h = s.by_vertices in
    omega (arith, ints, e, l, h)

-- a set of this density: its vertices are charged what they may be, and edges with one end in it charge that end nothing
pub record IsTight (g : WeightedGraph) (x : Fraction) (charges : List ℤ) (set : List Bool) : Type 0 where
  pub each : (v : ℕ) → has set v ≡ true → allowance g x v ≤ℤ charged g x charges v
  pub leaving : (i : ℕ) → Passes (leaves set) g.ends i → at_arc charges i ≤ℤ pos 0
  pub entering : (i : ℕ) → Passes (enters set) g.ends i → second_charge g x charges i ≤ℤ pos 0

tight_of : (g : WeightedGraph) (x : Fraction) (charges : List ℤ) (set : List Bool) → IsWeightedGraph g → AreCharges g x charges → AreWithin g x charges →
    length set ≡ g.nodes → HasDensity g x set → IsTight g x charges set
tight_of g x charges set graph a w full same =
    let s = spread_of g x charges set graph a w full in
    let e = s.by_edges in
    let l = s.low in
    let h = s.by_vertices in
    let seconds = second_charges x g.weights charges in
    let d : x.q *ℤ weight_inside g set ≡ x.p *ℤ cost_within g set = same in
    let total = allowance_sum g x set in
    let low_first = sum_low (leaves set) g.ends charges a.low in
    let low_second = sum_low (enters set) g.ends seconds (second_low g x charges graph a) in
    let wide = graph.weights_full in
    let long = length_seconds x g.weights charges (omega (arith, a.full, wide)) in
    record {
      each = sum_over_tight (λ v. charged g x charges v) (λ v. allowance g x v) set (within_set g x charges set w full) (omega (arith, ints, e, l, d, total));
      leaving = each_none (leaves set) g.ends charges a.full a.low (omega (arith, ints, e, h, d, low_first, low_second));
      entering = each_none (enters set) g.ends seconds (omega (arith, long, wide)) (second_low g x charges graph a)
          (omega (arith, ints, e, h, d, low_first, low_second));
    }

-- the vertices outside the set, and the edges with an end outside, keep the rules
pub has_not : (set : List Bool) (v : ℕ) → v < length set → has (map not set) v ≡ not (has set v)
has_not [] v low = absurd (omega arith)
has_not (b ∷ set) zero low = refl
has_not (b ∷ set) (suc v) low = has_not set v (omega arith)

pub length_not : (set : List Bool) → length (map not set) ≡ length set
length_not [] = refl
length_not (b ∷ set) = ap suc (length_not set)

abbrev pub edges_outside : WeightedGraph → List Bool → List Bool
edges_outside g set = map (λ edge. not (lies_in set edge)) g.ends

has_edge : (test : ℕ × ℕ → Bool) (ends : List (ℕ × ℕ)) (i : ℕ) → i < length ends → has (map test ends) i ≡ test (get_or ends i (0, 0))
has_edge test [] i low = absurd (omega arith)
has_edge test (edge ∷ ends) zero low = refl
has_edge test (edge ∷ ends) (suc i) low = has_edge test ends i (omega arith)

edge_beyond : (test : ℕ × ℕ → Bool) (ends : List (ℕ × ℕ)) (i : ℕ) → has (map test ends) i ≡ true → i < length ends
edge_beyond test [] i h = cc
edge_beyond test (edge ∷ ends) zero h = omega arith
edge_beyond test (edge ∷ ends) (suc i) h = let rest = edge_beyond test ends i h in omega (arith, rest)

out_of_true : (a b : Bool) → not a ≡ b → b ≡ true → a ≡ false
out_of_true true true e h = cc
out_of_true true false e h = cc
out_of_true false b e h = refl

outside_first : (p q : Bool) → p ≡ false → not (p && q) ≡ true
outside_first true q e = cc
outside_first false q e = refl

outside_second : (p q : Bool) → q ≡ false → not (p && q) ≡ true
outside_second true true e = cc
outside_second true false e = refl
outside_second false q e = refl

-- an end in the set, so the other one is not
other_out : (p q : Bool) → not (p && q) ≡ true → p ≡ true → q ≡ false
other_out true true e h = cc
other_out true false e h = refl
other_out false q e h = cc

other_out_first : (p q : Bool) → not (p && q) ≡ true → q ≡ true → p ≡ false
other_out_first true true e h = cc
other_out_first false q e h = refl
other_out_first true false e h = cc

pub tight_keeps : (g : WeightedGraph) (x : Fraction) (charges : List ℤ) (set : List Bool) → IsWeightedGraph g → length set ≡ g.nodes → IsTight g x charges set →
    KeepsRules g x charges (map not set) (edges_outside g set)
tight_keeps g x charges set graph full t =
    let first_low : (i : ℕ) → i < length g.ends → first_end g i < length set = λ i low. (let h = graph.graph.tails i low in omega (arith, h, full)) in
    let second_low : (i : ℕ) → i < length g.ends → second_end g i < length set = λ i low. (let h = graph.graph.heads i low in omega (arith, h, full)) in
    let edge : (i : ℕ) → i < length g.ends → has (edges_outside g set) i ≡ not (has set (first_end g i) && has set (second_end g i)) =
    λ i low. has_edge (λ e. not (lies_in set e)) g.ends i low in
    record {
      strict = λ v low less.
          let off : has set v ≡ false = elim (cases_Bool (has set v)) [
            | inl held ↦ absurd (let h = t.each v held in omega (arith, ints, h, less))
            | inr off ↦ off
          ] in
          has_not set v (omega (arith, low, full)) ∙ ap not off;
      edge_by_first = λ i low h. edge i low ∙ outside_first _ _ (out_of_true _ _ (sym (has_not set _ (first_low i low))) h);
      edge_by_second = λ i low h. edge i low ∙ outside_second _ _ (out_of_true _ _ (sym (has_not set _ (second_low i low))) h);
      first_by_edge = λ i low h more.
          let e = sym (edge i low) ∙ h in
          let off : has set (first_end g i) ≡ false = elim (cases_Bool (has set (first_end g i))) [
            | inl held ↦ absurd
                (let there = t.leaving i (record { in_range = low; passes = leaves_by set _ held (other_out _ _ e held) }) in
                omega (arith, ints, there, more))
            | inr off ↦ off
          ] in
          has_not set _ (first_low i low) ∙ ap not off;
      second_by_edge = λ i low h more.
          let e = sym (edge i low) ∙ h in
          let off : has set (second_end g i) ≡ false = elim (cases_Bool (has set (second_end g i))) [
            | inl held ↦ absurd
                (let there = t.entering i (record { in_range = low; passes = enters_by set _ held (other_out_first _ _ e held) }) in
                omega (arith, ints, there, more))
            | inr off ↦ off
          ] in
          has_not set _ (second_low i low) ∙ ap not off;
    }

-- the vertices that are not in a set
abbrev pub complement : ℕ → List Bool → List Bool
complement zero set = []
complement (suc n) [] = true ∷ complement n []
complement (suc n) (b ∷ set) = not b ∷ complement n set

pub length_complement : (n : ℕ) (set : List Bool) → length (complement n set) ≡ n
length_complement zero set = refl
length_complement (suc n) [] = ap suc (length_complement n [])
length_complement (suc n) (b ∷ set) = ap suc (length_complement n set)

pub has_complement : (n : ℕ) (set : List Bool) (v : ℕ) → v < n → has (complement n set) v ≡ not (has set v)
has_complement zero set v low = absurd (omega arith)
has_complement (suc n) [] zero low = refl
has_complement (suc n) [] (suc v) low = has_complement n [] v (omega arith)
has_complement (suc n) (b ∷ set) zero low = refl
has_complement (suc n) (b ∷ set) (suc v) low = has_complement n set v (omega arith)

-- a set whose outside keeps the rules has the density
pub record IsOutside (g : WeightedGraph) (set vertices : List Bool) : Type 0 where
  pub full : length set ≡ g.nodes
  pub rest : (v : ℕ) → v < g.nodes → has set v ≡ not (has vertices v)

rest_off : (a b : Bool) → a ≡ not b → a ≡ true → b ≡ false
rest_off true true e h = cc
rest_off true false e h = refl
rest_off false b e h = cc

rest_on : (a b : Bool) → a ≡ not b → a ≡ false → b ≡ true
rest_on true b e h = cc
rest_on false true e h = refl
rest_on false false e h = cc

pub rules_tie : (g : WeightedGraph) (x : Fraction) (charges : List ℤ) (set vertices edges : List Bool) → IsWeightedGraph g → AreCharges g x charges → AreWithin g x charges →
    KeepsRules g x charges vertices edges → IsOutside g set vertices → HasDensity g x set
rules_tie g x charges set vertices edges graph a w rules o =
    let s = spread_of g x charges set graph a w o.full in
    let e = s.by_edges in
    let l = s.low in
    let h = s.by_vertices in
    let seconds = second_charges x g.weights charges in
    let off : (v : ℕ) → v < g.nodes → has set v ≡ true → has vertices v ≡ false = λ v low held. rest_off _ _ (o.rest v low) held in
    let on : (v : ℕ) → v < g.nodes → has set v ≡ false → has vertices v ≡ true = λ v low held. rest_on _ _ (o.rest v low) held in
    let full_charge : (v : ℕ) → has set v ≡ true → allowance g x v ≤ℤ charged g x charges v = λ v held.
    (let there = inside set v held in
    let low : v < g.nodes = omega (arith, there, o.full) in
    by_lt_z (charged g x charges v) (allowance g x v)
    (λ less. absurd (both_ways _ (off v low held) (rules.strict v low less)))
    (λ fine. fine)) in
    let leaving : (i : ℕ) → Passes (leaves set) g.ends i → at_arc charges i ≤ℤ pos 0 = λ i p.
    (let parts = leaves_parts set _ p.passes in
    let first = graph.graph.tails i p.in_range in
    let second = graph.graph.heads i p.in_range in
    by_lt_z (pos 0) (at_arc charges i)
    (λ more. absurd (both_ways _ (off _ first parts.0) (rules.first_by_edge i p.in_range (rules.edge_by_second i p.in_range (on _ second parts.1)) more)))
    (λ fine. fine)) in
    let entering : (i : ℕ) → Passes (enters set) g.ends i → at_arc seconds i ≤ℤ pos 0 = λ i p.
    (let parts = enters_parts set _ p.passes in
    let first = graph.graph.tails i p.in_range in
    let second = graph.graph.heads i p.in_range in
    by_lt_z (pos 0) (at_arc seconds i)
    (λ more. absurd (both_ways _ (off _ second parts.0) (rules.second_by_edge i p.in_range (rules.edge_by_first i p.in_range (on _ first parts.1)) more)))
    (λ fine. fine)) in
    let none_first = sum_none (leaves set) g.ends charges leaving in
    let none_second = sum_none (enters set) g.ends seconds entering in
    let most = sum_over_most (λ v. allowance g x v) (λ v. charged g x charges v) set full_charge in
    let total = allowance_sum g x set in
    omega (arith, ints, e, l, h, none_first, none_second, most, total)

-- what certifies a density and a set proves them best
contained_by : (g : WeightedGraph) (set other vertices : List Bool) → ((v : ℕ) → v < g.nodes → has set v ≡ not (has vertices v)) → length other ≡ g.nodes →
    IsContained vertices (map not other) → IsContained other set
contained_by g set other vertices rest full c v held =
    let there = inside other v held in
    let low : v < g.nodes = omega (arith, there, full) in
    elim (cases_Bool (has vertices v)) [
      | inl dropped ↦ absurd (both_ways _ (has_not other v there ∙ ap not held) (c v dropped))
      | inr kept ↦ rest v low ∙ ap not kept
    ]

pub certificate_proves : (g : WeightedGraph) (x : Fraction) (set : List Bool) (charges : List ℤ) → IsWeightedGraph g → CertifiesDense g x set charges → IsDensest g x set
certificate_proves g x set charges graph c = record {
  parameter = c.parameter;
  vertices = record { full = c.full; some = c.some };
  density = rules_tie g x charges set c.vertices c.edges graph c.charges_are c.within c.dropped.rules (record { full = c.full; rest = c.rest });
  greatest = λ other s. none_denser g x charges other graph c.charges_are c.within s.full;
  holds = λ other s same.
      contained_by g set other c.vertices c.rest s.full
      (c.dropped.least_vertices (map not other) (edges_outside g other)
      (tight_keeps g x charges other graph s.full (tight_of g x charges other graph c.charges_are c.within s.full same)));
}

-- and charges within what each vertex may be charged certify the densest set
outside_least : (g : WeightedGraph) (x : Fraction) (set : List Bool) (charges : List ℤ) → IsWeightedGraph g → AreCharges g x charges → AreWithin g x charges →
    IsDensest g x set → (vertices edges : List Bool) → KeepsRules g x charges vertices edges → IsContained (map not set) vertices
outside_least g x set charges graph a w d vertices edges rules v out =
    let full = d.vertices.full in
    let there = inside (map not set) v out in
    let low : v < g.nodes = omega (arith, there, full, length_not set) in
    let off : has set v ≡ false = out_of_true _ _ (sym (has_not set v (omega (arith, low, full)))) out in
    elim (cases_Bool (has vertices v)) [
      | inl dropped ↦ dropped
      | inr kept ↦
          let other = complement g.nodes vertices in
          let held : has other v ≡ true = has_complement g.nodes vertices v low ∙ ap not kept in
          let o : IsOutside g other vertices = record { full = length_complement g.nodes vertices; rest = λ u below. has_complement g.nodes vertices u below } in
          let same = rules_tie g x charges other vertices edges graph a w rules o in
          absurd (both_ways _ off (d.holds other (record { full = o.full; some = record { vertex = v; held = held } }) same v held))
    ]

pub charges_certify : (g : WeightedGraph) (x : Fraction) (set : List Bool) (charges : List ℤ) → IsWeightedGraph g → AreCharges g x charges → AreWithin g x charges →
    IsDensest g x set → CertifiesDense g x set charges
charges_certify g x set charges graph a w d =
    let full = d.vertices.full in
    let least = outside_least g x set charges graph a w d in
    record {
      parameter = d.parameter;
      charges_are = a;
      within = w;
      vertices = map not set;
      edges = edges_outside g set;
      dropped = record {
        rules = tight_keeps g x charges set graph full (tight_of g x charges set graph a w full d.density);
        least_vertices = λ vertices edges rules. least vertices edges rules;
        least_edges = λ vertices edges rules i out.
            let low = edge_beyond (λ e. not (lies_in set e)) g.ends i out in
            let e = sym (has_edge (λ e. not (lies_in set e)) g.ends i low) ∙ out in
            let first = graph.graph.tails i low in
            let second = graph.graph.heads i low in
            elim (cases_Bool (has set (first_end g i))) [
              | inl held ↦
                  rules.edge_by_second i low (least vertices edges rules _ (has_not set _ (omega (arith, second, full)) ∙ ap not (other_out _ _ e held)))
              | inr off ↦
                  rules.edge_by_first i low (least vertices edges rules _ (has_not set _ (omega (arith, first, full)) ∙ ap not off))
            ];
      };
      full = full;
      rest = λ v low. elim (cases_Bool (has set v)) [
        | inl held ↦ held ∙ sym (ap not (has_not set v (omega (arith, low, full)) ∙ ap not held))
        | inr off ↦ off ∙ sym (ap not (has_not set v (omega (arith, low, full)) ∙ ap not off))
      ];
      some = d.vertices.some;
    }
