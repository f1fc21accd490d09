-- The numbers and points that are read off the least-cut function of a graph's network are its layers.
use Rattle.std.proofs.Common.{◌≡◌, ℕ, zero, suc, ◌+◌, ◌-◌, ◌<◌, List, length, Bool, true, false, arith, ap, sym, ◌∙◌, inl, inr, subst, add-one}
use Rattle.std.specs.Prelude.{ℤ, ◌*ℤ◌, ◌≤ℤ◌, ◌<ℤ◌, pos, negsuc, int_lt}
use Rattle.std.proofs.lemmas.Int.{ints, by_lt_z}
use Rattle.std.proofs.lemmas.Bool.{cases_lt}
use Rattle.pf_model.specs.Fraction.{Fraction, IsParameter, IsBelow}
use Rattle.pf_model.specs.Cut.{has, at_arc, union}
use Rattle.pf_model.specs.Curve.{IsCurve, point_at, cut_at}
use Rattle.pf_model.proofs.Exchange.{length-union}
use Rattle.pf_model.proofs.Integers.{mul_most_negative}
use Rattle.pf_model.proofs.Certificate.{point_is_parameter}
use Rattle.pf_graph.specs.WeightedGraph.{WeightedGraph, IsWeightedGraph}
use Rattle.pf_dense.specs.Newton.{IsStep}
use Rattle.pf_dense.specs.Reduction.{dense_net, side_of, outside_of}
use Rattle.pf_dense.proofs.NetLemmas.{cut_is_side, net_cut}
use Rattle.pf_layers.specs.Layers.{before, level_at, IsApart}
use Rattle.pf_layers.specs.DenseLayers.{IsDensestBeside, IsDenseLayers}
use Rattle.pf_layers.specs.Reading.{IsNumbered, outside_cut, AreFalling, HasNumber}
use Rattle.pf_layers.proofs.NumberingLemmas.{has_map, less_false}
use Rattle.pf_layers.proofs.Tower.{AreSteps, tower, some_more, all_before}
use Rattle.pf_layers.proofs.DenseNext.{IsLeastSet, dense_next, other_part}
use Rattle.pf_layers.proofs.DenseRead.{level_zero, all_step, right_of, left_of, first_at_zero}

-- neighbouring cuts have other vertices outside
outside_differs : (g : WeightedGraph) (points : List Fraction) (cuts : List (List Bool)) (i : ℕ) → IsCurve (dense_net g) points cuts → suc i < length cuts →
    outside_of g (cut_at cuts i) ≡ outside_of g (cut_at cuts (suc i)) → ⊥
outside_differs g points cuts i c low same =
    let net = dense_net g in
    let here = cut_is_side g (cut_at cuts i) (net_cut g _ (cut_at cuts i) (c.smallest i (omega (arith, low))).least.cut) in
    let there = cut_is_side g (cut_at cuts (suc i)) (net_cut g _ (cut_at cuts (suc i)) (c.smallest (suc i) low).least.cut) in
    let e : cut_at cuts i ≡ cut_at cuts (i + 1) = here ∙ ap side_of same ∙ sym there ∙ ap (cut_at cuts) (sym (add-one i)) in
    c.different i (omega (arith, low)) e

-- between two cuts
pub inner_next : (g : WeightedGraph) (points : List Fraction) (cuts : List (List Bool)) (levels : List Fraction) (layers : List ℤ) → IsWeightedGraph g →
    IsCurve (dense_net g) points cuts → IsNumbered g.nodes (outside_cut g cuts) layers (length cuts) → AreFalling g points cuts levels →
    (j : ℕ) (set : List Bool) → suc j < length cuts → length set ≡ g.nodes → IsApart (outside_cut g cuts j) set →
    before layers (suc (suc j)) ≡ union (outside_cut g cuts j) set → IsDensestBeside g (outside_cut g cuts j) (level_at levels j) set
inner_next g points cuts levels layers graph c m f j set low full apart same =
    let net = dense_net g in
    let k = length cuts in
    let i : ℕ = k - suc j in
    let h : ℕ = k - suc (suc j) in
    let e : suc h ≡ i = omega (arith, low) in
    let below = right_of g points cuts i graph c (omega (arith, low)) in
    let up = subst (λ n. IsStep g (point_at net points n) (outside_of g (cut_at cuts h))) e (left_of g points cuts h graph c (omega (arith, low))) in
    let next = m.before_is (suc j) low in
    let step = subst (IsStep g (point_at net points i)) (sym next) up in
    let some = some_more (outside_cut g cuts j) set (before layers (suc (suc j))) (full ∙ sym below.full) same
    (λ equal. outside_differs g points cuts h c (omega (arith, low)) (sym next ∙ equal ∙ ap (λ n. outside_of g (cut_at cuts n)) (sym e))) in
    subst (λ x. IsDensestBeside g (outside_cut g cuts j) x set) (sym (f.each j low))
    (dense_next g (point_at net points i) (outside_cut g cuts j) (before layers (suc (suc j))) set below step
    (record { full = full; some = record { vertex = some.place; held = some.held } }) apart same)

-- after the first cut
pub last_next : (g : WeightedGraph) (points : List Fraction) (cuts : List (List Bool)) (layers : List ℤ) → IsWeightedGraph g →
    IsCurve (dense_net g) points cuts → IsNumbered g.nodes (outside_cut g cuts) layers (length cuts) → HasNumber layers (length cuts) →
    (j : ℕ) (set : List Bool) → suc j ≡ length cuts → length set ≡ g.nodes → IsApart (outside_cut g cuts j) set →
    before layers (suc (suc j)) ≡ union (outside_cut g cuts j) set → IsDensestBeside g (outside_cut g cuts j) level_zero set
last_next g points cuts layers graph c m n j set last full apart same =
    let all = before layers (suc (suc j)) in
    let none : zero ≡ length cuts - suc j = omega (arith, last) in
    let below = subst (λ i. IsLeastSet g level_zero (outside_of g (cut_at cuts i))) none (first_at_zero g points cuts graph c) in
    let on : (v : ℕ) → v < g.nodes → has all v ≡ true = λ v low. ap (λ i. has (before layers (suc i)) v) last ∙ all_before g.nodes (outside_cut g cuts) layers (length cuts) m v low in
    let v = n.element in
    let wide = m.full in
    let there = n.there in
    let number = n.number in
    let off : has (outside_cut g cuts j) v ≡ false =
    ap (λ l. has l v) (sym (m.before_is j (omega (arith, last)))) ∙ has_map (λ x. int_lt x (pos (suc j))) layers v there
    ∙ less_false (at_arc layers v) (pos (suc j)) (omega (arith, ints, number, last)) in
    let held = other_part (outside_cut g cuts j) set v (ap (λ l. has l v) (sym same) ∙ on v (omega (arith, there, wide))) off in
    dense_next g level_zero (outside_cut g cuts j) all set below
    (all_step g all graph (ap length same ∙ union_full (outside_cut g cuts j) set g.nodes below.full full) on)
    (record { full = full; some = record { vertex = v; held = held } }) apart same
  where
    union_full : (xs ys : List Bool) (n : ℕ) → length xs ≡ n → length ys ≡ n → length (union xs ys) ≡ n
    union_full xs ys n e h = length-union xs ys (e ∙ sym h) ∙ e

-- levels fall along the points
inner_fall : (g : WeightedGraph) (points : List Fraction) (cuts : List (List Bool)) (levels : List Fraction) → IsCurve (dense_net g) points cuts → AreFalling g points cuts levels →
    (j : ℕ) → suc (suc j) < length cuts → IsBelow (level_at levels (suc j)) (level_at levels j)
inner_fall g points cuts levels c f j low =
    let net = dense_net g in
    let h : ℕ = length cuts - suc (suc j) in
    let e : h + 1 ≡ length cuts - suc j = omega (arith, low) in
    let rise = subst (λ n. IsBelow (point_at net points h) (point_at net points n)) e (c.division.rise h (omega (arith, low))) in
    rw (f.each (suc j) low, f.each j (omega (arith, low))) rise

above_zero : (p q r : ℤ) → pos 1 ≤ℤ q → (pos 0 *ℤ r) <ℤ (p *ℤ q) → (pos 0 *ℤ r) <ℤ (p *ℤ pos 1)
above_zero (pos zero) q r unit h = absurd (omega (arith, ints, h))
above_zero (pos (suc p)) q r unit h = omega (arith, ints)
above_zero (negsuc p) q r unit h =
    absurd (let l = mul_most_negative (negsuc p) (pos 0) q (omega (arith, ints)) (omega (arith, ints, unit)) in omega (arith, ints, l, h))

zero_below : (x y : Fraction) → IsParameter x → x.p *ℤ pos 1 ≡ pos 0 *ℤ x.q → IsBelow x y → IsBelow level_zero y
zero_below x y unit e less =
    let z : x.p ≡ pos 0 = omega (arith, ints, e) in
    let f = ap (λ n. n *ℤ y.q) z in
    above_zero y.p x.q y.q unit (omega (arith, ints, less, f))

last_fall : (g : WeightedGraph) (points : List Fraction) (cuts : List (List Bool)) (levels : List Fraction) → IsCurve (dense_net g) points cuts → AreFalling g points cuts levels →
    (j : ℕ) → suc (suc j) ≡ length cuts → level_at levels (suc j) ≡ level_zero → IsBelow (level_at levels (suc j)) (level_at levels j)
last_fall g points cuts levels c f j last none =
    let net = dense_net g in
    let d = c.division in
    let e : 1 ≡ length cuts - suc j = omega (arith, last) in
    let rise = d.rise 0 d.some in
    let above = zero_below (point_at net points 0) (point_at net points 1) (point_is_parameter net points cuts d 0 (omega arith)) d.low rise in
    let there = subst (λ n. IsBelow level_zero (point_at net points n)) e above in
    rw (none, f.each j (omega (arith, last))) there

-- with a last layer of level 0
pub layers_with_rest : (g : WeightedGraph) (points : List Fraction) (cuts : List (List Bool)) (levels : List Fraction) (layers : List ℤ) → IsWeightedGraph g →
    IsCurve (dense_net g) points cuts → IsNumbered g.nodes (outside_cut g cuts) layers (length cuts) → AreFalling g points cuts levels →
    HasNumber layers (length cuts) → length levels ≡ length cuts → ((j : ℕ) → suc j ≡ length cuts → level_at levels j ≡ level_zero) → IsDenseLayers g levels layers
layers_with_rest g points cuts levels layers graph c m f n count none =
    let net = dense_net g in
    let some = c.division.some in
    let steps : AreSteps g.nodes (IsDensestBeside g) (outside_cut g cuts) layers levels = record {
      parameters = λ j low. elim (cases_lt (suc j) (length cuts)) [
        | inl less ↦ subst IsParameter (sym (f.each j less)) (point_is_parameter net points cuts c.division (length cuts - suc j) (omega arith))
        | inr most ↦ subst IsParameter (sym (none j (omega (arith, low, most, count)))) (omega (arith, ints))
      ];
      next = λ j set low full apart same. elim (cases_lt (suc j) (length cuts)) [
        | inl less ↦ inner_next g points cuts levels layers graph c m f j set less full apart same
        | inr most ↦
            let last : suc j ≡ length cuts = omega (arith, low, most, count) in
            subst (λ x. IsDensestBeside g (outside_cut g cuts j) x set) (sym (none j last)) (last_next g points cuts layers graph c m n j set last full apart same)
      ];
    } in
    record {
      layers_are = tower g.nodes (IsDensestBeside g) (outside_cut g cuts) layers levels (omega (arith, some, count))
          (subst (IsNumbered g.nodes (outside_cut g cuts) layers) (sym count) m) steps;
      fall = λ j low.
          let to : suc j < length cuts = omega (arith, low, count) in
          let here : IsBelow (level_at levels (suc j)) (level_at levels j) = elim (cases_lt (suc (suc j)) (length cuts)) [
            | inl less ↦ inner_fall g points cuts levels c f j less
            | inr most ↦ let last : suc (suc j) ≡ length cuts = omega (arith, to, most) in last_fall g points cuts levels c f j last (none (suc j) last)
          ] in
          subst (λ i. IsBelow (level_at levels i) (level_at levels j)) (sym (add-one j)) here;
    }

-- where no vertex is left, one number less is used
fewer_numbers : (n : ℕ) (sets : ℕ → List Bool) (layers : List ℤ) (count : ℕ) → IsNumbered n sets layers (suc count) → (HasNumber layers (suc count) → ⊥) → IsNumbered n sets layers count
fewer_numbers n sets layers count m none = record {
  full = m.full;
  low = m.low;
  high = λ v low.
      let most = m.high v low in
      let wide = m.full in
      by_lt_z (pos count) (at_arc layers v)
      (λ above. absurd (none (record { element = v; there = omega (arith, low, wide); number = omega (arith, ints, above, most) })))
      (λ fine. fine);
  before_is = λ j low. m.before_is j (omega (arith, low));
}

-- without one
pub layers_without_rest : (g : WeightedGraph) (points : List Fraction) (cuts : List (List Bool)) (levels : List Fraction) (layers : List ℤ) → IsWeightedGraph g →
    IsCurve (dense_net g) points cuts → IsNumbered g.nodes (outside_cut g cuts) layers (length cuts) → AreFalling g points cuts levels →
    (HasNumber layers (length cuts) → ⊥) → suc (length levels) ≡ length cuts → IsDenseLayers g levels layers
layers_without_rest g points cuts levels layers graph c m f none count =
    let net = dense_net g in
    let less_one = fewer_numbers g.nodes (outside_cut g cuts) layers (length levels) (subst (IsNumbered g.nodes (outside_cut g cuts) layers) (sym count) m)
    (subst (λ k. HasNumber layers k → ⊥) (sym count) none) in
    let first = graph.some in
    let low_first = less_one.low 0 first in
    let high_first = less_one.high 0 first in
    let steps : AreSteps g.nodes (IsDensestBeside g) (outside_cut g cuts) layers levels = record {
      parameters = λ j low.
          subst IsParameter (sym (f.each j (omega (arith, low, count)))) (point_is_parameter net points cuts c.division (length cuts - suc j) (omega arith));
      next = λ j set low full apart same. inner_next g points cuts levels layers graph c m f j set (omega (arith, low, count)) full apart same;
    } in
    record {
      layers_are = tower g.nodes (IsDensestBeside g) (outside_cut g cuts) layers levels (omega (arith, ints, low_first, high_first)) less_one steps;
      fall = λ j low.
          let here = inner_fall g points cuts levels c f j (omega (arith, low, count)) in
          subst (λ i. IsBelow (level_at levels i) (level_at levels j)) (sym (add-one j)) here;
    }
