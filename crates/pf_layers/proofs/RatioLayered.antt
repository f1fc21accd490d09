-- The numbers and points that are read off the least-cut function of a network of items are their layers.
use Rattle.std.proofs.Common.{◌≡◌, ℕ, zero, suc, ◌+◌, ◌<◌, List, length, Bool, true, false, arith, ap, sym, ◌∙◌, inl, inr, subst, add-one}
use Rattle.std.specs.Prelude.{ℤ, ◌*ℤ◌}
use Rattle.std.proofs.lemmas.Int.{ints}
use Rattle.std.proofs.lemmas.Bool.{cases_lt, both_ways}
use Rattle.pf_model.specs.Fraction.{Fraction, IsParameter, IsBelow, IsAtMost}
use Rattle.pf_model.specs.Cut.{has, union}
use Rattle.pf_model.specs.Curve.{IsCurve, point_at, cut_at}
use Rattle.pf_model.proofs.Balance.{inside}
use Rattle.pf_model.proofs.Unique.{same_sides}
use Rattle.pf_model.proofs.Certificate.{at_most_reflexive, at_most_trans, point_is_parameter}
use Rattle.pf_closure.specs.Problem.{ClosureProblem, IsBoundedProblem, IsClosure}
use Rattle.pf_closure.specs.Reduction.{closure_net, side_of}
use Rattle.pf_closure.proofs.NetBuilt.{net_monotone}
use Rattle.pf_closure.proofs.LeastCuts.{cut_is_side, net_cut}
use Rattle.pf_layers.specs.Layers.{before, level_at, IsApart}
use Rattle.pf_layers.specs.RatioLayers.{IsLeastBeside, IsRatioLayers}
use Rattle.pf_layers.specs.Reading.{IsNumbered, items_in, AreRising}
use Rattle.pf_layers.proofs.NumberingLemmas.{before_length}
use Rattle.pf_layers.proofs.Tower.{AreSteps, tower, some_more, all_before}
use Rattle.pf_layers.proofs.RatioNext.{contains_least, ratio_next}
use Rattle.pf_layers.proofs.RatioRead.{least_of_cut, at_left, at_right, all_at_high, none_at_low}

-- neighbouring cuts hold other items
items_differ : (p : ClosureProblem) (points : List Fraction) (cuts : List (List Bool)) (i : ℕ) → IsCurve (closure_net p) points cuts → suc i < length cuts →
    items_in p cuts (suc i) ≡ items_in p cuts i → ⊥
items_differ p points cuts i c low same =
    let here = cut_is_side p (cut_at cuts i) (net_cut p _ (cut_at cuts i) (c.smallest i (omega (arith, low))).least.cut) in
    let there = cut_is_side p (cut_at cuts (suc i)) (net_cut p _ (cut_at cuts (suc i)) (c.smallest (suc i) low).least.cut) in
    let e : cut_at cuts i ≡ cut_at cuts (i + 1) = here ∙ ap side_of (sym same) ∙ sym there ∙ ap (cut_at cuts) (sym (add-one i)) in
    c.different i (omega (arith, low)) e

-- the first cut holds none and the last one all
pub first_none : (p : ClosureProblem) (points : List Fraction) (cuts : List (List Bool)) → IsBoundedProblem p → IsCurve (closure_net p) points cuts →
    (v : ℕ) → has (items_in p cuts 0) v ≡ false
first_none p points cuts items c =
    let net = closure_net p in
    let d = c.division in
    let m = net_monotone p items in
    let low = m.low in
    let start = d.low in
    let rise = d.rise 0 d.some in
    let unit = point_is_parameter net points cuts d 0 (omega arith) in
    let unit' = point_is_parameter net points cuts d 1 (let some = d.some in omega (arith, some)) in
    let interval = m.interval in
    none_at_low p (items_in p cuts 0) items
    (least_of_cut p net.low (cut_at cuts 0) items (record { parameter = low; low = at_most_reflexive net.low; high = omega (arith, ints, interval) })
    (c.least 0 d.some net.low low (omega (arith, ints, start))
    (at_most_trans net.low (point_at net points 0) (point_at net points 1) low unit unit' (omega (arith, ints, start)) (omega (arith, ints, rise)))))

pub last_all : (p : ClosureProblem) (points : List Fraction) (cuts : List (List Bool)) (i : ℕ) → IsBoundedProblem p → IsCurve (closure_net p) points cuts → suc i ≡ length cuts →
    (v : ℕ) → v < length p.costs → has (items_in p cuts i) v ≡ true
last_all p points cuts i items c last =
    let net = closure_net p in
    let d = c.division in
    let m = net_monotone p items in
    let high = m.high in
    let end = subst (λ n. (point_at net points n).p *ℤ net.high.q ≡ net.high.p *ℤ (point_at net points n).q) (sym last) d.high in
    let rise = subst (λ n. IsBelow (point_at net points i) (point_at net points n)) (add-one i) (d.rise i (omega (arith, last))) in
    let unit = point_is_parameter net points cuts d i (omega (arith, last)) in
    let unit' = point_is_parameter net points cuts d (suc i) (omega (arith, last)) in
    let interval = m.interval in
    let behind : IsAtMost net.high (point_at net points (suc i)) = omega (arith, ints, end) in
    all_at_high p (items_in p cuts i) items
    (least_of_cut p net.high (cut_at cuts i) items (record { parameter = high; low = omega (arith, ints, interval); high = at_most_reflexive net.high })
    (c.least i (omega (arith, last)) net.high high
    (at_most_trans (point_at net points i) (point_at net points (suc i)) net.high unit unit' high (omega (arith, ints, rise)) (omega (arith, ints, end)))
    (subst (λ n. IsAtMost net.high (point_at net points n)) (sym (add-one i)) behind)))

-- between two cuts
next_of : (p : ClosureProblem) (points : List Fraction) (cuts : List (List Bool)) (layers : List ℤ) → IsBoundedProblem p → IsCurve (closure_net p) points cuts →
    (j : ℕ) (set : List Bool) → suc j < length cuts → length set ≡ length p.costs → IsApart (items_in p cuts j) set → items_in p cuts (suc j) ≡ union (items_in p cuts j) set →
    IsLeastBeside p (items_in p cuts j) (point_at (closure_net p) points (suc j)) set
next_of p points cuts layers items c j set low full apart same =
    let net = closure_net p in
    let d = c.division in
    let x = point_at net points (suc j) in
    let y = point_at net points (suc (suc j)) in
    let px = point_is_parameter net points cuts d (suc j) (omega (arith, low)) in
    let py = point_is_parameter net points cuts d (suc (suc j)) (omega (arith, low)) in
    let order = subst (λ n. IsBelow x (point_at net points n)) (add-one (suc j)) (d.rise (suc j) low) in
    let below = at_right p points cuts j items c (omega (arith, low)) in
    let step = at_left p points cuts (suc j) items c low in
    let above = at_right p points cuts (suc j) items c low in
    let some = some_more (items_in p cuts j) set (items_in p cuts (suc j)) (full ∙ sym below.closure.full) same (items_differ p points cuts j c low) in
    ratio_next p x (items_in p cuts j) (items_in p cuts (suc j)) set below step
    (λ other also. contains_least p x y (items_in p cuts (suc j)) other items.problem px py order step above also)
    (record { full = full; some = record { item = some.place; held = some.held }; apart = apart; closure = subst (IsClosure p) same step.closure })
    same

-- after each layer stands the next cut
behind_is : (p : ClosureProblem) (points : List Fraction) (cuts : List (List Bool)) (layers : List ℤ) (count : ℕ) → IsBoundedProblem p → IsCurve (closure_net p) points cuts →
    suc count ≡ length cuts → IsNumbered (length p.costs) (items_in p cuts) layers count → (j : ℕ) → j < count → before layers (suc (suc j)) ≡ items_in p cuts (suc j)
behind_is p points cuts layers count items c many m j low = elim (cases_lt (suc j) count) [
  | inl less ↦ m.before_is (suc j) less
  | inr most ↦
      let e : count ≡ suc j = omega (arith, low, most) in
      let closed = (at_left p points cuts (suc j) items c (omega (arith, many, e))).closure in
      let wide : length (before layers (suc (suc j))) ≡ length p.costs = before_length layers (suc (suc j)) ∙ m.full in
      let on : (v : ℕ) → v < length p.costs → has (before layers (suc (suc j))) v ≡ true =
      λ v h. ap (λ n. has (before layers (suc n)) v) (sym e) ∙ all_before (length p.costs) (items_in p cuts) layers count m v h in
      let full = closed.full in
      same_sides (before layers (suc (suc j))) (items_in p cuts (suc j)) (wide ∙ sym full)
      (λ v h. last_all p points cuts (suc j) items c (omega (arith, many, e)) v (let there = inside (before layers (suc (suc j))) v h in omega (arith, there, wide)))
      (λ v h. on v (let there = inside (items_in p cuts (suc j)) v h in omega (arith, there, full)))
]

-- there are two cuts at least
pub two_cuts : (p : ClosureProblem) (points : List Fraction) (cuts : List (List Bool)) (count : ℕ) → IsBoundedProblem p → IsCurve (closure_net p) points cuts →
    suc count ≡ length cuts → 0 < count
two_cuts p points cuts zero items c many =
    absurd (both_ways _ (first_none p points cuts items c 0) (last_all p points cuts 0 items c many 0 items.problem.some))
two_cuts p points cuts (suc count) items c many = omega arith

pub ratio_layers : (p : ClosureProblem) (points : List Fraction) (cuts : List (List Bool)) (levels : List Fraction) (layers : List ℤ) (count : ℕ) → IsBoundedProblem p →
    IsCurve (closure_net p) points cuts → suc count ≡ length cuts → IsNumbered (length p.costs) (items_in p cuts) layers count → AreRising p points levels count →
    IsRatioLayers p levels layers
ratio_layers p points cuts levels layers count items c many m f =
    let net = closure_net p in
    let full = f.full in
    let steps : AreSteps (length p.costs) (IsLeastBeside p) (items_in p cuts) layers levels = record {
      parameters = λ j low.
          subst IsParameter (sym (f.each j (omega (arith, low, full)))) (point_is_parameter net points cuts c.division (suc j) (omega (arith, low, full, many)));
      next = λ j set low wide apart same.
          let here : j < count = omega (arith, low, full) in
          subst (λ x. IsLeastBeside p (items_in p cuts j) x set) (sym (f.each j here))
          (next_of p points cuts layers items c j set (omega (arith, here, many)) wide apart (sym (behind_is p points cuts layers count items c many m j here) ∙ same));
    } in
    record {
      layers_are = tower (length p.costs) (IsLeastBeside p) (items_in p cuts) layers levels (let some = two_cuts p points cuts count items c many in omega (arith, some, full))
          (subst (IsNumbered (length p.costs) (items_in p cuts) layers) (sym full) m) steps;
      rise = λ j low.
          let here : suc j < count = omega (arith, low, full) in
          let up = subst (λ n. IsBelow (point_at net points (suc j)) (point_at net points n)) (add-one (suc j)) (c.division.rise (suc j) (omega (arith, here, many))) in
          let told : IsBelow (level_at levels j) (level_at levels (suc j)) = rw (f.each j (omega (arith, here)), f.each (suc j) here) up in
          subst (λ n. IsBelow (level_at levels j) (level_at levels n)) (sym (add-one j)) told;
    }
