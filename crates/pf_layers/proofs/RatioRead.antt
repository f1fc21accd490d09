-- What the least-cut function of a network of items says of the items in its cuts.
use Rattle.std.proofs.Common.{◌≡◌, ℕ, zero, suc, ◌<◌, List, [], ◌∷◌, length, map, replicate, refl, Bool, true, false, not, ◌||◌, arith, ap, sym, ◌∙◌, inl, inr, subst, add-one}
use Rattle.std.specs.Prelude.{ℤ, ◌+ℤ◌, ◌-ℤ◌, ◌*ℤ◌, ◌≤ℤ◌, pos, neg_ℤ}
use Rattle.std.proofs.lemmas.Int.{ints}
use Rattle.std.proofs.lemmas.Bool.{cases_Bool}
use Rattle.pf_model.specs.Fraction.{Fraction, IsBelow, IsAtMost}
use Rattle.pf_model.specs.Cut.{has, union, capacity, IsCut, IsLeast}
use Rattle.pf_model.specs.Network.{network_at, IsInInterval, IsNetworkCut}
use Rattle.pf_model.specs.Curve.{IsCurve, point_at, cut_at}
use Rattle.pf_model.proofs.Exchange.{has-union, length-union}
use Rattle.pf_model.proofs.Certificate.{at_most_reflexive, point_inside}
use Rattle.pf_closure.specs.Problem.{ClosureProblem, IsClosureProblem, IsBoundedProblem, IsClosure, sum_of_side, cost_of, weight_of, needed_at}
use Rattle.pf_closure.specs.Reduction.{closure_net, side_of, items_of}
use Rattle.pf_closure.proofs.ItemSums.{has_not}
use Rattle.pf_closure.proofs.RatioLemmas.{weighed}
use Rattle.pf_closure.proofs.NetBuilt.{net_monotone}
use Rattle.pf_closure.proofs.NetLemmas.{closure_capacity, closure_cut}
use Rattle.pf_closure.proofs.LeastCuts.{cut_is_side, net_cut, least_is_closure, none_closed, none_of}
use Rattle.pf_layers.specs.Layers.{IsApart}
use Rattle.pf_layers.proofs.RatioNext.{excess, IsLeastClosure, beside}
use Rattle.pf_dense.proofs.Soundness.{length_not}

at_cut : (p : ClosureProblem) (x : Fraction) (side : List Bool) → IsNetworkCut (closure_net p) side → IsCut (network_at (closure_net p) x) side
at_cut p x side c = record { full = c.full; with_source = c.with_source; without_sink = c.without_sink }

-- the items of a least cut are a closure of the least excess
pub least_of_cut : (p : ClosureProblem) (x : Fraction) (side : List Bool) → IsBoundedProblem p → IsInInterval (closure_net p) x → IsLeast (network_at (closure_net p) x) side →
    IsLeastClosure p x (items_of p side)
least_of_cut p x side items within s =
    let net = network_at (closure_net p) x in
    let set = items_of p side in
    let problem = items.problem in
    let closed = least_is_closure p x side items within s in
    let here = ap (capacity net) (cut_is_side p side (net_cut p x side s.cut)) ∙ closure_capacity p set x problem closed in
    record {
      closure = closed;
      least = λ other c.
          let there = closure_capacity p other x problem c in
          let most = s.least (side_of other) (at_cut p x (side_of other) (closure_cut p other c.full)) in
          omega (arith, ints, here, there, most);
    }

-- cut i at its left point and at its right one
pub at_left : (p : ClosureProblem) (points : List Fraction) (cuts : List (List Bool)) (i : ℕ) → IsBoundedProblem p → IsCurve (closure_net p) points cuts → i < length cuts →
    IsLeastClosure p (point_at (closure_net p) points i) (items_of p (cut_at cuts i))
at_left p points cuts i items c low =
    let net = closure_net p in
    let x = point_at net points i in
    let rise = c.division.rise i low in
    let within = point_inside net points cuts (net_monotone p items) c.division i (omega (arith, low)) in
    least_of_cut p x (cut_at cuts i) items within (c.least i low x within.parameter (at_most_reflexive x) (omega (arith, ints, rise)))

pub at_right : (p : ClosureProblem) (points : List Fraction) (cuts : List (List Bool)) (i : ℕ) → IsBoundedProblem p → IsCurve (closure_net p) points cuts → i < length cuts →
    IsLeastClosure p (point_at (closure_net p) points (suc i)) (items_of p (cut_at cuts i))
at_right p points cuts i items c low =
    let net = closure_net p in
    let x = point_at net points (suc i) in
    let rise : IsBelow (point_at net points i) x = subst (λ n. IsBelow (point_at net points i) (point_at net points n)) (add-one i) (c.division.rise i low) in
    let within = point_inside net points cuts (net_monotone p items) c.division (suc i) (omega (arith, low)) in
    least_of_cut p x (cut_at cuts i) items within
    (c.least i low x within.parameter (omega (arith, ints, rise)) (subst (λ n. IsAtMost x (point_at net points n)) (sym (add-one i)) (at_most_reflexive x)))

-- no item is in a cut that is least at the low end
none_step : (c w e : ℤ) → pos 1 ≤ℤ w → neg_ℤ (pos 1000000 *ℤ w) ≤ℤ c → e ≡ pos 0 → ((pos 1 *ℤ c) -ℤ (neg_ℤ (pos 1000001) *ℤ w)) ≤ℤ e → ⊥
none_step c w e heavy low none h = omega (arith, ints, heavy, low, none, h)

-- every item is in one that is least at the high end
all_step : (c w a b : ℤ) → pos 1 ≤ℤ w → c ≤ℤ (pos 1000000 *ℤ w) → b ≡ a +ℤ ((pos 1 *ℤ c) -ℤ (pos 1000001 *ℤ w)) → a ≤ℤ b → ⊥
all_step c w a b heavy high e h = omega (arith, ints, heavy, high, e, h)

either : (a b : Bool) → b ≡ not a → (a || b) ≡ true
either true b e = refl
either false b e = e

-- a set and what is outside it
outside_apart : (set : List Bool) → IsApart set (map not set)
outside_apart set = record { outside = off set }
  where
    off : (set : List Bool) (v : ℕ) → has (map not set) v ≡ true → has set v ≡ false
    off [] v h = cc
    off (true ∷ set) zero h = cc
    off (false ∷ set) zero h = refl
    off (b ∷ set) (suc v) h = off set v h

whole_on : (set : List Bool) (v : ℕ) → v < length set → has (union set (map not set)) v ≡ true
whole_on set v low = has-union set (map not set) v ∙ either (has set v) (has (map not set) v) (has_not set v low)

whole_closed : (p : ClosureProblem) (set : List Bool) → IsClosureProblem p → length set ≡ length p.costs → IsClosure p (union set (map not set))
whole_closed p set problem full = record {
  full = length-union set (map not set) (sym (length_not set)) ∙ full;
  closed = λ k low h. let there = problem.needed k low in whole_on set (needed_at p k) (omega (arith, there, full));
}

pub all_at_high : (p : ClosureProblem) (set : List Bool) → IsBoundedProblem p → IsLeastClosure p (closure_net p).high set → (v : ℕ) → v < length p.costs → has set v ≡ true
all_at_high p set items l v low = elim (cases_Bool (has set v)) [
  | inl on ↦ on
  | inr off ↦ absurd
      (let x = (closure_net p).high in
      let rest = map not set in
      let full = l.closure.full in
      let w = weighed p rest items (length_not set ∙ full) (record { item = v; held = has_not set v (omega (arith, low, full)) ∙ ap not off }) in
      let e = beside p x set rest (outside_apart set) in
      let most = l.least (union set rest) (whole_closed p set items.problem full) in
      all_step (cost_of p rest) (weight_of p rest) (excess p x set) (excess p x (union set rest)) w.heavy w.high e most)
]

sum_none : (n : ℕ) (xs : List ℤ) → sum_of_side (replicate n false) xs ≡ pos 0
sum_none zero xs = refl
sum_none (suc n) [] = refl
sum_none (suc n) (x ∷ xs) = let rest = sum_none n xs in omega (arith, ints, rest)

no_excess : (c w : ℤ) → c ≡ pos 0 → w ≡ pos 0 → (pos 1 *ℤ c) -ℤ (neg_ℤ (pos 1000001) *ℤ w) ≡ pos 0
no_excess c w e h = omega (arith, ints, e, h)

pub none_at_low : (p : ClosureProblem) (set : List Bool) → IsBoundedProblem p → IsLeastClosure p (closure_net p).low set → (v : ℕ) → has set v ≡ false
none_at_low p set items l v = elim (cases_Bool (has set v)) [
  | inr off ↦ off
  | inl on ↦ absurd
      (let w = weighed p set items l.closure.full (record { item = v; held = on }) in
      none_step (cost_of p set) (weight_of p set) (excess p (closure_net p).low (none_of p)) w.heavy w.low
      (no_excess (cost_of p (none_of p)) (weight_of p (none_of p)) (sum_none (length p.costs) p.costs) (sum_none (length p.costs) p.weights)) (l.least (none_of p) (none_closed p)))
]
