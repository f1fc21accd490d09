-- At most one list of layers of items is right.
use Rattle.std.proofs.Common.{List, length, Bool, arith, sym, ◌∙◌}
use Rattle.std.specs.Prelude.{◌*ℤ◌, ◌≤ℤ◌, pos}
use Rattle.std.proofs.lemmas.Int.{ints}
use Rattle.pf_model.specs.Fraction.{Fraction, IsParameter, IsEqual}
use Rattle.pf_model.proofs.Unique.{same_sides}
use Rattle.pf_closure.specs.Problem.{ClosureProblem, IsClosureProblem, cost_of, weight_of}
use Rattle.pf_closure.proofs.ItemSums.{weight_some}
use Rattle.pf_layers.specs.Layers.{IsApart}
use Rattle.pf_layers.specs.RatioLayers.{ClosesBeside, IsLeastBeside}
use Rattle.pf_layers.specs.Laws.{OneRatioLayers, OneRatioLevels}
use Rattle.pf_layers.proofs.Ratios.{at_least_by, carried_over}
use Rattle.pf_layers.proofs.OneLayering.{IsSameNext, HasOneNext, one_layering, same_levels}

pub weighs : (p : ClosureProblem) (taken set : List Bool) → IsClosureProblem p → ClosesBeside p taken set → pos 1 ≤ℤ weight_of p set
weighs p taken set problem c =
    let wide = problem.full in
    let full = c.full in
    weight_some set p.weights c.some.item (λ i low. problem.heavy i (omega (arith, low, wide))) (omega (arith, wide, full)) c.some.held

level_at_most : (p : ClosureProblem) (taken : List Bool) (x y : Fraction) (set other : List Bool) → IsClosureProblem p → IsParameter y →
    IsLeastBeside p taken x set → IsLeastBeside p taken y other → (x.p *ℤ y.q) ≤ℤ (y.p *ℤ x.q)
level_at_most p taken x y set other problem py a b =
    at_least_by x.p x.q y.p y.q (cost_of p other) (weight_of p other) py (weighs p taken other problem b.closes) (a.least other b.closes) b.ratio

one_next : (p : ClosureProblem) → IsClosureProblem p → (taken : List Bool) (x y : Fraction) (set other : List Bool) → IsParameter x → IsParameter y →
    IsApart taken set → IsApart taken other → IsLeastBeside p taken x set → IsLeastBeside p taken y other → IsSameNext x y set other
one_next p problem taken x y set other px py apart apart' a b =
    let one = level_at_most p taken x y set other problem py a b in
    let two = level_at_most p taken y x other set problem px b a in
    let equal : IsEqual x y = omega (arith, ints, one, two) in
    record {
      equal = equal;
      same = same_sides set other (a.closes.full ∙ sym b.closes.full)
          (b.greatest set a.closes (carried_over y.p y.q x.p x.q (cost_of p set) (weight_of p set) px (sym equal) a.ratio))
          (a.greatest other b.closes (carried_over x.p x.q y.p y.q (cost_of p other) (weight_of p other) py equal b.ratio));
    }

has_one_next : (p : ClosureProblem) → IsClosureProblem p → HasOneNext (length p.costs) (IsLeastBeside p)
has_one_next p problem = record {
  one = one_next p problem;
  some = λ taken x set b. record { element = b.closes.some.item; held = b.closes.some.held };
}

pub one_ratio : OneRatioLayers
one_ratio p levels levels' layers layers' problem a b =
    one_layering (length p.costs) (IsLeastBeside p) levels levels' layers layers' (has_one_next p problem) a.layers_are b.layers_are

pub one_ratio_levels : OneRatioLevels
one_ratio_levels p levels levels' layers layers' problem a b lowest lowest' =
    same_levels (length p.costs) (IsLeastBeside p) levels levels' layers layers' a.layers_are b.layers_are (one_ratio p levels levels' layers layers' problem a b) lowest lowest'
