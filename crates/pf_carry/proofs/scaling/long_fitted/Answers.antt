use Rattle.std.proofs.Common.{arith, sym, ◌∙◌, to_z, of_z, refl}
use Rattle.std.specs.Prelude.{◌≡◌, ◌≤ℤ◌, ◌<ℤ◌}
use Rattle.std.proofs.lemmas.Int.{ints, to_z-of_z}
use mir.Syntax.{w128}
use Rattle.pf_carry.proofs.Floors.{carried_full, carried_cut, chosen_first, chosen_second}
use Rattle.pf_carry.proofs.scaling.long_fitted.Goals as goal

pub returns-then-fills-clause-value : goal.returns-then-fills-clause-value
returns-then-fills-clause-value c =
    let full = rw (to_z-of_z w128 c.args.cap c.ranges.cap, to_z-of_z w128 c.args.from c.ranges.from, to_z-of_z w128 c.args.x c.ranges.x, to_z-of_z w128 c.args.to c.ranges.to) at c.if-fills.ensures refl in
    let to = c.requires.to.low in
    to_z-of_z w128 c.args.cap c.ranges.cap ∙ sym (carried_full c.args.from c.args.to c.args.cap c.args.x c.requires.from.low (omega (arith, ints, to)) c.requires.low full)

pub returns-then-cap-number-clause-value : goal.returns-then-cap-number-clause-value
returns-then-cap-number-clause-value c =
    let f = rw (to_z-of_z w128 c.args.x c.ranges.x, to_z-of_z w128 c.args.from c.ranges.from, to_z-of_z w128 c.args.to c.ranges.to) at c.rescaled-number.ensures.floor in
    let to = c.requires.to.low in
    let cut = carried_cut c.args.from c.args.to c.args.cap c.args.x c.rescaled-number.result c.requires.from.low (omega (arith, ints, to)) c.requires.low f in
    let most : c.args.cap ≤ℤ c.rescaled-number.result = omega (arith, ints, c.if-cap-number.true) in
    to_z-of_z w128 c.args.cap c.ranges.cap ∙ (chosen_first c.args.cap c.rescaled-number.result most ∙ sym cut)

pub returns-else-cap-number-clause-value : goal.returns-else-cap-number-clause-value
returns-else-cap-number-clause-value c =
    let f = rw (to_z-of_z w128 c.args.x c.ranges.x, to_z-of_z w128 c.args.from c.ranges.from, to_z-of_z w128 c.args.to c.ranges.to) at c.rescaled-number.ensures.floor in
    let to = c.requires.to.low in
    let cut = carried_cut c.args.from c.args.to c.args.cap c.args.x c.rescaled-number.result c.requires.from.low (omega (arith, ints, to)) c.requires.low f in
    let less : c.rescaled-number.result <ℤ c.args.cap = omega (arith, ints, c.if-cap-number.false) in
    let back : to_z w128 (of_z w128 c.rescaled-number.result) ≡ c.rescaled-number.result = omega (arith, ints, c.rescaled-number.ensures.low, less, c.requires.most) in
    back ∙ (chosen_second c.args.cap c.rescaled-number.result less ∙ sym cut)
