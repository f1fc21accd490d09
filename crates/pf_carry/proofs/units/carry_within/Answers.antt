use Rattle.std.proofs.Common.{◌≡◌, arith, to_z, of_z}
use Rattle.std.proofs.lemmas.Int.{ints}
use mir.Syntax.{w128}
use Rattle.pf_carry.proofs.Carrying.{carried_all}
use Rattle.pf_carry.proofs.units.carry_within.Goals as goal

pub returns-clause-carried : goal.returns-clause-carried
returns-clause-carried c =
    let fl = c.requires.from.low in
    let fh = c.requires.from.high in
    let tl = c.requires.to.low in
    let th = c.requires.to.high in
    let from : to_z w128 (of_z w128 c.args.units.now.from) ≡ c.args.units.now.from = omega (arith, ints, fl, fh) in
    let to : to_z w128 (of_z w128 c.args.units.now.to) ≡ c.args.units.now.to = omega (arith, ints, tl, th) in
    let scaled = rw (from, to) at c.scale.ensures.flow in
    carried_all c.args.frame.now c.args.s c.args.t c.args.units.now.from c.args.units.now.to c.args.caps.now c.args.flow.now c.scale.new.flow c.trim.new.flow c.requires.caps c.requires.flow
    scaled c.trim.ensures.bounded c.trim.ensures.lowered c.trim.ensures.given
