use Rattle.std.proofs.lemmas.Int.{to_z-of_z}
use mir.Syntax.{w128}
use Rattle.pf_carry.proofs.Carrying.{carried_all}
use Rattle.pf_carry.proofs.units.carry.Goals as goal

pub returns : goal.returns
returns c =
    let scaled = rw (to_z-of_z w128 c.args.from_unit c.ranges.from_unit, to_z-of_z w128 c.args.to_unit c.ranges.to_unit) at c.scale.ensures.flow in
    carried_all c.args.frame.now c.args.s c.args.t c.args.from_unit c.args.to_unit c.args.caps.now c.args.flow.now c.scale.new.flow c.trim.new.flow c.requires.caps c.requires.flow
    scaled c.trim.ensures.bounded c.trim.ensures.lowered c.trim.ensures.given
