use Rattle.pf_carry.specs.Carry.{floored}
use Rattle.pf_carry.proofs.Scaled.{IsScaled}
use Rattle.pf_carry.proofs.scaling.scale.Given as goal

abbrev pub invariant-arcs : goal.invariant-arcs
invariant-arcs l = IsScaled l.frame (floored l.from l.to l.caps l.fn.flow) l.fn.flow l.flow l.sums l.i
