use Rattle.pf_share.specs.Reduction.{AreLevelsOf}
use Rattle.pf_share.proofs.solving.levels_of.Given as goal

abbrev pub invariant-levels : goal.invariant-levels
invariant-levels l = AreLevelsOf l.sharing l.curve.points l.levels l.first l.j
