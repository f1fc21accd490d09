use Rattle.std.proofs.Common.{length}
use Rattle.pf_layers.proofs.LevelLemmas.{AreFallingTo}
use Rattle.pf_layers.proofs.solving.falling_levels.Given as goal

abbrev pub invariant-points : goal.invariant-points
invariant-points l = AreFallingTo l.graph l.curve.points (length l.curve.cuts) l.levels l.j
