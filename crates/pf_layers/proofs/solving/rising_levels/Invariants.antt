use Rattle.std.proofs.Common.{All}
use Rattle.pf_model.specs.Answer.{IsFractionShape}
use Rattle.pf_layers.specs.Reading.{AreRising}
use Rattle.pf_layers.proofs.solving.rising_levels.Given as goal

abbrev pub invariant-points : goal.invariant-points
invariant-points l = record {
  levels : AreRising l.items l.curve.points l.levels l.j;
  shape : All IsFractionShape l.levels;
}
