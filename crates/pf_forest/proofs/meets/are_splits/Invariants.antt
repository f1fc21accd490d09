use Rattle.pf_frame.specs.Scratch.{KeepsPlaces}
use Rattle.pf_forest.specs.Forest.{AreSplits}
use Rattle.pf_forest.proofs.meets.are_splits.Given as goal

abbrev pub invariant-roots : goal.invariant-roots
invariant-roots l = record {
  places : KeepsPlaces l.fn.scratch l.scratch;
  each : AreSplits l.graph l.level l.vector l.splits l.first l.r;
}
