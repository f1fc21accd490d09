use Rattle.std.proofs.Common.{◌≢◌, ℕ, ◌<◌}
use Rattle.std.specs.Prelude.{pos}
use Rattle.pf_model.specs.Cut.{at_arc}
use Rattle.pf_layers.proofs.numbering.has_number.Given as goal

abbrev pub invariant-elements : goal.invariant-elements
invariant-elements l = (u : ℕ) → u < l.v → at_arc l.layers u ≢ pos l.number
