use Rattle.std.proofs.Common.{length}
use Rattle.pf_layers.specs.Reading.{IsNumbered, items_in}
use Rattle.pf_layers.proofs.numbering.number_items.Given as goal

abbrev pub invariant-cuts : goal.invariant-cuts
invariant-cuts l = IsNumbered (length l.items.costs) (items_in l.items l.curve.cuts) l.layers l.j
