use Rattle.pf_layers.specs.Reading.{IsNumbered, outside_cut}
use Rattle.pf_layers.proofs.numbering.number_vertices.Given as goal

abbrev pub invariant-cuts : goal.invariant-cuts
invariant-cuts l = IsNumbered l.graph.nodes (outside_cut l.graph l.curve.cuts) l.layers l.j
