use Rattle.pf_model.specs.Digraph.{network_of}
use Rattle.pf_preflow.specs.Starting.{started}
use Rattle.pf_preflow.proofs.StartLemmas.{IsPartFilled}
use Rattle.pf_preflow.proofs.starting.fill_source.Given as goal

abbrev pub invariant-arcs : goal.invariant-arcs
invariant-arcs l = IsPartFilled (started (network_of l.frame l.caps l.s l.s)) l.initial.flow l.flow l.i
