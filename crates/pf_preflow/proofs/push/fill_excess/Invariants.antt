use Rattle.pf_preflow.proofs.Filling.{IsPartial}
use Rattle.pf_preflow.proofs.push.fill_excess.Given as goal

abbrev pub invariant-arcs : goal.invariant-arcs
invariant-arcs l = IsPartial l.frame l.flow l.excess l.i
