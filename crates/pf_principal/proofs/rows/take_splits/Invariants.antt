use Rattle.pf_principal.proofs.RowLemmas.{HasAdded}
use Rattle.pf_principal.proofs.rows.take_splits.Given as goal

abbrev pub invariant-roots : goal.invariant-roots
invariant-roots l = HasAdded l.graph l.j l.count l.fn.splits l.splits l.fn.text l.text l.r
