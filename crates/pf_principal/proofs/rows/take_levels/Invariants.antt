use Rattle.pf_principal.proofs.RowLemmas.{HasLevels}
use Rattle.pf_principal.proofs.rows.take_levels.Given as goal

abbrev pub invariant-levels : goal.invariant-levels
invariant-levels l = HasLevels l.graph l.count l.vectors l.splits l.fn.text l.text l.j
