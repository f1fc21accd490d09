use Rattle.pf_select.specs.Outline.{HasWorths}
use Rattle.pf_select.proofs.outline.values_agree.Given as goal

abbrev pub invariant-prices : goal.invariant-prices
invariant-prices l = HasWorths l.catalogue l.outline l.j
