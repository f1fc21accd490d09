use Rattle.pf_select.specs.Dropping.{IsRound}
use Rattle.pf_select.proofs.dropping.drop_round.Given as goal

abbrev pub invariant-needs : goal.invariant-needs
invariant-needs l = IsRound l.catalogue l.charges l.fn.parts l.parts l.fn.products l.products l.k l.changed
