use Rattle.pf_ratio.specs.Marking.{IsRound}
use Rattle.pf_ratio.proofs.marking.mark_round.Given as goal

abbrev pub invariant-links : goal.invariant-links
invariant-links g l = IsRound (g.L.Links.link l.links) l.i l.fn.marks l.marks l.changed
