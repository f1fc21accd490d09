use Rattle.pf_ratio.proofs.MarkingLemmas.{round_smaller}
use Rattle.pf_ratio.proofs.marking.mark_linked.Goals as goal

pub rounds-smaller : goal.rounds-smaller
rounds-smaller g c =
    round_smaller c.rounds.marks c.mark_round-changed.new.marks c.rounds.changed c.mark_round-changed.result c.rounds-test.true
    c.mark_round-changed.ensures.full c.mark_round-changed.ensures.grows
