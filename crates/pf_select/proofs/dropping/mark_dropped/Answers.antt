use Rattle.pf_select.proofs.DropLemmas.{round_smaller}
use Rattle.pf_select.proofs.dropping.mark_dropped.Goals as goal

pub rounds-smaller : goal.rounds-smaller
rounds-smaller c =
    round_smaller c.rounds.parts c.drop_round-changed.new.parts c.rounds.products c.drop_round-changed.new.products c.rounds.changed
    c.drop_round-changed.result c.rounds-test.true c.drop_round-changed.ensures.parts_full c.drop_round-changed.ensures.products_full
    c.drop_round-changed.ensures.grows
