use Rattle.std.proofs.Common.{sym, ap, ◌∙◌, Some}
use Rattle.pf_top.proofs.RequestLemmas.{fraction_stored, fraction_no_back}
use Rattle.pf_top.proofs.words.fraction.Goals as goal

pub returns-in_default-whole : goal.returns-in_default-whole
returns-in_default-whole c = fraction_no_back c.args.front.now c.args.back.now c.in_default-whole.field-0 (sym c.in_default-whole.is ∙ c.whole-2.ensures)

pub returns : goal.returns
returns c =
    fraction_stored c.args.front.now c.args.back.now c.in-Ok.p c.in-Ok-whole.q (sym c.in-Ok.is ∙ c.whole.ensures) (sym c.in-Ok-whole.is ∙ c.whole-2.ensures)
    ∙ ap Some (sym c.in_lowest_terms.ensures)
