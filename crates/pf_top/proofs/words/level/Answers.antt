use Rattle.std.proofs.Common.{sym, ap, ◌∙◌, Some}
use Rattle.pf_top.proofs.LevelLemmas.{level_found, level_no_front, level_no_back}
use Rattle.pf_top.proofs.words.level.Goals as goal

pub returns-in_default : goal.returns-in_default
returns-in_default c = level_no_front c.args.front.now c.args.back.now (c.natural.ensures.value ∙ c.in_default.is)

pub returns-in_default-natural : goal.returns-in_default-natural
returns-in_default-natural c =
    level_no_back c.args.front.now c.args.back.now c.in-Some.p (c.natural.ensures.value ∙ c.in-Some.is) (c.natural-2.ensures.value ∙ c.in_default-natural.is)

pub returns : goal.returns
returns c =
    level_found c.args.front.now c.args.back.now c.in-Some.p c.in-Some-natural.q (c.natural.ensures.value ∙ c.in-Some.is) (c.natural-2.ensures.value ∙ c.in-Some-natural.is)
    ∙ ap Some (sym c.level_of_numbers.ensures)
