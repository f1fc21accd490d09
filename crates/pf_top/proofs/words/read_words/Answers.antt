use Rattle.std.proofs.Common.{◌∙◌}
use Rattle.pf_top.proofs.RequestLemmas.{command_of_none, command_of_single, command_of_more, command_of_pair}
use Rattle.pf_top.proofs.words.read_words.Goals as goal

pub returns-in-len1 : goal.returns-in-len1
returns-in-len1 c =
    command_of_single c.args.words.now c.first-item.result c.in-len1.len_at_least c.in-len1.len_below c.first-item.is
    ∙ rw (← c.as_bytes.ensures.value) c.one_word.ensures

pub returns-in-len2 : goal.returns-in-len2
returns-in-len2 c =
    command_of_pair c.args.words.now c.first-item-then-words-lt3.result c.second-item.result c.in-len2.len_at_least c.in-len2.len_below c.first-item-then-words-lt3.is c.second-item.is
    ∙ rw (← c.as_bytes-in-len2.ensures.value, ← c.as_bytes-in-len2-2.ensures.value) c.two_words.ensures

pub returns-in-empty : goal.returns-in-empty
returns-in-empty c = command_of_none c.args.words.now c.in-empty.len_below

pub returns-in_default : goal.returns-in_default
returns-in_default c = command_of_more c.args.words.now c.in_default.len_at_least
