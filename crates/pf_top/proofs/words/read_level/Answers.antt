use Rattle.std.proofs.Common.{◌≡◌, ◌∙◌}
use Rattle.pf_text.specs.Words.{cut_at_slash}
use Rattle.pf_top.specs.Asked.{level_of_parts, level_of}
use Rattle.pf_top.proofs.words.read_level.Goals as goal

pub returns-in-None : goal.returns-in-None
unfolding level_of
returns-in-None c = let told = c.cut.ensures level_of_parts in rw c.in-None.is at told

pub returns-in-Some : goal.returns-in-Some
unfolding level_of
returns-in-Some c =
    let told = c.cut.ensures level_of_parts in
    let here : cut_at_slash level_of_parts c.args.bytes.now ≡ level_of_parts c.in-Some.front.now c.in-Some.back.now = rw c.in-Some.is at told in
    here ∙ c.level.ensures
