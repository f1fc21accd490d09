use Rattle.std.proofs.Common.{◌≡◌, ◌∙◌}
use Rattle.pf_text.specs.Words.{cut_at_slash, fraction_of_parts, parameter_of}
use Rattle.pf_top.proofs.words.read_parameter.Goals as goal

pub returns-in-None : goal.returns-in-None
unfolding parameter_of
returns-in-None c = let told = c.cut.ensures fraction_of_parts in rw c.in-None.is at told

pub returns-in-Some : goal.returns-in-Some
unfolding parameter_of
returns-in-Some c =
    let told = c.cut.ensures fraction_of_parts in
    let here : cut_at_slash fraction_of_parts c.args.bytes.now ≡ fraction_of_parts c.in-Some.front.now c.in-Some.back.now = rw c.in-Some.is at told in
    here ∙ c.fraction.ensures
