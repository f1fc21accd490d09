use Rattle.std.proofs.Common.{◌++◌, map, ◌∙◌, append_assoc}
use Rattle.std.specs.Fmt.{decimal}
use Rattle.pf_text.specs.Spelling.{spaced}
use Rattle.pf_lines.proofs.taking.take_head.Goals as goal

pub returns-in_err-take_word-clause-found : goal.returns-in_err-take_word-clause-found
returns-in_err-take_word-clause-found c = λ rest stops there.
    let later = spaced (map decimal c.args.indices.now) in
    absurd (c.in_err-take_word.ensures.found (later ++ rest) (there ∙ append_assoc c.args.word.now later rest))

pub returns-in_err-take_indices-clause-found : goal.returns-in_err-take_indices-clause-found
returns-in_err-take_indices-clause-found c = λ rest stops there.
    let later = spaced (map decimal c.args.indices.now) in
    absurd (c.in_err-take_indices.ensures.found rest stops (c.in_ok-take_word.ensures.found (later ++ rest) (there ∙ append_assoc c.args.word.now later rest)))

pub returns-clause-found : goal.returns-clause-found
returns-clause-found c = λ rest stops there.
    let later = spaced (map decimal c.args.indices.now) in
    c.in_ok-take_indices.ensures.found rest stops (c.in_ok-take_word.ensures.found (later ++ rest) (there ∙ append_assoc c.args.word.now later rest))
