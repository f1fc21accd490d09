use Rattle.std.proofs.Common.{◌++◌, ◌∷◌, map, refl, ◌∙◌}
use Rattle.std.specs.Fmt.{decimal}
use Rattle.std.proofs.lemmas.Result.{err_from_is_err_and}
use Rattle.pf_text.specs.Spelling.{spaced}
use Rattle.pf_text.proofs.SpellingLemmas.{line_then}
use Rattle.pf_lines.proofs.RowsTaken.{behind_head, stops_fields, line_taken}
use Rattle.pf_lines.proofs.taking.take_labels.Goals as goal

pub returns-in_err-take_head-clause-found : goal.returns-in_err-take_head-clause-found
returns-in_err-take_head-clause-found c = λ labels rest row there.
    let fields = map decimal labels in
    absurd (c.in_err-take_head.ensures.found (spaced fields ++ (10 ∷ rest)) (stops_fields fields (10 ∷ rest) refl) (there ∙ line_then c.args.word.now c.args.indices.now fields rest))

pub returns-in_err-labels-clause-found : goal.returns-in_err-labels-clause-found
returns-in_err-labels-clause-found c = λ labels rest row there.
    let p = err_from_is_err_and c.from_residual-in_err-labels.result c.from_residual-in_err-labels.ensures.1 in
    let behind = behind_head c.args.word.now c.args.indices.now (map decimal labels) rest c.args.text.now c.take_head.new.text c.in_ok-take_head.ensures.found there in
    rw (p.1, p.2) (c.in_err-labels.ensures.found labels (10 ∷ rest) row refl behind)

pub returns-in_err-take_word-clause-found : goal.returns-in_err-take_word-clause-found
returns-in_err-take_word-clause-found c = λ labels rest row there.
    let behind = behind_head c.args.word.now c.args.indices.now (map decimal labels) rest c.args.text.now c.take_head.new.text c.in_ok-take_head.ensures.found there in
    absurd (c.in_err-take_word.ensures.found rest (c.in_ok-labels.ensures.found labels (10 ∷ rest) row refl behind).1)

pub returns-clause-taken : goal.returns-clause-taken
returns-clause-taken c =
    line_taken c.args.word.now c.args.indices.now (map decimal c.in_ok-labels.labels.items) c.args.text.now c.take_head.new.text c.take_label_fields.new.text c.take_word.new.text
    c.in_ok-take_head.ensures.taken c.in_ok-labels.ensures.taken c.in_ok-take_word.ensures.taken

pub returns-clause-found : goal.returns-clause-found
returns-clause-found c = λ labels rest row there.
    let behind = behind_head c.args.word.now c.args.indices.now (map decimal labels) rest c.args.text.now c.take_head.new.text c.in_ok-take_head.ensures.found there in
    let f = c.in_ok-labels.ensures.found labels (10 ∷ rest) row refl behind in
    (f.0, c.in_ok-take_word.ensures.found rest f.1)
