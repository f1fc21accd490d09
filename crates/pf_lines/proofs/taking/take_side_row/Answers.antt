use Rattle.std.proofs.Common.{◌++◌, ◌∷◌, [], ℕ, List, refl, sym, ap, ◌∙◌}
use Rattle.std.proofs.lemmas.Result.{err_from_is_err_and}
use Rattle.pf_text.specs.Spelling.{head_text, rest_of_line, side_text}
use Rattle.pf_lines.proofs.RowsTaken.{line_rest}
use Rattle.pf_lines.proofs.taking.take_side_row.Goals as goal

pub returns-in_err-take_head-clause-found : goal.returns-in_err-take_head-clause-found
returns-in_err-take_head-clause-found c = λ side rest full there.
    let fields = side_text side ∷ [] in
    absurd (c.in_err-take_head.ensures.found (rest_of_line fields ++ rest) refl (there ∙ line_rest c.args.word.now c.args.indices.now fields rest))

pub returns-in_err-side-clause-found : goal.returns-in_err-side-clause-found
returns-in_err-side-clause-found c = λ side rest full there.
    let p = err_from_is_err_and c.from_residual-in_err-side.result c.from_residual-in_err-side.ensures.1 in
    let fields = side_text side ∷ [] in
    rw (p.1, p.2) (c.in_err-side.ensures.found side rest full (c.in_ok-take_head.ensures.found (rest_of_line fields ++ rest) refl (there ∙ line_rest c.args.word.now c.args.indices.now fields rest)))

pub returns-clause-taken : goal.returns-clause-taken
returns-clause-taken c =
    c.in_ok-take_head.ensures.taken ∙ ap (λ (t : List ℕ). head_text c.args.word.now c.args.indices.now ++ t) c.in_ok-side.ensures.taken
    ∙ sym (line_rest c.args.word.now c.args.indices.now (side_text c.in_ok-side.side ∷ []) c.take_rest_side.new.text)

pub returns-clause-found : goal.returns-clause-found
returns-clause-found c = λ side rest full there.
    let fields = side_text side ∷ [] in
    c.in_ok-side.ensures.found side rest full (c.in_ok-take_head.ensures.found (rest_of_line fields ++ rest) refl (there ∙ line_rest c.args.word.now c.args.indices.now fields rest))
