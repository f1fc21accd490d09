use Rattle.std.proofs.Common.{◌++◌, ◌∷◌, [], ℕ, List, sym, ap, ◌∙◌}
use Rattle.std.proofs.lemmas.Result.{err_from_is_err_and}
use Rattle.pf_text.specs.Spelling.{side_text}
use Rattle.pf_lines.proofs.RowsTaken.{side_parts}
use Rattle.pf_lines.proofs.taking.take_rest_side.Goals as goal

pub returns-in_err-take_word-clause-found : goal.returns-in_err-take_word-clause-found
returns-in_err-take_word-clause-found c = λ side rest full there.
    absurd (c.in_err-take_word.ensures.found (side_text side ++ (10 ∷ rest)) (there ∙ side_parts side rest))

pub returns-in_err-side-clause-found : goal.returns-in_err-side-clause-found
returns-in_err-side-clause-found c = λ side rest full there.
    let p = err_from_is_err_and c.from_residual-in_err-side.result c.from_residual-in_err-side.ensures.1 in
    let word = c.in_ok-take_word.ensures.found (side_text side ++ (10 ∷ rest)) (there ∙ side_parts side rest) in
    rw (p.1, p.2) (c.in_err-side.ensures.found side (10 ∷ rest) full word)

pub returns-in_err-take_word-2-clause-found : goal.returns-in_err-take_word-2-clause-found
returns-in_err-take_word-2-clause-found c = λ side rest full there.
    let word = c.in_ok-take_word.ensures.found (side_text side ++ (10 ∷ rest)) (there ∙ side_parts side rest) in
    absurd (c.in_err-take_word-2.ensures.found rest (c.in_ok-side.ensures.found side (10 ∷ rest) full word).1)

pub returns-clause-taken : goal.returns-clause-taken
returns-clause-taken c =
    c.in_ok-take_word.ensures.taken ∙ ap (λ (t : List ℕ). (32 ∷ []) ++ t) (c.in_ok-side.ensures.taken ∙ ap (λ (t : List ℕ). side_text c.in_ok-side.side ++ t) c.in_ok-take_word-2.ensures.taken)
    ∙ sym (side_parts c.in_ok-side.side c.take_word-2.new.text)

pub returns-clause-found : goal.returns-clause-found
returns-clause-found c = λ side rest full there.
    let word = c.in_ok-take_word.ensures.found (side_text side ++ (10 ∷ rest)) (there ∙ side_parts side rest) in
    let f = c.in_ok-side.ensures.found side (10 ∷ rest) full word in
    (f.0, c.in_ok-take_word-2.ensures.found rest f.1)
