use Rattle.std.proofs.Common.{ℕ, List, [], ◌∷◌, ◌++◌, refl, sym, ap, ◌∙◌}
use Rattle.std.specs.Prelude.{codes}
use Rattle.std.proofs.lemmas.Result.{err_from_is_err_and}
use Rattle.pf_text.specs.Spelling.{head_text, rest_of_line}
use Rattle.pf_par.specs.Answers.{cut_fields}
use Rattle.pf_par.proofs.OutlineLemmas.{cut_line_parts}
use Rattle.pf_par.proofs.outline.take_cut_line.Goals as goal

pub returns-in_err-take_head-clause-found : goal.returns-in_err-take_head-clause-found
returns-in_err-take_head-clause-found c = λ side rest cut e.
    absurd (c.in_err-take_head.ensures.found (rest_of_line (cut_fields c.args.net.now side) ++ rest) refl (e ∙ cut_line_parts c.args.net.now c.args.i side rest))

pub returns-in_err-side-clause-found : goal.returns-in_err-side-clause-found
returns-in_err-side-clause-found c = λ side rest cut e.
    let p = err_from_is_err_and c.from_residual-in_err-side.result c.from_residual-in_err-side.ensures.1 in
    let behind = c.in_ok-take_head.ensures.found (rest_of_line (cut_fields c.args.net.now side) ++ rest) refl (e ∙ cut_line_parts c.args.net.now c.args.i side rest) in
    rw (p.1, p.2) (c.in_err-side.ensures.found side rest cut behind)

pub returns-clause-taken : goal.returns-clause-taken
returns-clause-taken c =
    c.in_ok-take_head.ensures.taken
    ∙ ap (λ (t : List ℕ). head_text (codes "s") (c.args.i ∷ []) ++ t) c.in_ok-side.ensures.taken
    ∙ sym (cut_line_parts c.args.net.now c.args.i c.in_ok-side.side c.take_cut.new.text)

pub returns-clause-found : goal.returns-clause-found
returns-clause-found c = λ side rest cut e.
    c.in_ok-side.ensures.found side rest cut (c.in_ok-take_head.ensures.found (rest_of_line (cut_fields c.args.net.now side) ++ rest) refl (e ∙ cut_line_parts c.args.net.now c.args.i side rest))
