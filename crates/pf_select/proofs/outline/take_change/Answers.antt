use Rattle.std.proofs.Common.{◌++◌, ◌∷◌, [], ◌∙◌, append_assoc}
use Rattle.std.specs.Prelude.{codes}
use Rattle.std.proofs.lemmas.Result.{err_from_is_err_and}
use Rattle.pf_text.specs.Spelling.{fraction_line, side_line}
use Rattle.pf_select.proofs.OutlineLemmas.{same_change}
use Rattle.pf_select.proofs.outline.take_change.Goals as goal

pub returns-in_err-point-clause-found : goal.returns-in_err-point-clause-found
returns-in_err-point-clause-found c = λ change rest shape e.
    let price = fraction_line (codes "b") (c.args.j ∷ []) change.point.at (change.point.value ∷ []) in
    let set = side_line (codes "s") (c.args.j ∷ []) [] change.set in
    absurd (c.in_err-point.ensures.found change.point (set ++ rest) shape.point (e ∙ append_assoc price set rest))

pub returns-in_err-set-clause-found : goal.returns-in_err-set-clause-found
returns-in_err-set-clause-found c = λ change rest shape e.
    let p = err_from_is_err_and c.from_residual-in_err-set.result c.from_residual-in_err-set.ensures.1 in
    let price = fraction_line (codes "b") (c.args.j ∷ []) change.point.at (change.point.value ∷ []) in
    let set = side_line (codes "s") (c.args.j ∷ []) [] change.set in
    let point = c.in_ok-point.ensures.found change.point (set ++ rest) shape.point (e ∙ append_assoc price set rest) in
    rw (p.1, p.2) (c.in_err-set.ensures.found change.set rest shape.full point.1)

pub returns-clause-found : goal.returns-clause-found
returns-clause-found c = λ change rest shape e.
    let price = fraction_line (codes "b") (c.args.j ∷ []) change.point.at (change.point.value ∷ []) in
    let set = side_line (codes "s") (c.args.j ∷ []) [] change.set in
    let point = c.in_ok-point.ensures.found change.point (set ++ rest) shape.point (e ∙ append_assoc price set rest) in
    let given = c.in_ok-set.ensures.found change.set rest shape.full point.1 in
    (same_change c.in_ok-point.point c.in_ok-set.set change point.0 given.0, given.1)
