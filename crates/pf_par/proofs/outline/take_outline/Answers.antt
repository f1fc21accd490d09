use Rattle.std.proofs.Common.{◌++◌, ◌∷◌, [], length, sym, ◌∙◌, append_assoc}
use Rattle.std.specs.Prelude.{codes}
use Rattle.std.specs.Fmt.{decimal}
use Rattle.std.proofs.lemmas.Result.{err_from_is_err_and}
use Rattle.pf_text.specs.Spelling.{line}
use Rattle.pf_par.specs.Outline.{points_outline}
use Rattle.pf_par.proofs.SegmentsTaken.{points_bytes}
use Rattle.pf_par.proofs.outline.take_outline.Goals as goal

pub returns-in_err-count-clause-found : goal.returns-in_err-count-clause-found
returns-in_err-count-clause-found c = λ o rest shape e.
    let points = points_outline c.args.net.now o.cuts o.points o.values in
    absurd (c.in_err-count.ensures.found (length o.cuts) (points ++ rest) shape.some (points_bytes c.args.net.now o rest shape) (e ∙ append_assoc (line (codes "k" ∷ decimal (length o.cuts) ∷ [])) points rest))

pub returns-in_err-outline-clause-found : goal.returns-in_err-outline-clause-found
returns-in_err-outline-clause-found c = λ o rest shape e.
    let p = err_from_is_err_and c.from_residual-in_err-outline.result c.from_residual-in_err-outline.ensures.1 in
    let points = points_outline c.args.net.now o.cuts o.points o.values in
    let count = c.in_ok-count.ensures.found (length o.cuts) (points ++ rest) shape.some (points_bytes c.args.net.now o rest shape) (e ∙ append_assoc (line (codes "k" ∷ decimal (length o.cuts) ∷ [])) points rest) in
    rw (p.1, p.2) (c.in_err-outline.ensures.found o rest shape (sym count.0) count.1)

pub returns-clause-found : goal.returns-clause-found
returns-clause-found c = λ o rest shape e.
    let points = points_outline c.args.net.now o.cuts o.points o.values in
    let count = c.in_ok-count.ensures.found (length o.cuts) (points ++ rest) shape.some (points_bytes c.args.net.now o rest shape) (e ∙ append_assoc (line (codes "k" ∷ decimal (length o.cuts) ∷ [])) points rest) in
    c.in_ok-outline.ensures.found o rest shape (sym count.0) count.1
