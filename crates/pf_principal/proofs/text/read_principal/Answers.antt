use Rattle.std.proofs.Common.{◌≡◌, [], List, true, sym, ap, subst, ◌∙◌}
use Rattle.pf_lines.proofs.WholeTexts.{alone, whole, not_refused}
use Rattle.pf_principal.specs.Principal.{IsPrincipalShape}
use Rattle.pf_principal.specs.Text.{principal_text}
use Rattle.pf_principal.specs.Reading.{HaveValues}
use Rattle.pf_principal.specs.declared.steps.Step.{Step}
use Rattle.pf_principal.proofs.StepLemmas.{ats_of}
use Rattle.pf_principal.proofs.Shapes.{parts_of, parts_shape, text_of_parts, values_are, answer_shape, text_of_answer, read_answer}
use Rattle.pf_principal.proofs.text.read_principal.Goals as goal

pub returns-in_err-first-clause-refused : goal.returns-in_err-first-clause-refused
returns-in_err-first-clause-refused c = λ e answer shape there.
    let g = c.args.graph.now in
    let front = alone c.new-rest.ensures (there ∙ sym (text_of_parts g answer shape.fits)) in
    not_refused c.in_err-first.field-0.0 c.from_residual.result c.from_residual.ensures.1 e (c.in_err-first.ensures.found (parts_of g answer) [] (parts_shape g answer c.vertices.ensures.limits shape) front)

pub returns-in_err-take_end-clause-refused : goal.returns-in_err-take_end-clause-refused
returns-in_err-take_end-clause-refused c = λ e answer shape there.
    let g = c.args.graph.now in
    let front = alone c.new-rest.ensures (there ∙ sym (text_of_parts g answer shape.fits)) in
    let found = c.in_ok-first.ensures.found (parts_of g answer) [] (parts_shape g answer c.vertices.ensures.limits shape) front in
    absurd (c.in_err-take_end.ensures.found found.1)

pub returns-then-not-have_values-clause-refused : goal.returns-then-not-have_values-clause-refused
returns-then-not-have_values-clause-refused c = λ e answer shape there.
    let g = c.args.graph.now in
    let front = alone c.new-rest.ensures (there ∙ sym (text_of_parts g answer shape.fits)) in
    let found = c.in_ok-first.ensures.found (parts_of g answer) [] (parts_shape g answer c.vertices.ensures.limits shape) front in
    let agree : c.have_values.result ≡ true = c.have_values.ensures.1 (rw c.get.ensures (values_are g answer c.in_ok-first.field-0 found.0)) in
    let differ = c.if-not-have_values.true in
    absurd cc

pub returns-clause-shape : goal.returns-clause-shape
returns-clause-shape c =
    let parts = c.in_ok-first.field-0 in
    let e = read_answer parts c.in_ok-levels.levels c.in_ok-partitions.partitions c.new.result c.new.ensures
    (c.in_ok-levels.ensures.levels ∙ ap ats_of c.get-2.ensures) c.in_ok-partitions.ensures.partitions in
    subst (IsPrincipalShape c.args.graph.now) (sym e) (answer_shape c.args.graph.now parts c.in_ok-first.ensures.shape)

pub returns-clause-text : goal.returns-clause-text
returns-clause-text c =
    let g = c.args.graph.now in
    let parts = c.in_ok-first.field-0 in
    let e = read_answer parts c.in_ok-levels.levels c.in_ok-partitions.partitions c.new.result c.new.ensures
    (c.in_ok-levels.ensures.levels ∙ ap ats_of c.get-2.ensures) c.in_ok-partitions.ensures.partitions in
    let H : List Step → Type 0 = λ steps. HaveValues g parts.first steps in
    let agree = subst H c.get.ensures (c.have_values.ensures.0 c.if-not-have_values.false) in
    whole c.new-rest.ensures c.in_ok-first.ensures.taken c.in_ok-take_end.ensures.taken
    ∙ text_of_answer g parts agree ∙ ap (principal_text g) (sym e)
