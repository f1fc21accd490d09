use Rattle.std.proofs.Common.{◌≡◌, [], true, sym, ap, ◌∙◌}
use Rattle.pf_par.specs.Answers.{curve_text}
use Rattle.pf_lines.proofs.WholeTexts.{alone, whole, not_refused}
use Rattle.pf_par.proofs.CurveReadingLemmas.{parts_of, parts_shape, curve_text_parts, parts_of_curve, values_are}
use Rattle.pf_par.proofs.reading_curve.read_curve.Goals as goal

pub returns-in_err-outline-clause-refused : goal.returns-in_err-outline-clause-refused
returns-in_err-outline-clause-refused c = λ e curve shape there.
    let net = c.args.net.now in
    let front = alone c.new-rest.ensures (there ∙ curve_text_parts net curve) in
    not_refused c.in_err-outline.field-0.0 c.from_residual.result c.from_residual.ensures.1 e
    (c.in_err-outline.ensures.found (parts_of net curve) [] (parts_shape net curve c.frame.ensures.built.limits.arcs shape) front)

pub returns-in_err-take_end-clause-refused : goal.returns-in_err-take_end-clause-refused
returns-in_err-take_end-clause-refused c = λ e curve shape there.
    let net = c.args.net.now in
    let front = alone c.new-rest.ensures (there ∙ curve_text_parts net curve) in
    let found = c.in_ok-outline.ensures.found (parts_of net curve) [] (parts_shape net curve c.frame.ensures.built.limits.arcs shape) front in
    absurd (c.in_err-take_end.ensures.found found.1)

pub returns-then-not-values_agree-clause-refused : goal.returns-then-not-values_agree-clause-refused
returns-then-not-values_agree-clause-refused c = λ e curve shape there.
    let net = c.args.net.now in
    let front = alone c.new-rest.ensures (there ∙ curve_text_parts net curve) in
    let found = c.in_ok-outline.ensures.found (parts_of net curve) [] (parts_shape net curve c.frame.ensures.built.limits.arcs shape) front in
    let agree : c.values_agree.result ≡ true = c.values_agree.ensures.1 (values_are net c.in_ok-outline.field-0 curve found.0 ∙ sym c.get.ensures) in
    let differ = c.if-not-values_agree.true in
    absurd cc

pub returns-clause-text : goal.returns-clause-text
returns-clause-text c =
    let net = c.args.net.now in
    let agree = c.values_agree.ensures.0 c.if-not-values_agree.false ∙ c.get.ensures in
    whole c.new-rest.ensures c.in_ok-outline.ensures.taken c.in_ok-take_end.ensures.taken
    ∙ parts_of_curve net c.in_ok-outline.field-0 agree ∙ ap (curve_text net) (sym c.new.ensures)
