use Rattle.std.proofs.Common.{◌≡◌, true}
use Rattle.std.proofs.lemmas.Result.{err_from_is_err_and}
use Rattle.pf_select.proofs.OutlineLemmas.{shape_of_outline, outline_taken, outline_selections, split_of, split_worths, split_parts}
use Rattle.pf_select.proofs.outline.take_selections.Goals as goal

pub values_agree-requires : goal.values_agree-requires
values_agree-requires c =
    shape_of_outline c.args.catalogue.now c.parts-width.result c.args.count c.in_ok-outline.outline c.args.text.now c.take_outline.new.text c.parts-width.ensures.value
    c.in_ok-outline.ensures.taken

pub returns-in_err-outline-clause-found : goal.returns-in_err-outline-clause-found
returns-in_err-outline-clause-found c = λ prices selections rest shape e.
    let p = err_from_is_err_and c.from_residual.result c.from_residual.ensures.1 in
    let s = split_of c.args.catalogue.now c.parts-width.result c.args.count prices selections c.args.text.now rest c.parts-width.ensures.limits c.parts-width.ensures.value shape e in
    rw (p.1, p.2) (c.in_err-outline.ensures.found s.first s.changes rest s.full s.number s.each s.there)

pub returns-then-not-values_agree-clause-found : goal.returns-then-not-values_agree-clause-found
returns-then-not-values_agree-clause-found c = λ prices selections rest shape e.
    let s = split_of c.args.catalogue.now c.parts-width.result c.args.count prices selections c.args.text.now rest c.parts-width.ensures.limits c.parts-width.ensures.value shape e in
    let f = c.in_ok-outline.ensures.found s.first s.changes rest s.full s.number s.each s.there in
    let agree : c.values_agree.result ≡ true = c.values_agree.ensures.1 (split_worths c.args.catalogue.now c.in_ok-outline.outline s.first s.changes f.0 s.worths) in
    let differ = c.if-not-values_agree.true in
    absurd cc

pub returns-clause-taken : goal.returns-clause-taken
returns-clause-taken c =
    outline_taken c.args.catalogue.now c.parts-width.result c.args.count c.in_ok-outline.outline c.args.text.now c.take_outline.new.text c.in_ok-outline.ensures.taken
    (c.values_agree.ensures.0 c.if-not-values_agree.false)

pub returns-clause-shape : goal.returns-clause-shape
returns-clause-shape c =
    outline_selections c.args.catalogue.now c.parts-width.result c.args.count c.in_ok-outline.outline c.args.text.now c.take_outline.new.text c.parts-width.ensures.value
    c.in_ok-outline.ensures.taken

pub returns-clause-found : goal.returns-clause-found
returns-clause-found c = λ prices selections rest shape e.
    let s = split_of c.args.catalogue.now c.parts-width.result c.args.count prices selections c.args.text.now rest c.parts-width.ensures.limits c.parts-width.ensures.value shape e in
    let f = c.in_ok-outline.ensures.found s.first s.changes rest s.full s.number s.each s.there in
    let g = split_parts c.in_ok-outline.outline s.first s.changes prices selections f.0 s.same_prices s.same_selections in
    (g.0, g.1, f.1)
