use Rattle.std.proofs.Common.{arith}
use Rattle.std.proofs.lemmas.Result.{err_from_is_err_and}
use Rattle.pf_lines.specs.Taking.{IsExcused}
use Rattle.pf_lines.proofs.ItemsTaken.{items_begin, item_taken, item_refused, items_end}
use Rattle.pf_principal.proofs.StepLemmas.{step_items, steps_stand}
use Rattle.pf_principal.proofs.steps.take_steps.Goals as goal

pub steps-init : goal.steps-init
steps-init c = rw c.new-steps.ensures (items_begin (step_items c.args.vertices) c.args.count c.args.text.now)

pub returns-in_err-step-clause-found : goal.returns-in_err-step-clause-found
returns-in_err-step-clause-found c = λ steps rest full each there.
    let p = err_from_is_err_and c.from_residual.result c.from_residual.ensures.1 in
    rw (p.1, p.2) (item_refused (step_items c.args.vertices) c.args.count c.args.text.now c.steps.text c.steps.j c.steps.steps (IsExcused c.in_err-step.field-0.0) c.steps.invariant c.steps-test.true
    (λ step later shape behind e. c.in_err-step.ensures.found step later shape e) steps rest (steps_stand c.args.vertices c.args.count c.args.text.now steps rest full each there))

pub steps-preserved : goal.steps-preserved
steps-preserved c =
    rw c.in_ok-push.ensures.added (item_taken (step_items c.args.vertices) c.args.count c.args.text.now c.steps.text c.take_step.new.text c.steps.j c.steps.steps c.in_ok-step.step c.steps.invariant c.steps-test.true
    c.in_ok-step.ensures.taken c.in_ok-step.ensures.shape (λ step later shape behind e. c.in_ok-step.ensures.found step later shape e))

pub returns-clause-taken : goal.returns-clause-taken
returns-clause-taken c = c.steps.invariant.taken

pub returns-clause-count : goal.returns-clause-count
returns-clause-count c = omega (arith, c.steps.invariant.number)

pub returns-clause-shape : goal.returns-clause-shape
returns-clause-shape c = c.steps.invariant.each

pub returns-clause-found : goal.returns-clause-found
returns-clause-found c = λ steps rest full each there.
    items_end (step_items c.args.vertices) c.args.count c.args.text.now c.steps.text c.steps.j c.steps.steps c.steps.invariant (omega arith)
    steps rest (steps_stand c.args.vertices c.args.count c.args.text.now steps rest full each there)
