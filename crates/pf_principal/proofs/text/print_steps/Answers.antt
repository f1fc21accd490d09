use Rattle.std.proofs.Common.{◌≡◌, ◌+◌, ◌<◌, length, [], ap, arith, ◌∙◌}
use Rattle.std.proofs.lemmas.List.{get_or_default}
use Rattle.std.proofs.lemmas.Result.{err_from_is_err_and}
use Rattle.pf_graph.specs.Best.{partition_at}
use Rattle.pf_io.proofs.PrintedLemmas.{printed_begin, printed_more, printed_stopped, printed_end}
use Rattle.pf_principal.proofs.Printed.{steps_text_at, steps_none}
use Rattle.pf_principal.proofs.text.print_steps.Goals as goal

pub print_step-requires-clause-full : goal.print_step-requires-clause-full
print_step-requires-clause-full g c =
    let count = c.requires.count in
    let e = c.index-partitions-j.is ∙ get_or_default c.args.partitions.now c.steps.j c.index-partitions-j.result [] (omega (arith, count)) in
    ap length e ∙ c.requires.full c.steps.j (omega arith)

pub steps-init : goal.steps-init
steps-init g c = printed_begin c.args.out.now _ c.requires.usable

pub steps-preserved : goal.steps-preserved
steps-preserved g c =
    let count = c.requires.count in
    let low : c.steps.j < length c.args.levels.now = c.steps-test.true in
    let before : c.index-partitions-j.result ≡ partition_at c.args.partitions.now c.steps.j =
    c.index-partitions-j.is ∙ get_or_default c.args.partitions.now c.steps.j c.index-partitions-j.result [] (omega (arith, count, low)) in
    let behind : c.index-partitions-j-in-steps.result ≡ partition_at c.args.partitions.now (c.steps.j + 1) =
    c.index-partitions-j-in-steps.is ∙ get_or_default c.args.partitions.now (c.steps.j + 1) c.index-partitions-j-in-steps.result [] (omega (arith, count, low)) in
    let next = steps_text_at c.args.graph.now c.args.levels.now c.args.partitions.now c.steps.j c.index-levels-j.result low count in
    printed_more c.steps.invariant next (rw (c.index-levels-j.is, before, behind) at c.in_ok-print_step.ensures)

pub returns-in_err-print_step : goal.returns-in_err-print_step
returns-in_err-print_step g c =
    let p = err_from_is_err_and c.from_residual.result c.from_residual.ensures.1 in
    let count = c.requires.count in
    let low : c.steps.j < length c.args.levels.now = c.steps-test.true in
    let before : c.index-partitions-j.result ≡ partition_at c.args.partitions.now c.steps.j =
    c.index-partitions-j.is ∙ get_or_default c.args.partitions.now c.steps.j c.index-partitions-j.result [] (omega (arith, count, low)) in
    let behind : c.index-partitions-j-in-steps.result ≡ partition_at c.args.partitions.now (c.steps.j + 1) =
    c.index-partitions-j-in-steps.is ∙ get_or_default c.args.partitions.now (c.steps.j + 1) c.index-partitions-j-in-steps.result [] (omega (arith, count, low)) in
    let next = steps_text_at c.args.graph.now c.args.levels.now c.args.partitions.now c.steps.j c.index-levels-j.result low count in
    rw p.1 (printed_stopped _ c.steps.invariant next (rw (c.index-levels-j.is, before, behind) at c.in_err-print_step.ensures))

pub returns : goal.returns
returns g c = printed_end c.steps.invariant (steps_none c.args.graph.now c.args.levels.now c.args.partitions.now c.steps.j (omega arith))
