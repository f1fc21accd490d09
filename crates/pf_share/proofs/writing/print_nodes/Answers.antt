use Rattle.std.proofs.Common.{◌≤◌, List, length, drop, arith}
use Rattle.std.specs.Prelude.{ℤ}
use Rattle.std.proofs.lemmas.List.{at_drop_all}
use Rattle.std.proofs.lemmas.Result.{err_from_is_err_and}
use Rattle.pf_io.proofs.PrintedLemmas.{printed_begin, printed_more, printed_stopped, printed_end}
use Rattle.pf_share.specs.Text.{shares_lines}
use Rattle.pf_share.proofs.ShareLines.{shares_at}
use Rattle.pf_share.proofs.writing.print_nodes.Goals as goal

pub nodes-init : goal.nodes-init
nodes-init g c = printed_begin c.args.out.now _ c.requires.usable

pub nodes-preserved : goal.nodes-preserved
nodes-preserved g c =
    let a = c.args.answer.now in
    let w = c.args.sharing.now.weights in
    let many = c.nodes-count.ensures.value in
    let full = c.nodes-count.ensures.limits.problem.weights_full in
    let given = c.requires.shape.full in
    let next = shares_at a.levels c.nodes.v w a.groups (omega (arith, c.nodes-test.true, many, full)) (omega (arith, c.nodes-test.true, many, given)) in
    printed_more c.nodes.invariant next c.in_ok-print_node.ensures

pub returns-in_err-print_node : goal.returns-in_err-print_node
returns-in_err-print_node g c =
    let p = err_from_is_err_and c.from_residual.result c.from_residual.ensures.1 in
    let a = c.args.answer.now in
    let w = c.args.sharing.now.weights in
    let many = c.nodes-count.ensures.value in
    let full = c.nodes-count.ensures.limits.problem.weights_full in
    let given = c.requires.shape.full in
    let next = shares_at a.levels c.nodes.v w a.groups (omega (arith, c.nodes-test.true, many, full)) (omega (arith, c.nodes-test.true, many, given)) in
    rw p.1 (printed_stopped _ c.nodes.invariant next c.in_err-print_node.ensures)

pub returns : goal.returns
returns g c =
    let a = c.args.answer.now in
    let w = c.args.sharing.now.weights in
    let many = c.nodes-count.ensures.value in
    let full = c.nodes-count.ensures.limits.problem.weights_full in
    let all : length w ≤ c.nodes.v = omega (arith, c.nodes-test.false, many, full) in
    printed_end c.nodes.invariant (at_drop_all (λ (l : List ℤ). shares_lines a.levels c.nodes.v l (drop c.nodes.v a.groups)) w c.nodes.v all)
