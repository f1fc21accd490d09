use Rattle.std.proofs.Common.{◌+◌, ◌≤◌, ◌++◌, List, length, drop, arith}
use Rattle.std.specs.Prelude.{ℤ}
use Rattle.std.proofs.lemmas.List.{at_drop_all}
use Rattle.pf_share.specs.Text.{shares_lines}
use Rattle.pf_share.proofs.ShareLines.{read_begin, read_more, read_piece, read_front, read_end, shares_at}
use Rattle.pf_share.proofs.answers.take_nodes.Goals as goal

pub nodes-init : goal.nodes-init
nodes-init c = read_begin c.args.text.now _

pub returns-in_err-take_node-clause-found : goal.returns-in_err-take_node-clause-found
returns-in_err-take_node-clause-found c = λ rest there.
    let a = c.args.answer.now in
    let w = c.args.sharing.now.weights in
    let many = c.nodes-count.ensures.value in
    let full = c.nodes-count.ensures.limits.problem.weights_full in
    let given = c.requires.full in
    let next = shares_at a.levels c.nodes.v w a.groups (omega (arith, c.nodes-test.true, many, full)) (omega (arith, c.nodes-test.true, many, given)) in
    absurd (c.in_err-take_node.ensures.found (shares_lines a.levels (c.nodes.v + 1) (drop (c.nodes.v + 1) w) (drop (c.nodes.v + 1) a.groups) ++ rest)
    (read_piece c.args.text.now c.nodes.text _ _ _ _ rest c.nodes.invariant next there))

pub nodes-preserved : goal.nodes-preserved
nodes-preserved c =
    let a = c.args.answer.now in
    let w = c.args.sharing.now.weights in
    let many = c.nodes-count.ensures.value in
    let full = c.nodes-count.ensures.limits.problem.weights_full in
    let given = c.requires.full in
    let next = shares_at a.levels c.nodes.v w a.groups (omega (arith, c.nodes-test.true, many, full)) (omega (arith, c.nodes-test.true, many, given)) in
    read_more c.args.text.now c.nodes.text c.take_node.new.text _ _ _ _ c.nodes.invariant next c.in_ok-take_node.ensures.taken

pub returns-clause-taken : goal.returns-clause-taken
returns-clause-taken c =
    let a = c.args.answer.now in
    let w = c.args.sharing.now.weights in
    let many = c.nodes-count.ensures.value in
    let full = c.nodes-count.ensures.limits.problem.weights_full in
    let all : length w ≤ c.nodes.v = omega (arith, c.nodes-test.false, many, full) in
    read_end c.args.text.now c.nodes.text _ _ c.nodes.invariant (at_drop_all (λ (l : List ℤ). shares_lines a.levels c.nodes.v l (drop c.nodes.v a.groups)) w c.nodes.v all)

pub returns-clause-found : goal.returns-clause-found
returns-clause-found c = λ rest there.
    let a = c.args.answer.now in
    let w = c.args.sharing.now.weights in
    let many = c.nodes-count.ensures.value in
    let full = c.nodes-count.ensures.limits.problem.weights_full in
    let all : length w ≤ c.nodes.v = omega (arith, c.nodes-test.false, many, full) in
    let none = at_drop_all (λ (l : List ℤ). shares_lines a.levels c.nodes.v l (drop c.nodes.v a.groups)) w c.nodes.v all in
    rw none at (read_front c.args.text.now c.nodes.text _ _ rest c.nodes.invariant there)
