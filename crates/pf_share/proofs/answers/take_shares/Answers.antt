use Rattle.std.proofs.Common.{◌++◌, sym, ap, ◌∙◌}
use Rattle.std.proofs.lemmas.Result.{err_from_is_err_and}
use Rattle.pf_share.specs.Certificate.{SharesAnswer}
use Rattle.pf_share.specs.Text.{shares_text}
use Rattle.pf_share.proofs.TextLemmas.{last_lines, flow_lines, node_lines, later_lines, all_lines, text_taken, front_of_shape, flow_of_shape, whole_shape, behind_front, whole_same}
use Rattle.pf_share.proofs.answers.take_shares.Goals as goal

pub returns-in_err-take_word-clause-found : goal.returns-in_err-take_word-clause-found
returns-in_err-take_word-clause-found c = λ answer rest shape there.
    absurd (c.in_err-take_word.ensures.found (later_lines c.args.sharing.now answer rest) (there ∙ all_lines c.args.sharing.now answer rest))

pub returns-in_err-front-clause-found : goal.returns-in_err-front-clause-found
returns-in_err-front-clause-found c = λ answer rest shape there.
    let p = err_from_is_err_and c.from_residual-in_err-front.result c.from_residual-in_err-front.ensures.1 in
    let a = c.in_ok-take_word.ensures.found (later_lines c.args.sharing.now answer rest) (there ∙ all_lines c.args.sharing.now answer rest) in
    rw (p.1, p.2) (c.in_err-front.ensures.found answer.levels answer.groups (node_lines c.args.sharing.now answer rest) (front_of_shape c.args.sharing.now answer shape) a)

pub take_nodes-requires : goal.take_nodes-requires
take_nodes-requires c = c.in_ok-front.ensures.shape.groups

pub returns-in_err-take_nodes-clause-found : goal.returns-in_err-take_nodes-clause-found
returns-in_err-take_nodes-clause-found c = λ answer rest shape there.
    let a = c.in_ok-take_word.ensures.found (later_lines c.args.sharing.now answer rest) (there ∙ all_lines c.args.sharing.now answer rest) in
    let f = c.in_ok-front.ensures.found answer.levels answer.groups (node_lines c.args.sharing.now answer rest) (front_of_shape c.args.sharing.now answer shape) a in
    absurd (c.in_err-take_nodes.ensures.found (flow_lines answer.flow rest) (behind_front c.args.sharing.now answer c.in_ok-front.front _ rest f.0 f.1))

pub returns-in_err-flow-clause-found : goal.returns-in_err-flow-clause-found
returns-in_err-flow-clause-found c = λ answer rest shape there.
    let p = err_from_is_err_and c.from_residual-in_err-flow.result c.from_residual-in_err-flow.ensures.1 in
    let a = c.in_ok-take_word.ensures.found (later_lines c.args.sharing.now answer rest) (there ∙ all_lines c.args.sharing.now answer rest) in
    let f = c.in_ok-front.ensures.found answer.levels answer.groups (node_lines c.args.sharing.now answer rest) (front_of_shape c.args.sharing.now answer shape) a in
    let n = c.in_ok-take_nodes.ensures.found (flow_lines answer.flow rest) (behind_front c.args.sharing.now answer c.in_ok-front.front _ rest f.0 f.1) in
    rw (p.1, p.2) (c.in_err-flow.ensures.found answer.flow (last_lines rest) (flow_of_shape c.args.sharing.now answer c.arcs-width.result c.arcs-width.ensures.value shape) n)

pub returns-in_err-take_word-2-clause-found : goal.returns-in_err-take_word-2-clause-found
returns-in_err-take_word-2-clause-found c = λ answer rest shape there.
    let a = c.in_ok-take_word.ensures.found (later_lines c.args.sharing.now answer rest) (there ∙ all_lines c.args.sharing.now answer rest) in
    let f = c.in_ok-front.ensures.found answer.levels answer.groups (node_lines c.args.sharing.now answer rest) (front_of_shape c.args.sharing.now answer shape) a in
    let n = c.in_ok-take_nodes.ensures.found (flow_lines answer.flow rest) (behind_front c.args.sharing.now answer c.in_ok-front.front _ rest f.0 f.1) in
    let w = c.in_ok-flow.ensures.found answer.flow (last_lines rest) (flow_of_shape c.args.sharing.now answer c.arcs-width.result c.arcs-width.ensures.value shape) n in
    absurd (c.in_err-take_word-2.ensures.found rest w.1)

pub returns-clause-found : goal.returns-clause-found
returns-clause-found c = λ answer rest shape there.
    let a = c.in_ok-take_word.ensures.found (later_lines c.args.sharing.now answer rest) (there ∙ all_lines c.args.sharing.now answer rest) in
    let f = c.in_ok-front.ensures.found answer.levels answer.groups (node_lines c.args.sharing.now answer rest) (front_of_shape c.args.sharing.now answer shape) a in
    let n = c.in_ok-take_nodes.ensures.found (flow_lines answer.flow rest) (behind_front c.args.sharing.now answer c.in_ok-front.front _ rest f.0 f.1) in
    let w = c.in_ok-flow.ensures.found answer.flow (last_lines rest) (flow_of_shape c.args.sharing.now answer c.arcs-width.result c.arcs-width.ensures.value shape) n in
    (c.with_flow.ensures ∙ whole_same answer c.in_ok-front.front c.in_ok-flow.flow f.0 w.0, c.in_ok-take_word-2.ensures.found rest w.1)

pub returns-clause-taken : goal.returns-clause-taken
returns-clause-taken c =
    text_taken c.args.sharing.now c.args.text.now _ _ _ _ c.take_word-2.new.text c.in_ok-front.front.levels c.in_ok-front.front.groups c.in_ok-flow.flow
    c.in_ok-take_word.ensures.taken c.in_ok-front.ensures.taken c.in_ok-take_nodes.ensures.taken c.in_ok-flow.ensures.taken c.in_ok-take_word-2.ensures.taken
    ∙ ap (λ (answer : SharesAnswer). shares_text c.args.sharing.now answer ++ c.take_word-2.new.text) (sym c.with_flow.ensures)

pub returns-clause-shape : goal.returns-clause-shape
returns-clause-shape c =
    rw c.with_flow.ensures (whole_shape c.args.sharing.now c.in_ok-front.front c.in_ok-flow.flow c.arcs-width.result c.arcs-width.ensures.value c.in_ok-front.ensures.shape c.in_ok-flow.ensures.shape)
