use Rattle.std.proofs.Common.{◌+◌, sym, ◌∙◌}
use Rattle.pf_lines.specs.Places.{lines_left}
use Rattle.pf_layers.proofs.KindLemmas.{begins_same, read_closure, read_graph}
use Rattle.pf_layers.proofs.problem.read_layers.Goals as goal

pub returns-then-begins_closure-clause-judged : goal.returns-then-begins_closure-clause-judged
returns-then-begins_closure-clause-judged c =
    let place = c.args.lines.now in
    let test = begins_same (place.number + 1) 1 place.rest ∙ sym (rw c.rest.ensures at c.begins_closure.ensures) ∙ c.if-begins_closure.true in
    rw (read_closure (lines_left place) test) c.read_items.ensures.judged

pub returns-clause-judged : goal.returns-clause-judged
returns-clause-judged c =
    let place = c.args.lines.now in
    let test = begins_same (place.number + 1) 1 place.rest ∙ sym (rw c.rest.ensures at c.begins_closure.ensures) ∙ c.if-begins_closure.false in
    rw (read_graph (lines_left place) test) c.read_edges.ensures.judged
