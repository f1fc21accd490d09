use Rattle.std.proofs.Common.{◌≡◌, arith}
use Rattle.pf_graph.specs.Text.{graph}
use Rattle.pf_graph.proofs.reading.TaskProblemKind.take.Goals as goal

pub returns-in-1-clause-obeys : goal.returns-in-1-clause-obeys
unfolding graph
returns-in-1-clause-obeys c = rw c.in-1.is c.price_line.ensures.obeys

pub returns-in_default-clause-obeys : goal.returns-in_default-clause-obeys
unfolding graph
returns-in_default-clause-obeys c =
    let there = c.requires.there in
    let two : c.args.form ≡ 2 = omega (arith, there) in
    rw two c.edge_line.ensures.obeys
