use Rattle.std.proofs.lemmas.Result.{err_from_is_err_and}
use Rattle.pf_strength.proofs.TextLemmas.{row_of_sized, sized_of_row}
use Rattle.pf_strength.proofs.edge_lines.take_edge_row.Goals as goal

pub returns-in_err-numbers-clause-found : goal.returns-in_err-numbers-clause-found
returns-in_err-numbers-clause-found c = λ numbers rest sized there.
    let p = err_from_is_err_and c.from_residual.result c.from_residual.ensures.1 in
    rw (p.1, p.2) (c.in_err-numbers.ensures.found numbers rest (row_of_sized c.args.graph.now numbers c.edges-width.result c.edges-width.ensures sized) there)

pub returns-clause-shape : goal.returns-clause-shape
returns-clause-shape c = sized_of_row c.args.graph.now c.in_ok-numbers.numbers c.edges-width.result c.edges-width.ensures c.in_ok-numbers.ensures.shape

pub returns-clause-found : goal.returns-clause-found
returns-clause-found c = λ numbers rest sized there.
    c.in_ok-numbers.ensures.found numbers rest (row_of_sized c.args.graph.now numbers c.edges-width.result c.edges-width.ensures sized) there
