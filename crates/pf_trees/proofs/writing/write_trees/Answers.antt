use Rattle.std.proofs.Common.{◌∷◌, []}
use Rattle.std.specs.Prelude.{codes}
use Rattle.std.proofs.lemmas.Result.{err_from_is_err_and}
use Rattle.pf_text.specs.Spelling.{row_line}
use Rattle.pf_graph.specs.WeightedGraph.{digraph_of}
use Rattle.pf_io.proofs.PrintingLemmas.{adds_then, adds_none_of}
use Rattle.pf_trees.specs.Text.{answer_lines, trees_text}
use Rattle.pf_trees.proofs.writing.write_trees.Goals as goal

pub returns-in_err-word : goal.returns-in_err-word
unfolding trees_text
returns-in_err-word g c =
    let p = err_from_is_err_and c.from_residual.result c.from_residual.ensures.1 in
    rw p.1 (adds_none_of {T = Unit {0}} (row_line (codes "k") (c.args.k ∷ []) [] ∷ answer_lines (digraph_of c.args.graph.now) c.args.answer.now ∷ []) c.in_err-word.ensures)

pub returns-in_err-print_row : goal.returns-in_err-print_row
unfolding trees_text
returns-in_err-print_row g c =
    let p = err_from_is_err_and c.from_residual-in_err-print_row.result c.from_residual-in_err-print_row.ensures.1 in
    rw p.1 (adds_none_of {T = Unit {0}} (answer_lines (digraph_of c.args.graph.now) c.args.answer.now ∷ []) (adds_then c.in_ok-word.ensures c.in_err-print_row.ensures))

pub returns : goal.returns
unfolding trees_text
returns g c = adds_then (adds_then c.in_ok-word.ensures c.in_ok-print_row.ensures) c.print_answer.ensures
