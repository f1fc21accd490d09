use Rattle.std.proofs.Common.{drop, false}
use Rattle.std.proofs.lemmas.Result.{err_from_is_err_and}
use Rattle.pf_io.proofs.PrintingLemmas.{adds_then, adds_stopped, adds_nothing}
use Rattle.pf_text.specs.Spelling.{side_text}
use Rattle.pf_text.proofs.SpellingLemmas.{side_text-append, text_more, text_all}
use Rattle.pf_io.proofs.printing.print_side.Goals as goal

pub nodes-init : goal.nodes-init
nodes-init g c = adds_nothing c.args.out.now c.requires

pub nodes-preserved : goal.nodes-preserved
nodes-preserved g c = rw (text_more side_text side_text-append c.args.side.now c.nodes.inside-index false c.nodes-test.true) (adds_then c.nodes.invariant c.in_ok-print_node.ensures)

pub returns-in_err-print_node : goal.returns-in_err-print_node
returns-in_err-print_node g c =
    let p = err_from_is_err_and c.from_residual.result c.from_residual.ensures.1 in
    rw (p.1, text_all side_text side_text-append c.args.side.now c.nodes.inside-index false c.nodes-test.true) (adds_stopped (side_text (drop _ c.args.side.now)) (adds_then c.nodes.invariant c.in_err-print_node.ensures))
