use Rattle.std.proofs.Common.{drop}
use Rattle.pf_io.proofs.PrintedLemmas.{HasPrinted}
use Rattle.pf_share.specs.Text.{shares_lines}
use Rattle.pf_share.proofs.writing.print_nodes.Given as goal

abbrev pub invariant-nodes : goal.invariant-nodes
invariant-nodes g l = HasPrinted l.fn.out l.out (shares_lines l.answer.levels 0 l.sharing.weights l.answer.groups)
    (shares_lines l.answer.levels l.v (drop l.v l.sharing.weights) (drop l.v l.answer.groups))
