use Rattle.pf_net.proofs.LineSums.{IsSum}
use Rattle.pf_net.proofs.sums.line_of.Given as goal

abbrev pub invariant-arcs : goal.invariant-arcs
invariant-arcs l = IsSum l.side l.arcs l.arc-index l.a l.b
