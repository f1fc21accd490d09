use Rattle.pf_graph.specs.WeightedGraph.{lies_in}
use Rattle.pf_graph.proofs.EdgeSums.{IsSum}
use Rattle.pf_graph.proofs.sums.sum_inside.Given as goal

abbrev pub invariant-edges : goal.invariant-edges
invariant-edges l = IsSum (lies_in l.side) l.frame.ends l.numbers l.i l.sum
