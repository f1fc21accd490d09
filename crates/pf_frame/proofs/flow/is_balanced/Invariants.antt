use Rattle.pf_frame.specs.Numbers.{AreBalanced}
use Rattle.pf_frame.proofs.flow.is_balanced.Given as goal

abbrev pub invariant-nodes : goal.invariant-nodes
invariant-nodes l = AreBalanced l.sums l.s l.t l.v
