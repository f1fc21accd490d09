use Rattle.pf_frame.proofs.Balances.{HasBalances}
use Rattle.pf_frame.proofs.flow.balance.Given as goal

abbrev pub invariant-arcs : goal.invariant-arcs
invariant-arcs l = HasBalances l.frame.nodes l.frame.ends l.flow l.sums l.i
