use Rattle.pf_carry.proofs.Emptying.{IsEmptying}
use Rattle.pf_carry.proofs.trimming.empty.Given as goal

abbrev pub invariant-outs : goal.invariant-outs
invariant-outs l = IsEmptying l.frame l.v l.fn.flow l.flow l.sums l.i-items l.i-index
