use Rattle.pf_carry.specs.Trimming.{giving}
use Rattle.pf_carry.proofs.Emptying.{IsTrimming}
use Rattle.pf_carry.proofs.trimming.trim.Given as goal

abbrev pub invariant-turns : goal.invariant-turns
invariant-turns l = IsTrimming l.frame l.s l.t l.fn.flow l.flow l.sums l.v

abbrev pub decreases-turns : goal.decreases-turns
decreases-turns l = giving l.frame l.flow l.frame.nodes
