use Rattle.pf_carry.specs.Trimming.{IsSummed, IsLowered}
use Rattle.pf_carry.proofs.trimming.round.Given as goal

abbrev pub invariant-nodes : goal.invariant-nodes
invariant-nodes l = record {
  sums : IsSummed l.frame l.flow l.sums;
  lowered : IsLowered l.frame l.s l.t l.fn.flow l.flow;
}
