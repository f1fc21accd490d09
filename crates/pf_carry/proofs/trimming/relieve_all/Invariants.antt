use Rattle.pf_carry.specs.Trimming.{IsSummed, IsLowered}
use Rattle.pf_carry.proofs.trimming.relieve_all.Given as goal

abbrev pub invariant-rounds : goal.invariant-rounds
invariant-rounds l = record {
  sums : IsSummed l.frame l.flow l.sums;
  lowered : IsLowered l.frame l.s l.t l.fn.flow l.flow;
}
