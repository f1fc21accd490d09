use Rattle.pf_dense.proofs.OneAnswer.{one_densest, one_lowest}
use Rattle.pf_dense.proofs.laws.densest_is_unique.Goals as goal

pub returns : goal.returns
returns c = record {
  answer = one_densest;
  lowest = one_lowest;
}
