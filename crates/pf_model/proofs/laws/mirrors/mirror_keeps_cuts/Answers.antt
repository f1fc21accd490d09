use Rattle.pf_model.proofs.Mirror.{network_turned, cut_turned, constant_turned, slope_turned}
use Rattle.pf_model.proofs.laws.mirrors.mirror_keeps_cuts.Goals as goal

pub returns : goal.returns
returns c = record {
  capacities = network_turned;
  cuts = cut_turned;
  constants = constant_turned;
  slopes = slope_turned;
}
