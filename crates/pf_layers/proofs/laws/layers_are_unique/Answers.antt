use Rattle.pf_layers.proofs.OneDense.{one_dense, one_dense_levels}
use Rattle.pf_layers.proofs.OneRatio.{one_ratio, one_ratio_levels}
use Rattle.pf_layers.proofs.laws.layers_are_unique.Goals as goal

pub returns : goal.returns
returns c = record { dense = one_dense; ratio = one_ratio; dense_levels = one_dense_levels; ratio_levels = one_ratio_levels }
