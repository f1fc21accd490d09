use Rattle.pf_forest.proofs.Law.{forest_is_sparse, forest_is_best}
use Rattle.pf_forest.proofs.laws.forest_is_best.Goals as goal

pub returns : goal.returns
returns c = record { sparse = forest_is_sparse; best = forest_is_best }
