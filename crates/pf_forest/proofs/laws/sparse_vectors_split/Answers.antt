use Rattle.pf_forest.proofs.Sharing.{sparse_has_splits}
use Rattle.pf_forest.proofs.laws.sparse_vectors_split.Goals as goal

pub returns : goal.returns
returns c = sparse_has_splits
