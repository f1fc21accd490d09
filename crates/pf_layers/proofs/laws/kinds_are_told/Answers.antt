use Rattle.pf_layers.proofs.KindLemmas.{read_by_header}
use Rattle.pf_layers.proofs.laws.kinds_are_told.Goals as goal

pub returns : goal.returns
returns c = read_by_header
