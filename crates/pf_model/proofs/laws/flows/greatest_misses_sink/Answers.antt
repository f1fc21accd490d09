use Rattle.pf_model.proofs.Exists.{greatest_exactly}
use Rattle.pf_model.proofs.laws.flows.greatest_misses_sink.Goals as goal

pub returns : goal.returns
returns c = greatest_exactly
