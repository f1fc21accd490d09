use Rattle.pf_graph.proofs.WorkedOut.{apart_strength, parallel_strength}
use Rattle.pf_graph.proofs.laws.worked.strength_of_pairs.Goals as goal

pub returns : goal.returns
returns c = record { apart = apart_strength; parallel = parallel_strength }
