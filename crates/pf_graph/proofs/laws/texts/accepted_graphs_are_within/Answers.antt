use Rattle.pf_graph.proofs.TextLaw.{accepted_is_within}
use Rattle.pf_graph.proofs.laws.texts.accepted_graphs_are_within.Goals as goal

pub returns : goal.returns
returns c = accepted_is_within
