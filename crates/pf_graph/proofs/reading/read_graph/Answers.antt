use Rattle.pf_graph.proofs.TextLaw.{read_is_within}
use Rattle.pf_graph.proofs.reading.read_graph.Goals as goal

pub returns-clause-within : goal.returns-clause-within
returns-clause-within c = read_is_within c.args.task _ _ _ c.read_problem.result c.read_problem.ensures.judged
