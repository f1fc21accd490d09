use Rattle.std.proofs.Common.{ap}
use Rattle.pf_graph.specs.WeightedGraph.{WeightedGraph}
use Rattle.pf_layers.specs.declared.problem.LayerProblem.{LayerProblem}
use Rattle.pf_layers.specs.declared.problem.LayerProblem.TheVariants.{Graph}
use Rattle.pf_layers.specs.Problem.{accepted_as}
use Rattle.pf_layers.proofs.KindLemmas.{read_at, refused_as}
use Rattle.pf_layers.proofs.problem.read_edges.Goals as goal

pub returns-in-Ok-clause-judged : goal.returns-in-Ok-clause-judged
returns-in-Ok-clause-judged c = ap (accepted_as Graph) c.in-Ok.ensures.judged

pub returns-in-Err-clause-judged : goal.returns-in-Err-clause-judged
returns-in-Err-clause-judged c =
    refused_as {X = WeightedGraph} {Y = LayerProblem} Graph _ (read_at c.read_graph.new.lines) (read_at c.read_graph.new.lines) c.in-Err.bad (rw c.in-Err.is at c.read_graph.ensures.judged)
