use Rattle.std.proofs.Common.{refl, subst}
use Rattle.pf_graph.specs.Limits.{IsWithinLimits}
use Rattle.pf_graph.specs.Text.{graph}
use Rattle.pf_graph.proofs.TextLaw.{accepted_lines_are_within}
use Rattle.pf_graph.proofs.reading.TaskProblemKind.finish.Goals as goal

pub graph-requires : goal.graph-requires
unfolding graph
graph-requires c =
    let from = c.requires _ refl in
    subst IsWithinLimits from.problem_is (accepted_lines_are_within c.args.self.now from.lines from.read from.judged).limits
