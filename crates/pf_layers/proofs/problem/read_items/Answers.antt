use Rattle.std.proofs.Common.{ap}
use Rattle.pf_closure.specs.Problem.{ClosureProblem}
use Rattle.pf_layers.specs.declared.problem.LayerProblem.{LayerProblem}
use Rattle.pf_layers.specs.declared.problem.LayerProblem.TheVariants.{Closure}
use Rattle.pf_layers.specs.Problem.{accepted_as}
use Rattle.pf_layers.proofs.KindLemmas.{read_at, refused_as}
use Rattle.pf_layers.proofs.problem.read_items.Goals as goal

pub returns-in-Ok-clause-judged : goal.returns-in-Ok-clause-judged
returns-in-Ok-clause-judged c = ap (accepted_as Closure) c.in-Ok.ensures.judged

pub returns-in-Err-clause-judged : goal.returns-in-Err-clause-judged
returns-in-Err-clause-judged c =
    refused_as {X = ClosureProblem} {Y = LayerProblem} Closure _ (read_at c.read_closure.new.lines) (read_at c.read_closure.new.lines) c.in-Err.bad (rw c.in-Err.is at c.read_closure.ensures.judged)
