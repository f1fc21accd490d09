use Rattle.std.proofs.Common.{ap, sym, ◌∙◌}
use Rattle.pf_layers.specs.Problem.{begins_closure}
use Rattle.pf_layers.proofs.problem.begins_closure.Goals as goal

pub returns-in-Some : goal.returns-in-Some
returns-in-Some c = c.names_closure.ensures ∙ sym (ap begins_closure (rw c.new-lines.ensures at c.in-Some.ensures.given))

pub returns-in-None : goal.returns-in-None
returns-in-None c = sym (ap begins_closure (rw c.new-lines.ensures at c.in-None.ensures.given))
