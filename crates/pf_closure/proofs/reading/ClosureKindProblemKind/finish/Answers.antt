use Rattle.std.proofs.Common.{subst}
use Rattle.pf_closure.specs.Problem.{IsBoundedProblem}
use Rattle.pf_closure.specs.Text.{closure}
use Rattle.pf_closure.proofs.TextLaw.{accepted_lines_are_bounded}
use Rattle.pf_closure.proofs.reading.ClosureKindProblemKind.finish.Goals as goal

pub items-requires : goal.items-requires
unfolding closure
items-requires c = λ p made.
    let from = c.requires p made in
    subst IsBoundedProblem from.problem_is (accepted_lines_are_bounded from.lines from.read from.judged)
