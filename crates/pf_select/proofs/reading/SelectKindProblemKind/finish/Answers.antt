use Rattle.std.proofs.Common.{subst}
use Rattle.pf_select.specs.Problem.{IsBoundedProblem}
use Rattle.pf_select.specs.Text.{select}
use Rattle.pf_select.proofs.TextLaw.{accepted_lines_are_bounded}
use Rattle.pf_select.proofs.reading.SelectKindProblemKind.finish.Goals as goal

pub catalogue-requires : goal.catalogue-requires
unfolding select
catalogue-requires c = λ p made.
    let from = c.requires p made in
    subst IsBoundedProblem from.problem_is (accepted_lines_are_bounded from.lines from.read from.judged)
