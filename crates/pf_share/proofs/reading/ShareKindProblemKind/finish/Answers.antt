use Rattle.std.proofs.Common.{subst}
use Rattle.pf_share.specs.Problem.{IsBoundedSharing}
use Rattle.pf_share.specs.Text.{share}
use Rattle.pf_share.proofs.TextLaw.{accepted_lines_are_bounded}
use Rattle.pf_share.proofs.reading.ShareKindProblemKind.finish.Goals as goal

pub sharing-requires : goal.sharing-requires
unfolding share
sharing-requires c = λ p made.
    let from = c.requires p made in
    subst IsBoundedSharing from.problem_is (accepted_lines_are_bounded from.lines from.read from.judged)
