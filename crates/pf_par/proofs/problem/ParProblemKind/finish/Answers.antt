use Rattle.std.proofs.Common.{subst}
use Rattle.pf_model.specs.Network.{Network, IsMonotone}
use Rattle.pf_par.specs.Laws.{IsTextNetwork}
use Rattle.pf_par.specs.Text.{par}
use Rattle.pf_par.proofs.ParLaw.{accepted_lines_are_good}
use Rattle.pf_par.proofs.problem.ParProblemKind.finish.Goals as goal

pub network-requires : goal.network-requires
unfolding par
network-requires c = λ net made.
    let from = c.requires net made in
    subst (λ (n : Network). IsMonotone n × IsTextNetwork n) from.problem_is (accepted_lines_are_good from.lines from.read from.judged)
