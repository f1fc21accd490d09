use Rattle.std.proofs.lemmas.Bool.{OnTrue_from}
use Rattle.pf_select.specs.Problem.{IsBestSchedule}
use Rattle.pf_select.proofs.Soundness.{certificate_proves}
use Rattle.pf_select.proofs.checking.check_schedule.Goals as goal

pub returns-clause-best : goal.returns-clause-best
returns-clause-best c =
    OnTrue_from c.is_certified.result (IsBestSchedule c.args.catalogue.now c.args.answer.now.prices c.args.answer.now.selections)
    (λ told. certificate_proves c.args.catalogue.now _ _ _ c.parts.ensures.limits.problem (c.is_certified.ensures.0 told))
