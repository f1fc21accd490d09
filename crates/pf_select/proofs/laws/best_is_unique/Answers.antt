use Rattle.pf_select.proofs.OneSchedule.{one_best, one_lowest}
use Rattle.pf_select.proofs.laws.best_is_unique.Goals as goal

pub returns : goal.returns
returns c = record { schedule = one_best; lowest = one_lowest }
