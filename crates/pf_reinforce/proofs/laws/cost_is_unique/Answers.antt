use Rattle.pf_reinforce.proofs.OneAnswer.{one_cost, one_blocked, answers_tell_the_same}
use Rattle.pf_reinforce.proofs.laws.cost_is_unique.Goals as goal

pub returns : goal.returns
returns c = record { cost = one_cost; blocked = one_blocked; same = answers_tell_the_same }
