use Rattle.pf_reinforce.proofs.Rivals.{reaches_by_rule, blocked_by_rule}
use Rattle.pf_reinforce.proofs.laws.rule_is_enough.Goals as goal

pub returns : goal.returns
returns c = record { reaches = reaches_by_rule; blocked = blocked_by_rule }
