use Rattle.pf_trees.proofs.Rivals.{spanning_by_rule}
use Rattle.pf_trees.proofs.laws.rule_is_enough.Goals as goal

pub returns : goal.returns
returns c = spanning_by_rule
