use Rattle.pf_share.proofs.Examples.{narrow, not_full, stuck, in_thirds, one_level}
use Rattle.pf_share.proofs.laws.worked_networks.Goals as goal

pub returns-clause-narrow : goal.returns-clause-narrow
returns-clause-narrow c = narrow

pub returns-clause-one : goal.returns-clause-one
returns-clause-one c = one_level

pub returns-clause-free : goal.returns-clause-free
returns-clause-free c = not_full

pub returns-clause-stuck : goal.returns-clause-stuck
returns-clause-stuck c = stuck

pub returns-clause-thirds : goal.returns-clause-thirds
returns-clause-thirds c = in_thirds
