use Rattle.pf_select.proofs.Examples.{whole, smaller, gained, parallel}
use Rattle.pf_select.proofs.laws.two_parts.Goals as goal

pub returns-clause-whole : goal.returns-clause-whole
returns-clause-whole c = whole

pub returns-clause-smaller : goal.returns-clause-smaller
returns-clause-smaller c = smaller

pub returns-clause-gained : goal.returns-clause-gained
returns-clause-gained c = gained

pub returns-clause-parallel : goal.returns-clause-parallel
returns-clause-parallel c = parallel
