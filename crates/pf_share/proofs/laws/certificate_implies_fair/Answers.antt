use Rattle.pf_share.proofs.Soundness.{certified_fair}
use Rattle.pf_share.proofs.laws.certificate_implies_fair.Goals as goal

pub returns : goal.returns
returns c = certified_fair
