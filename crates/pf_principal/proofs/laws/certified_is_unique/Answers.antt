use Rattle.pf_principal.proofs.Certificate.{certified_is_unique}
use Rattle.pf_principal.proofs.laws.certified_is_unique.Goals as goal

pub returns : goal.returns
returns c = certified_is_unique
