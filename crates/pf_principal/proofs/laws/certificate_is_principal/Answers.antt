use Rattle.pf_principal.proofs.Certificate.{certificate_is_principal}
use Rattle.pf_principal.proofs.laws.certificate_is_principal.Goals as goal

pub returns : goal.returns
returns c = certificate_is_principal
