use Rattle.pf_share.proofs.OneFair.{same_shares}
use Rattle.pf_share.proofs.laws.fair_is_unique.Goals as goal

pub returns : goal.returns
returns c = λ p shares other problem f g. same_shares p problem shares other f g
