use Rattle.pf_share.proofs.CertifiedTexts.{verdict}
use Rattle.pf_share.proofs.certified.is_certified_shares_text.Goals as goal

pub returns : goal.returns
returns c =
    verdict c.args.sharing.now c.args.text.now c.in-Ok.answer c.are_certified_shares.result c.in-Ok.ensures.shape c.in-Ok.ensures.text c.in-Ok.ensures.only
    c.are_certified_shares.ensures
