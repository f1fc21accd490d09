use Rattle.std.proofs.lemmas.Bool.{OnTrue_from}
use Rattle.pf_share.specs.Certificate.{IsBestShares}
use Rattle.pf_share.proofs.Soundness.{certified_fair}
use Rattle.pf_share.proofs.checking.check_shares.Goals as goal

pub returns-clause-best : goal.returns-clause-best
returns-clause-best c =
    OnTrue_from c.is_certified.result (IsBestShares c.args.sharing.now c.args.answer.now)
    (λ told. certified_fair c.args.sharing.now c.args.answer.now c.nodes.ensures.limits.problem (c.is_certified.ensures.0 told))
