use Rattle.std.proofs.Common.{refl}
use Rattle.pf_sweep.proofs.Keeping.{kept_least}
use Rattle.pf_sweep.proofs.sweep.keep.Goals as goal

pub returns-then-is_least_still-clause-smallest : goal.returns-then-is_least_still-clause-smallest
returns-then-is_least_still-clause-smallest c =
    kept_least c.args.net.now c.args.at.now.unit c.args.at.now.p c.args.flow.now c.args.cut.now c.if-is_least_still.ensures.built c.requires.inside c.requires.greatest c.requires.kept
    (c.if-is_least_still.ensures.least refl)
