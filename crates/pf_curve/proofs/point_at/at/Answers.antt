use Rattle.pf_model.specs.Network.{IsInInterval}
use Rattle.pf_curve.proofs.PointLemmas.{not_outside}
use Rattle.pf_curve.proofs.point_at.at.Goals as goal

pub returns-clause-outside : goal.returns-clause-outside
returns-clause-outside c =
    let inside : IsInInterval c.args.net.now c.args.at.now = c.if-not-lies_inside.ensures in
    (λ e. absurd cc, λ out. absurd (not_outside c.args.net.now c.args.at.now inside out))
