use Rattle.std.proofs.Common.{ap, ◌∙◌}
use Rattle.pf_model.specs.Network.{Network}
use Rattle.pf_model.specs.Mirror.{other_sense}
use Rattle.pf_curve.proofs.TurnedCurves.{cuts_back, cuts_shape_back}
use Rattle.pf_curve.proofs.function.falling_cuts.Goals as goal

pub rising_cuts-requires : goal.rising_cuts-requires
rising_cuts-requires c = ap (λ (net : Network). net.sense) c.in_ok-other.ensures ∙ ap other_sense c.requires

pub returns-clause-curve : goal.returns-clause-curve
returns-clause-curve c =
    cuts_back c.args.net.now c.in_ok-other.other c.in_ok-found.found c.in_ok-made.made c.in_ok-other.ensures c.in_ok-found.ensures.curve c.in_ok-made.ensures

pub returns-clause-shape : goal.returns-clause-shape
returns-clause-shape c = cuts_shape_back c.in_ok-found.found c.in_ok-made.made c.in_ok-found.ensures.shape c.in_ok-made.ensures
