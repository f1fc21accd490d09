use Rattle.std.proofs.Common.{◌≡◌, List, refl}
use Rattle.std.specs.Prelude.{ℤ}
use Rattle.pf_model.specs.Fraction.{Fraction}
use Rattle.pf_model.specs.Network.{Network}
use Rattle.pf_curve.specs.Flows.{AreGreatest}
use Rattle.pf_curve.proofs.Envelopes.{points_inside}
use Rattle.pf_curve.proofs.function.search.Goals as goal

pub rows_of-requires : goal.rows_of-requires
rows_of-requires c = points_inside c.args.net.now c.args.net.now c.in_ok-found.found.points c.points.result.now c.in_ok-found.found.cuts c.frame.ensures.built.monotone
    c.in_ok-found.ensures.curve refl c.points.ensures.points

same_flows : (net : Network) (points got : List Fraction) (flows : List (List ℤ)) → got ≡ points → AreGreatest net got flows → AreGreatest net points flows
same_flows net points got flows is_points best = rw is_points at best

pub returns-clause-flows : goal.returns-clause-flows
returns-clause-flows c = same_flows c.args.net.now c.in_ok-found.found.points c.points.result.now c.in_ok-rows.rows c.points.ensures.points c.in_ok-rows.ensures
