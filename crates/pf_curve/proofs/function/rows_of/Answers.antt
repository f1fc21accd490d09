use Rattle.std.proofs.Common.{◌≡◌, List}
use Rattle.std.specs.Prelude.{ℤ}
use Rattle.pf_model.specs.Fraction.{Fraction}
use Rattle.pf_model.specs.Network.{Network}
use Rattle.pf_curve.specs.Flows.{AreGreatest}
use Rattle.pf_curve.proofs.function.rows_of.Goals as goal

pub flows_at-requires : goal.flows_at-requires
flows_at-requires c = rw c.in_ok-finder.ensures c.requires

same_flows : (net found : Network) (points : List Fraction) (flows : List (List ℤ)) → found ≡ net → AreGreatest found points flows → AreGreatest net points flows
same_flows net found points flows is_net best = rw is_net at best

pub returns : goal.returns
returns c = same_flows c.args.net.now c.in_ok-finder.finder c.args.points.now c.in_ok-flows.flows.rows c.in_ok-finder.ensures c.in_ok-flows.ensures
