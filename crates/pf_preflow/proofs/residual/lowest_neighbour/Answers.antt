use Rattle.pf_preflow.specs.Network.{flow_network}
use Rattle.pf_preflow.proofs.Scan.{least_of_both}
use Rattle.pf_preflow.proofs.residual.lowest_neighbour.Goals as goal

pub returns-clause-none_lower : goal.returns-clause-none_lower
returns-clause-none_lower c =
    least_of_both (flow_network c.args.net) c.args.flow.now c.args.labels.now c.args.v c.lowest_in-forward.result.label c.lowest_in.result.label
    c.lowest_in-forward.ensures.none_lower c.lowest_in.ensures.none_lower c.lowest_in.ensures.most
