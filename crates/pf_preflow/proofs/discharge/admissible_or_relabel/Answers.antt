use Rattle.std.proofs.Common.{◌*◌, ◌<◌, arith}
use Rattle.pf_preflow.specs.Network.{flow_network}
use Rattle.pf_preflow.proofs.Relabel.{least_found}
use Rattle.pf_preflow.proofs.Pushing.{ready_lowest}
use Rattle.pf_preflow.proofs.discharge.admissible_or_relabel.Goals as goal

pub relabel-requires-clause-small : goal.relabel-requires-clause-small
relabel-requires-clause-small g c =
    let low : c.lowest_neighbour-lowest.result.label < 2 * c.args.net.frame.now.nodes =
    least_found (flow_network c.args.net) c.args.flow.now c.args.labels.now c.args.room.now.excess.items c.args.v _ c.requires.state c.requires.node c.requires.active
    c.lowest_neighbour-lowest.ensures.none_lower in
    let few = c.requires.small.few_nodes in
    omega (arith, low, few)

pub returns-in-None-clause-ready : goal.returns-in-None-clause-ready
returns-in-None-clause-ready g c =
    let none = c.lowest_neighbour-lowest.ensures.none_lower in
    let low : c.lowest_neighbour-lowest.result.label < 2 * c.args.net.frame.now.nodes =
    least_found (flow_network c.args.net) c.args.flow.now c.args.labels.now c.args.room.now.excess.items c.args.v _ c.requires.state c.requires.node c.requires.active none in
    ready_lowest (flow_network c.args.net) c.args.flow.now c.args.labels.now c.relabel.new.labels c.args.room.now.excess.items c.args.v c.args.steps.now c.relabel.new.steps
    c.lowest_neighbour-lowest.result c.requires.proper c.requires.small c.requires.state c.requires.node c.requires.active none (c.lowest_neighbour-lowest.ensures.found low)
    (record { up = c.relabel.ensures.up; stays = c.relabel.ensures.stays })

pub returns-in-None-clause-from : goal.returns-in-None-clause-from
returns-in-None-clause-from g c =
    let low : c.lowest_neighbour-lowest.result.label < 2 * c.args.net.frame.now.nodes =
    least_found (flow_network c.args.net) c.args.flow.now c.args.labels.now c.args.room.now.excess.items c.args.v _ c.requires.state c.requires.node c.requires.active
    c.lowest_neighbour-lowest.ensures.none_lower in
    (c.lowest_neighbour-lowest.ensures.found low).from
