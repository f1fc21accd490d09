-- What a search is of, as the definitions see it.
use Rattle.pf_model.specs.Cut.{FlowNetwork}
use Rattle.pf_model.specs.Digraph.{network_of}
use Rattle.pf_plain.specs.declared.paths.Network.{Network}

abbrev pub flow_network : Network → FlowNetwork
flow_network net = network_of net.frame.now net.caps.now net.source net.sink
