use Rattle.std.proofs.Common.{◌-◌}
use Rattle.pf_preflow.specs.Raising.{HasVisited}
use Rattle.pf_preflow.proofs.labels.fill_distances.Given as goal

abbrev pub invariant-search : goal.invariant-search
invariant-search l = HasVisited l.net.frame.now.nodes l.distances l.order l.put

abbrev pub decreases-search : goal.decreases-search
decreases-search l = l.net.frame.now.nodes - l.taken
