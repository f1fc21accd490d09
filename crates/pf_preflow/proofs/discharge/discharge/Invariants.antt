use Rattle.std.proofs.Common.{ℕ, List}
use Rattle.pf_preflow.specs.Labels.{HasCounted}
use Rattle.pf_preflow.specs.Network.{flow_network}
use Rattle.pf_preflow.specs.Room.{Serves}
use Rattle.pf_preflow.specs.State.{IsState, IsNextActive, work}
use Rattle.pf_preflow.proofs.discharge.discharge.Given as goal

abbrev pub invariant-discharge : goal.invariant-discharge
invariant-discharge g l = record {
  state : IsState (flow_network l.net) l.flow l.labels l.room.excess.items;
  room : Serves l.room l.net.frame.now.nodes;
  next : IsNextActive l.net.source l.net.sink l.room.excess.items l.v;
  counted : (start : List ℕ) (before : ℕ) → HasCounted start l.fn.labels before l.fn.steps → HasCounted start l.labels before l.steps;
}

abbrev pub decreases-discharge : goal.decreases-discharge
decreases-discharge g l = work (flow_network l.net) l.flow l.labels
