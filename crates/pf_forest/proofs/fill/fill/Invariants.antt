use Rattle.std.proofs.Common.{◌≡◌}
use Rattle.pf_model.specs.Digraph.{arcs_out}
use Rattle.pf_forest.specs.Held.{HasTables}
use Rattle.pf_forest.specs.Filling.{IsForest}
use Rattle.pf_forest.proofs.Filling.{IsFilling, IsRowDone}
use Rattle.pf_forest.proofs.fill.fill.Given as goal

abbrev pub invariant-rows : goal.invariant-rows
invariant-rows l = record {
  forest : IsForest l.frame l.limit l.charges.vector.items l.charges.heads.items l.charges.rooms.items l.groups;
  filling : IsFilling l.frame l.goals l.charges.vector.items l.groups l.u;
  tables : HasTables l.frame.nodes l.workspace;
}

abbrev pub invariant-row : goal.invariant-row
invariant-row l = record {
  forest : IsForest l.frame l.limit l.charges.vector.items l.charges.heads.items l.charges.rooms.items l.groups;
  filling : IsFilling l.frame l.goals l.charges.vector.items l.groups l.u;
  tables : HasTables l.frame.nodes l.workspace;
  items : l.e-items ≡ arcs_out l.frame l.u;
  row : IsRowDone l.frame l.goals l.charges.vector.items l.groups l.e-items l.e-index;
}
