use Rattle.std.proofs.Common.{◌≡◌}
use Rattle.pf_principal.specs.Rows.{AreFilled}
use Rattle.pf_principal.proofs.search.fill_tables.Given as goal

abbrev pub invariant-levels : goal.invariant-levels
invariant-levels l = record {
  same : l.forest.graph ≡ l.fn.forest.graph;
  filled : AreFilled l.fn.forest.graph l.levels l.vectors l.splits l.j;
}
