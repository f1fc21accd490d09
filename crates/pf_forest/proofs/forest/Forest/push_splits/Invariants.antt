use Rattle.std.proofs.Common.{◌≡◌}
use Rattle.std.specs.Prelude.{Some}
use Rattle.pf_model.specs.Fraction.{Fraction}
use Rattle.pf_forest.specs.Forest.{AddsSplits}
use Rattle.pf_forest.proofs.forest.Forest.push_splits.Given as goal

abbrev pub invariant-roots : goal.invariant-roots
invariant-roots l = record {
  same : l.self ≡ l.fn.self;
  adds : (x : Fraction) → l.fn.self.level ≡ Some x → AddsSplits l.fn.self.graph x l.fn.self.vector l.fn.table l.table l.root;
}
