use Rattle.std.proofs.Common.{◌≡◌, length}
use Rattle.pf_dense.specs.Dropping.{IsStart}
use Rattle.pf_dense.proofs.dropping.mark_strict.Given as goal

abbrev pub invariant-vertices : goal.invariant-vertices
invariant-vertices l = record {
  full : length l.marks ≡ length l.fn.marks;
  start : IsStart l.graph l.at l.sums l.v l.marks;
}
