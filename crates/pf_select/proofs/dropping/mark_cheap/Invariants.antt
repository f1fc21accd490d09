use Rattle.std.proofs.Common.{◌≡◌, length}
use Rattle.pf_select.specs.Dropping.{AreCheap}
use Rattle.pf_select.proofs.dropping.mark_cheap.Given as goal

abbrev pub invariant-parts : goal.invariant-parts
invariant-parts l = record {
  full : length l.marks ≡ length l.fn.marks;
  cheap : AreCheap l.slacks l.i l.marks;
}
