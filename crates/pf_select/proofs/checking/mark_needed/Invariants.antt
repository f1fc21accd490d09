use Rattle.std.proofs.Common.{◌≡◌, length}
use Rattle.pf_select.specs.Tests.{AreNeeded}
use Rattle.pf_select.proofs.checking.mark_needed.Given as goal

abbrev pub invariant-needs : goal.invariant-needs
invariant-needs l = record {
  full : length l.marks ≡ length l.fn.marks;
  needed : AreNeeded l.needs l.k l.marks;
}
