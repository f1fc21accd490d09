use Rattle.std.proofs.Common.{◌≡◌, length}
use Rattle.pf_select.specs.Tests.{AreGained}
use Rattle.pf_select.proofs.worth.mark_gained.Given as goal

abbrev pub invariant-needs : goal.invariant-needs
invariant-needs l = record {
  full : length l.products ≡ length l.fn.products;
  gained : AreGained l.needs l.k l.set l.products;
}
