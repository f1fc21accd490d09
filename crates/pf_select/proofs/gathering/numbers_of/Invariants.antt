use Rattle.std.proofs.Common.{◌≡◌, take, Some}
use Rattle.pf_select.specs.Text.{all_given}
use Rattle.pf_select.proofs.gathering.numbers_of.Given as goal

abbrev pub invariant-slots : goal.invariant-slots
invariant-slots l = all_given (take l.i l.slots) ≡ Some l.numbers.items
