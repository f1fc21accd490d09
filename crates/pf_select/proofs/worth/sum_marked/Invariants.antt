use Rattle.std.proofs.Common.{◌≡◌, ◌*◌, ◌≤◌, take}
use Rattle.std.specs.Prelude.{pos, map}
use Rattle.pf_model.specs.Cut.{has}
use Rattle.pf_select.specs.Problem.{sum_of}
use Rattle.pf_select.proofs.worth.sum_marked.Given as goal

abbrev pub invariant-numbers : goal.invariant-numbers
invariant-numbers l = record {
  sum : pos l.sum ≡ sum_of (has l.marks) (map pos (take l.i l.numbers));
  small : l.sum ≤ l.i * 1000000;
}
