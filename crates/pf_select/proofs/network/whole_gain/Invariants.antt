use Rattle.std.proofs.Common.{◌≡◌, ◌*◌, ◌≤◌, take, true}
use Rattle.std.specs.Prelude.{pos, map}
use Rattle.pf_select.specs.Problem.{sum_of}
use Rattle.pf_select.proofs.network.whole_gain.Given as goal

abbrev pub invariant-products : goal.invariant-products
invariant-products l = record {
  sum : pos l.sum ≡ sum_of (λ j. true) (map pos (take l.j l.gains));
  small : l.sum ≤ l.j * 1000000;
}
