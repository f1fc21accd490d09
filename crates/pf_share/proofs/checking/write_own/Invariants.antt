use Rattle.std.proofs.Common.{◌≡◌, length}
use Rattle.pf_share.specs.Tests.{AreOwn}
use Rattle.pf_share.proofs.checking.write_own.Given as goal

abbrev pub invariant-nodes : goal.invariant-nodes
invariant-nodes l = record {
  full : length l.sums ≡ length l.fn.sums;
  own : AreOwn l.sharing l.answer l.v l.sums;
}
