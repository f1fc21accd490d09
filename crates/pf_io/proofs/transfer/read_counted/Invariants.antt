use Rattle.std.proofs.Common.{◌+◌, ◌-◌, ◌≤◌, take, vec_len}
use Rattle.pf_io.specs.Told.{Gave}
use Rattle.pf_io.proofs.transfer.read_counted.Given as goal

abbrev pub invariant-reads : goal.invariant-reads
invariant-reads g l = record {
  gave : Gave (g.S.Source.left l.fn.source) (g.S.Source.left l.source) (take l.used l.bytes.items);
  few : l.used ≤ l.limit;
  used : l.used ≤ vec_len l.bytes;
  capped : vec_len l.bytes ≤ l.limit + 1;
  reads : l.reads ≤ l.fn.reads + l.used;
  later : g.S.Source.faults l.fn.source ≤ g.S.Source.faults l.source;
}

abbrev pub decreases-reads : goal.decreases-reads
decreases-reads g l = l.limit + 1 - l.used
