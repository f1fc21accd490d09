use Rattle.std.proofs.Common.{◌≡◌, replicate}
use Rattle.std.specs.Prelude.{pos}
use Rattle.pf_frame.proofs.Rows.{rows_of}
use Rattle.pf_frame.proofs.table.FlowTable.make.Given as goal

abbrev pub invariant-rows : goal.invariant-rows
invariant-rows l = rows_of l.table.items ≡ replicate l._i (replicate l.width (pos 0))
