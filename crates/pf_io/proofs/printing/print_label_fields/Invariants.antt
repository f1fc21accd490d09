use Rattle.std.proofs.Common.{take, map, Ok}
use Rattle.std.specs.Fmt.{decimal}
use Rattle.pf_io.specs.Printing.{Adds}
use Rattle.pf_text.specs.Spelling.{spaced}
use Rattle.pf_io.proofs.printing.print_label_fields.Given as goal

abbrev pub invariant-items : goal.invariant-items
invariant-items g l = Adds {T = Unit {0}} l.fn.out l.out (spaced (map decimal (take l.label-index l.labels))) (Ok tt)
