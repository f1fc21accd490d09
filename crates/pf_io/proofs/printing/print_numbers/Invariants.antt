use Rattle.std.proofs.Common.{take, map, Ok}
use Rattle.std.specs.Fmt.{signed_decimal}
use Rattle.pf_io.specs.Printing.{Adds}
use Rattle.pf_text.specs.Spelling.{spaced}
use Rattle.pf_io.proofs.printing.print_numbers.Given as goal

abbrev pub invariant-items : goal.invariant-items
invariant-items g l = Adds {T = Unit {0}} l.fn.out l.out (spaced (map signed_decimal (take l.number-index l.numbers))) (Ok tt)
