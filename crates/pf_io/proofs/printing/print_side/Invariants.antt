use Rattle.std.proofs.Common.{take, Ok}
use Rattle.pf_io.specs.Printing.{Adds}
use Rattle.pf_text.specs.Spelling.{side_text}
use Rattle.pf_io.proofs.printing.print_side.Given as goal

abbrev pub invariant-nodes : goal.invariant-nodes
invariant-nodes g l = Adds {T = Unit {0}} l.fn.out l.out (side_text (take l.inside-index l.side)) (Ok tt)
