use Rattle.pf_lines.proofs.ItemsTaken.{HasTaken}
use Rattle.pf_lines.proofs.RowsTaken.{number_items}
use Rattle.pf_lines.proofs.taking.take_numbers.Given as goal

abbrev pub invariant-numbers : goal.invariant-numbers
invariant-numbers l = HasTaken (number_items l.fn.min l.fn.max) l.width l.fn.text l.text l._i l.numbers.items
