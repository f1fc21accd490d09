use Rattle.pf_lines.proofs.ItemsTaken.{HasTaken}
use Rattle.pf_lines.proofs.RowsTaken.{side_items}
use Rattle.pf_lines.proofs.taking.take_side.Given as goal

abbrev pub invariant-nodes : goal.invariant-nodes
invariant-nodes l = HasTaken side_items l.fn.nodes l.fn.text l.text l.counter l.items.items
