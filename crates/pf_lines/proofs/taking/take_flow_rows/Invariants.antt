use Rattle.pf_lines.proofs.ItemsTaken.{HasTaken}
use Rattle.pf_lines.proofs.FlowRows.{row_items}
use Rattle.pf_lines.proofs.taking.take_flow_rows.Given as goal

abbrev pub invariant-flows : goal.invariant-flows
invariant-flows l = HasTaken (row_items l.word l.first l.width) l.count l.fn.text l.text l.j l.flows
