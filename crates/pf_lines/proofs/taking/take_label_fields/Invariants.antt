use Rattle.pf_lines.proofs.ItemsTaken.{HasTaken}
use Rattle.pf_lines.proofs.RowsTaken.{label_items}
use Rattle.pf_lines.proofs.taking.take_label_fields.Given as goal

abbrev pub invariant-labels : goal.invariant-labels
invariant-labels l = HasTaken (label_items l.most) l.width l.fn.text l.text l._i l.labels.items
