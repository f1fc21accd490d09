use Rattle.pf_lines.proofs.ItemsTaken.{HasTaken}
use Rattle.pf_share.proofs.ShareLines.{level_items}
use Rattle.pf_share.proofs.answers.take_levels.Given as goal

abbrev pub invariant-levels : goal.invariant-levels
invariant-levels l = HasTaken level_items l.count l.fn.text l.text l.j l.levels
