use Rattle.pf_lines.proofs.PartsTaken.{HasParts}
use Rattle.pf_select.proofs.OutlineLemmas.{outline_parts}
use Rattle.pf_select.proofs.outline.take_outline.Given as goal

abbrev pub invariant-changes : goal.invariant-changes
invariant-changes l = HasParts (outline_parts l.width) l.count l.fn.text l.text l.j l.outline
