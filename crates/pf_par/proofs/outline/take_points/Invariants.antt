use Rattle.pf_lines.proofs.PartsTaken.{HasParts}
use Rattle.pf_par.proofs.SegmentsTaken.{outline_parts}
use Rattle.pf_par.proofs.outline.take_points.Given as goal

abbrev pub invariant-segments : goal.invariant-segments
invariant-segments l = HasParts (outline_parts l.net) l.count l.fn.text l.text l.i l.outline
