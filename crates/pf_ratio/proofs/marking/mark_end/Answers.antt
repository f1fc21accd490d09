use Rattle.pf_ratio.proofs.MarkingLemmas.{first_marked, second_marked}
use Rattle.pf_ratio.proofs.marking.mark_end.Goals as goal

pub returns-then-not-marks-link : goal.returns-then-not-marks-link
returns-then-not-marks-link c = first_marked c.args.link c.args.marks.now c.requires.first c.if-link.true c.if-marks-link.true c.if-not-marks-link.true

pub returns-then-not-marks-link-2 : goal.returns-then-not-marks-link-2
returns-then-not-marks-link-2 c = second_marked c.args.link c.args.marks.now c.requires.second c.if-link-2.true c.if-marks-link-2.true c.if-not-marks-link-2.true
