use Rattle.pf_curve.proofs.Envelopes.{least_line}
use Rattle.pf_curve.proofs.family.find_cut.Goals as goal

pub returns-clause-least : goal.returns-clause-least
returns-clause-least c =
    least_line c.args.finder.now c.args.at.now c.write_cut-line.result c.write_cut-line.new.side c.write_cut-line.ensures.smallest.least c.write_cut-line.ensures.line
