use Rattle.pf_curve.proofs.Envelopes.{least_line}
use Rattle.pf_curve.proofs.between.lifted.Goals as goal

pub returns-clause-least : goal.returns-clause-least
returns-clause-least c =
    least_line c.args.core.now.net c.args.at.now c.write_lifted-line.result c.write_lifted-line.new.side c.write_lifted-line.ensures.smallest.least c.write_lifted-line.ensures.line
