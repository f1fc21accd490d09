use Rattle.pf_graph.specs.Text.{graph}
use Rattle.pf_graph.proofs.TextLaw.{fits_widest}
use Rattle.pf_graph.proofs.reading.TaskProblemKind.start.Goals as goal

pub new-requires : goal.new-requires
unfolding graph
new-requires c = fits_widest c.args.self.now c.args.numbers.now c.requires
