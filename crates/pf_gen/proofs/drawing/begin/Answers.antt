use Rattle.pf_gen.specs.Generator.{first_generator}
use Rattle.pf_gen.proofs.drawing.begin.Goals as goal

pub returns : goal.returns
unfolding first_generator
returns c = c.new.ensures
