use Rattle.pf_strength.proofs.TextLemmas.{spelled_is, shape_of, fits_of}
use Rattle.pf_strength.proofs.text.strength_format.Goals as goal

pub returns-clause-text : goal.returns-clause-text
returns-clause-text c = spelled_is

pub returns-clause-shape : goal.returns-clause-shape
returns-clause-shape c = λ g f n m. (shape_of g c.args.vertices c.args.edges f n m, fits_of g c.args.vertices c.args.edges f n m)
