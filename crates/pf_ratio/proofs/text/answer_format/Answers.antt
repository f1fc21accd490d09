use Rattle.pf_ratio.proofs.TextLemmas.{spelled_is, fits}
use Rattle.pf_ratio.proofs.text.answer_format.Goals as goal

pub returns-clause-text : goal.returns-clause-text
returns-clause-text c = spelled_is c.args.name.now c.args.word.now c.args.count c.args.width

pub returns-clause-shape : goal.returns-clause-shape
returns-clause-shape c = fits c.args.name.now c.args.word.now c.args.count c.args.width
