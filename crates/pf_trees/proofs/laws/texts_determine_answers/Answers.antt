use Rattle.pf_trees.proofs.SameAnswers.{trees_from_text}
use Rattle.pf_trees.proofs.laws.texts_determine_answers.Goals as goal

pub returns : goal.returns
returns c = trees_from_text
