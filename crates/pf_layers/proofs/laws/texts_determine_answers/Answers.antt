use Rattle.pf_layers.proofs.SameAnswers.{one_answer}
use Rattle.pf_layers.proofs.Shapes.{dense_shape, ratio_shape}
use Rattle.pf_layers.proofs.laws.texts_determine_answers.Goals as goal

pub returns : goal.returns
returns c = record { layers = one_answer; dense = dense_shape; ratio = ratio_shape }
