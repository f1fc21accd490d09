use Rattle.pf_reinforce.proofs.SameAnswers.{one_answer}
use Rattle.pf_reinforce.proofs.Shapes.{right_shape}
use Rattle.pf_reinforce.proofs.laws.texts_determine_answers.Goals as goal

pub returns : goal.returns
returns c = record { reinforcement = one_answer; shape = right_shape }
