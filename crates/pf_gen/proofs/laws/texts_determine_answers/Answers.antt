use Rattle.pf_gen.proofs.SameAnswers.{network_from_text, summary_from_text}
use Rattle.pf_gen.proofs.laws.texts_determine_answers.Goals as goal

pub returns : goal.returns
returns c = record { network = network_from_text; summary = summary_from_text }
