use Rattle.pf_share.proofs.SameAnswers.{one_answer}
use Rattle.pf_share.proofs.LevelCount.{few_levels, one_certified}
use Rattle.pf_share.proofs.CertifiedTexts.{certified_is_right}
use Rattle.pf_share.proofs.laws.texts_determine_answers.Goals as goal

pub returns : goal.returns
returns c = record { shares = one_answer; few = few_levels; only = one_certified; certified = certified_is_right }
