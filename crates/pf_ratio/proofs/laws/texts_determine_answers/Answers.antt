use Rattle.pf_format.proofs.Formats.{same_value}
use Rattle.pf_ratio.specs.Answer.{parts_text, HaveShape}
use Rattle.pf_ratio.proofs.SameAnswers.{one_text}
use Rattle.pf_ratio.proofs.laws.texts_determine_answers.Goals as goal

pub returns : goal.returns
returns c = λ name word count width. same_value (parts_text name word) (HaveShape count width) (one_text name word count width)
