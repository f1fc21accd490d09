use Rattle.pf_format.proofs.Formats.{whole_as}
use Rattle.pf_ratio.proofs.text.read_answer.Goals as goal

pub returns : goal.returns
returns c = whole_as c.read_whole.result c.read_whole.ensures c.answer_format-format.ensures.text c.answer_format-format.ensures.shape
