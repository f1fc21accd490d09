use Rattle.pf_format.proofs.Formats.{adds_as}
use Rattle.pf_ratio.proofs.text.write_answer.Goals as goal

pub returns : goal.returns
returns g c = adds_as c.print.ensures (c.answer_format.ensures.text c.args.parts.now)
