use Rattle.std.proofs.Common.{sym, ap}
use Rattle.pf_format.proofs.Formats.{adds_as}
use Rattle.pf_closure.specs.Text.{ratio_text}
use Rattle.pf_closure.proofs.text.write_ratio.Goals as goal

pub returns : goal.returns
unfolding ratio_text
returns g c = adds_as c.write_answer.ensures (ap ratio_text (sym c.parts.ensures))
