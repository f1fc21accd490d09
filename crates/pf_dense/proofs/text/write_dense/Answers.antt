use Rattle.std.proofs.Common.{sym, ap}
use Rattle.pf_format.proofs.Formats.{adds_as}
use Rattle.pf_dense.specs.Text.{dense_text}
use Rattle.pf_dense.proofs.text.write_dense.Goals as goal

pub returns : goal.returns
unfolding dense_text
returns g c = adds_as c.write_answer.ensures (ap dense_text (sym c.parts.ensures))
