use Rattle.std.proofs.Common.{sym, ap, ◌∙◌}
use Rattle.pf_format.proofs.Formats.{adds_as}
use Rattle.pf_strength.specs.Text.{strength_text}
use Rattle.pf_strength.proofs.text.write_strength.Goals as goal

pub returns : goal.returns
returns g c = adds_as c.print.ensures (c.strength_format.ensures.text c.fields.result.now ∙ ap strength_text (sym c.fields.ensures))
