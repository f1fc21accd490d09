use Rattle.std.proofs.Common.{◌≡◌, drop}
use Rattle.pf_lines.specs.Shapes.{found_in}
use Rattle.pf_lines.proofs.matching.find_form.Given as goal

abbrev pub invariant-forms : goal.invariant-forms
invariant-forms l = found_in 0 l.forms l.line.fields ≡ found_in l.i (drop l.i l.forms) l.line.fields
