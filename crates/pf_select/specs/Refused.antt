-- Refusals of lines.
use Rattle.std.specs.Prelude.{◌≡◌, ℕ, List, Option, None}
use Rattle.pf_text.specs.declared.RuleKind.TheVariants.{Missing}
use Rattle.pf_lines.specs.declared.errors.LineBad.{LineBad}
use Rattle.pf_lines.specs.declared.errors.LineBad.TheVariants.{Broken, NoMemory}

-- not all numbers were given, which is the rule that is broken; running out of memory says nothing
abbrev pub IsMissingOf : Option (List ℕ) → LineBad → Type 0
IsMissingOf numbers (Broken rule) = (numbers ≡ None) × (rule ≡ Missing)
IsMissingOf numbers NoMemory = Unit {0}
