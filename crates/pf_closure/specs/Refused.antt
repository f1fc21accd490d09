-- Refusals of lines.
use Rattle.std.specs.Prelude.{◌≡◌, Result, Err}
use Rattle.pf_text.specs.declared.RuleKind.{RuleKind}
use Rattle.pf_lines.specs.declared.errors.LineBad.{LineBad}
use Rattle.pf_lines.specs.declared.errors.LineBad.TheVariants.{Broken, NoMemory}

-- what the rules decide is this refusal; running out of memory says nothing
abbrev pub IsRefusedBy : {Y : Type 0} → Result Y RuleKind → LineBad → Type 0
IsRefusedBy decided (Broken rule) = decided ≡ Err rule
IsRefusedBy decided NoMemory = Unit {0}
