-- What fields have to be, as a reader has it.
use Rattle.pf_text.specs.Kinds.{FieldPattern, number, word}
use Rattle.pf_lines.specs.declared.forms.Pattern.{Pattern}
use Rattle.pf_lines.specs.declared.forms.Pattern.TheVariants.{Word, Number}

-- the pattern of the definition
abbrev pub pattern_of : Pattern → FieldPattern
pattern_of (Word w) = word w.now
pattern_of (Number low high) = number low high
