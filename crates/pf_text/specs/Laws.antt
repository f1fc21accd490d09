-- What holds of every text.
use Rattle.std.specs.Prelude.{◌≡◌, Bool}
use Rattle.pf_text.specs.Verdict.{verdict_text}

-- verdicts with equal texts are equal
abbrev pub VerdictFromText : Type 0
VerdictFromText = (a b : Bool) → verdict_text a ≡ verdict_text b → a ≡ b
