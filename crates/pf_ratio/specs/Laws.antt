-- What holds of the texts of answers.
use Rattle.std.specs.Prelude.{◌≡◌, ℕ, List}
use Rattle.pf_ratio.specs.Answer.{Parts, parts_text, HaveShape}

-- answers of one shape with equal texts are equal
abbrev pub OneAnswer : Type 0
OneAnswer = (name word : List ℕ) (count width : ℕ) (x y : Parts) → HaveShape count width x → HaveShape count width y →
    parts_text name word x ≡ parts_text name word y → x ≡ y
