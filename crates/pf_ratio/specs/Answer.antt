-- The answer of a ratio problem: a fraction, a set, and numbers that certify both. Its shape, whatever it says, and its text.
use Rattle.std.specs.Prelude.{◌≡◌, ℕ, ◌^◌, ℤ, Bool, List, [], ◌∷◌, ◌++◌, length, All, codes}
use Rattle.pf_model.specs.Fraction.{Fraction}
use Rattle.pf_model.specs.Answer.{IsFractionShape, IsWithinSize}
use Rattle.pf_text.specs.Spelling.{line, row_line, fraction_line, side_line}

-- a fraction in lowest terms, so many truth values, and so many numbers, each of a size below 2 ^ 104
pub record IsAnswerShape (count width : ℕ) (x : Fraction) (set : List Bool) (numbers : List ℤ) : Type 0 where
  pub ratio : IsFractionShape x
  pub chosen : length set ≡ count
  pub full : length numbers ≡ width
  pub each : All (IsWithinSize (2 ^ 104)) numbers

-- the name of the problem; a word with the fraction; the set; the numbers
unfoldable pub answer_text : List ℕ → List ℕ → Fraction → List Bool → List ℤ → List ℕ
answer_text name word x set numbers =
    line (codes "o" ∷ name ∷ [])
    ++ fraction_line word [] x []
    ++ side_line (codes "s") [] [] set
    ++ row_line (codes "f") [] numbers
    ++ line (codes "end" ∷ [])

-- the parts of an answer, as its text has them one after the other, their text and their shape
abbrev pub Parts : Type 0
Parts = Fraction × (List Bool × List ℤ)

abbrev pub parts_text : List ℕ → List ℕ → Parts → List ℕ
parts_text name word parts = answer_text name word parts.0 parts.1.0 parts.1.1

abbrev pub HaveShape : ℕ → ℕ → Parts → Type 0
HaveShape count width parts = IsAnswerShape count width parts.0 parts.1.0 parts.1.1
