-- What a call answers that takes a piece of a text from its front.
use Rattle.std.specs.Prelude.{◌≡◌, ℕ, ℤ, ◌≤ℤ◌, ◌≤◌, ◌^◌, false, List, [], ◌∷◌, length, All, Result, Ok, Err}
use Rattle.pf_model.specs.Answer.{IsFractionShape, IsWithinSize}
use Rattle.pf_text.specs.Numbers.{is_digit}
use Rattle.pf_text.specs.Spelling.{fraction_line}
use Rattle.pf_lines.specs.declared.errors.AnswerBad.{AnswerBad}
use Rattle.pf_lines.specs.declared.errors.NotThere.{NotThere}
use Rattle.pf_lines.specs.declared.errors.AnswerBad.TheVariants.{NotText, NoMemory}
use Rattle.pf_lines.specs.declared.taking.Valued.{Valued}

-- no digit stands in front
abbrev pub Stops : List ℕ → Type 0
Stops [] = Unit {0}
Stops (b ∷ bytes) = is_digit b ≡ false

-- memory was wanted, which says nothing of the text
abbrev pub IsExcused : AnswerBad → Type 0
IsExcused NotText = ⊥
IsExcused NoMemory = Unit {0}

-- The text has this value in front, and these bytes after it: then the value is found, and these bytes are left, or memory
-- was wanted.
abbrev pub Takes : {X : Type 0} → X → List ℕ → Result X AnswerBad → List ℕ → Type 0
Takes x rest (Ok y) left = (y ≡ x) × (left ≡ rest)
Takes x rest (Err bad) left = IsExcused bad

-- the same of a call that takes no memory: then the value is found
abbrev pub Finds : {X : Type 0} → X → List ℕ → Result X NotThere → List ℕ → Type 0
Finds x rest (Ok y) left = (y ≡ x) × (left ≡ rest)
Finds x rest (Err bad) left = ⊥

-- the same where nothing is found but that the piece is there
abbrev pub Passes : List ℕ → Result (Unit {0}) NotThere → List ℕ → Type 0
Passes rest (Ok y) left = left ≡ rest
Passes rest (Err bad) left = ⊥

-- the number lies from the one to the other
pub record IsBetween (min max number : ℤ) : Type 0 where
  pub low : min ≤ℤ number
  pub high : number ≤ℤ max

-- so many numbers, each from the one to the other
pub record IsRow (width : ℕ) (min max : ℤ) (numbers : List ℤ) : Type 0 where
  pub full : length numbers ≡ width
  pub each : All (IsBetween min max) numbers

-- so many numbers, each of a size below 2^104
pub record IsFlowRow (width : ℕ) (flow : List ℤ) : Type 0 where
  pub full : length flow ≡ width
  pub each : All (IsWithinSize (2 ^ 104)) flow

-- so many labels, each from 1 to the most
pub record AreLabels (width most : ℕ) (labels : List ℕ) : Type 0 where
  pub full : length labels ≡ width
  pub each : All (λ label. (1 ≤ label) × (label ≤ most)) labels

-- a fraction, and a value there of a size below 2^120
pub record IsValued (point : Valued) : Type 0 where
  pub at : IsFractionShape point.at
  pub value : IsWithinSize (2 ^ 120) point.value

-- the line of a fraction and a value there
abbrev pub valued_line : List ℕ → List ℕ → Valued → List ℕ
valued_line word indices point = fraction_line word indices point.at (point.value ∷ [])
