-- What it says that a reader takes a value of one spelling, and that no text begins with the spellings of two values.
use Rattle.std.specs.Prelude.{◌≡◌, ◌≢◌, ℕ, List, ◌++◌, Result, Err, IfOk}
use Rattle.pf_lines.specs.declared.errors.AnswerBad.{AnswerBad}
use Rattle.pf_lines.specs.declared.errors.AnswerBad.TheVariants.{NotText}

-- A value of the shape was taken from the front of the text, or the text is refused, and then no text of such a value stands
-- there. Running out of memory says nothing of the text.
pub record Reads {X : Type 0} (text : X → List ℕ) (Is : X → Type 0) (old new : List ℕ) (result : Result X AnswerBad) : Type 0 where
  pub taken : IfOk result (λ x. old ≡ text x ++ new)
  pub shape : IfOk result Is
  pub refused : result ≡ Err NotText → (x : X) (rest : List ℕ) → Is x → old ≢ text x ++ rest

-- the same of a reader of a whole text
pub record ReadsWhole {X : Type 0} (text : X → List ℕ) (Is : X → Type 0) (whole : List ℕ) (result : Result X AnswerBad) : Type 0 where
  pub shape : IfOk result Is
  pub spelled : IfOk result (λ x. whole ≡ text x)
  pub refused : result ≡ Err NotText → (x : X) → Is x → whole ≢ text x

-- the values and what follows them are the same
pub record IsSame {X : Type 0} (x y : X) (rest later : List ℕ) : Type 0 where
  pub value : x ≡ y
  pub left : rest ≡ later

-- a text begins with the spelling of at most one value of the shape
abbrev pub HasOneReading : {X : Type 0} → (X → List ℕ) → (X → Type 0) → Type 0
HasOneReading {X} text Is = (x y : X) (rest later : List ℕ) → Is x → Is y → text x ++ rest ≡ text y ++ later → IsSame x y rest later
