-- What a reader has to know of a form of line before its rules, and which form a line has.
use Rattle.std.specs.Prelude.{ℕ, ◌+◌, Bool, false, List, [], ◌∷◌, ℤ, Result, Ok, Err, get_or}
use Rattle.pf_text.specs.Kinds.{FieldPattern, Form}
use Rattle.pf_lines.specs.declared.numbers.Bad.{Bad}
use Rattle.pf_lines.specs.declared.numbers.Bad.TheVariants.{NotNumber, OutOfRange}
use Rattle.pf_lines.specs.Ranges.{ranged_numbers}

-- the patterns of its fields, and whether the header counts the line
pub record Shape : Type 0 where
  pub patterns : List FieldPattern
  pub is_counted : Bool

abbrev pub shape_of : {G : Type 0} → Form G → Shape
shape_of form = record { patterns = form.patterns; is_counted = form.is_counted }

-- the form at this place of a list, from 0
abbrev pub form_at : {G : Type 0} → List (Form G) → ℕ → Form G
form_at forms i = get_or forms i (record { patterns = []; is_counted = false; rules = λ numbers given. Ok given })

-- the place of the form that a line has, whether the header counts the line, and the line's numbers
pub record Found : Type 0 where
  pub form : ℕ
  pub is_counted : Bool
  pub numbers : List ℤ

-- this form, where the line has it, and else what follows
abbrev pub found_or : ℕ → Shape → Result (List ℤ) Bad → Result Found Bad → Result Found Bad
found_or i shape (Ok numbers) later = Ok (record { form = i; is_counted = shape.is_counted; numbers = numbers })
found_or i shape (Err OutOfRange) later = Err OutOfRange
found_or i shape (Err NotNumber) later = later

-- the first of these shapes that a line of these fields has, where the first has this place
abbrev pub found_in : ℕ → List Shape → List (List ℕ) → Result Found Bad
found_in i [] fields = Err NotNumber
found_in i (shape ∷ shapes) fields = found_or i shape (ranged_numbers shape.patterns fields) (found_in (i + 1) shapes fields)
