-- Numbers in the fields of a line, with their ranges.
use Rattle.std.specs.Prelude.{ℕ, Bool, true, false, List, ◌∷◌, ◌++◌, ℤ, Option, Some, None, Result, Ok, Err, if◌then◌else◌, codes}
use Rattle.pf_lines.specs.declared.numbers.Bad.{Bad}
use Rattle.pf_lines.specs.declared.numbers.Bad.TheVariants.{NotNumber, OutOfRange}
use Rattle.pf_text.specs.declared.TextBad.{TextBad}
use Rattle.pf_text.specs.declared.TextBad.TheVariants.{Syntax, Range, WrongKind}
use Rattle.pf_text.specs.Lines.{Line}
use Rattle.pf_text.specs.Kinds.{FieldPattern, word, numbers_by, are_in_range, is_wrong_kind, refuse_if}

-- numbers that have their ranges
abbrev pub in_ranges : List FieldPattern → Option (List ℤ) → Result (List ℤ) Bad
in_ranges patterns None = Err NotNumber
in_ranges patterns (Some numbers) = if are_in_range patterns numbers then Ok numbers else Err OutOfRange

-- the numbers of fields that have these patterns, in their ranges
abbrev pub ranged_numbers : List FieldPattern → List (List ℕ) → Result (List ℤ) Bad
ranged_numbers patterns fields = in_ranges patterns (numbers_by patterns fields)

-- the numbers of all fields, where these stand in front, and all of them lie in their ranges or not
abbrev pub ranged_behind : Bool → List ℤ → List FieldPattern → Option (List ℤ) → Result (List ℤ) Bad
ranged_behind fits front patterns None = Err NotNumber
ranged_behind true front patterns (Some numbers) = if are_in_range patterns numbers then Ok (front ++ numbers) else Err OutOfRange
ranged_behind false front patterns (Some numbers) = Err OutOfRange

-- the same after one more field, if it has its pattern
abbrev pub behind_field : Option Bool → List ℤ → List FieldPattern → Option (List ℤ) → Result (List ℤ) Bad
behind_field None front patterns numbers = Err NotNumber
behind_field (Some fits) front patterns numbers = ranged_behind fits front patterns numbers

-- the refusal of a line with such a field
abbrev pub number_refusal : ℕ → Bad → TextBad
number_refusal n NotNumber = Syntax n
number_refusal n OutOfRange = Range n

-- numbers, or the refusal of the line of this number
abbrev pub at_number : ℕ → Result (List ℤ) Bad → Result (List ℤ) TextBad
at_number n (Ok numbers) = Ok numbers
at_number n (Err bad) = Err (number_refusal n bad)

-- the numbers of a header of this name, where its other fields have these patterns
abbrev pub header_numbers : List ℕ → List FieldPattern → Line → Result (List ℤ) TextBad
header_numbers name patterns line =
    refuse_if (is_wrong_kind name line.fields) (WrongKind line.number)
    (at_number line.number (ranged_numbers (word (codes "p") ∷ word name ∷ patterns) line.fields))
