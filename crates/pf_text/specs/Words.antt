-- Numbers and fractions as words of the command line spell them.
use Rattle.std.specs.Prelude.{ℕ, ◌+◌, ◌&&◌, ◌==◌, nat_le, if◌then◌else◌, List, take, drop, ℤ, pos, neg_ℤ, int_le, Option, Some, None}
use Rattle.std.specs.Option.{option_and_then}
use Rattle.std.specs.List.{position}
use Rattle.pf_model.specs.Fraction.{Fraction, lowest}
use Rattle.pf_text.specs.Numbers.{natural_of, whole_of, billion}

-- what the bytes before the first slash and those after it give together, where there is a slash
abbrev pub cut_at_slash : {A : Type 0} → (List ℕ → List ℕ → Option A) → List ℕ → Option A
cut_at_slash read bytes = option_and_then (λ slash. read (take slash bytes) (drop (slash + 1) bytes)) (position (λ b. b == 47) bytes)

-- the number, where it lies from the one to the other
abbrev pub natural_within : ℕ → ℕ → Option ℕ → Option ℕ
natural_within low high (Some n) = if nat_le low n && nat_le n high then Some n else None
natural_within low high None = None

abbrev pub integer_within : ℤ → ℤ → Option ℤ → Option ℤ
integer_within low high (Some n) = if int_le low n && int_le n high then Some n else None
integer_within low high None = None

-- the fraction of two numbers in lowest terms, where both are there
abbrev pub fraction_of_numbers : Option ℤ → Option ℕ → Option Fraction
fraction_of_numbers (Some p) (Some q) = Some (lowest (record { p = p; q = pos q }))
fraction_of_numbers _ _ = None

-- the fraction of the texts of two numbers in lowest terms, with both in their ranges
abbrev pub fraction_of_parts : List ℕ → List ℕ → Option Fraction
fraction_of_parts front back = fraction_of_numbers (integer_within (neg_ℤ (pos billion)) (pos billion) (whole_of front)) (natural_within 1 billion (natural_of back))

-- the parameter `P/Q` of a word
unfoldable pub parameter_of : List ℕ → Option Fraction
parameter_of bytes = cut_at_slash fraction_of_parts bytes
