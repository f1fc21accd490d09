-- Values of fields, by their sign and their size.
use Rattle.std.proofs.Common.{◌≡◌, ◌≢◌, ℕ, Bool, true, false, cond, ◌&&◌, List, ◌∷◌, get_or, Option, Some, None, Ok, Err, refl, arith}
use Rattle.std.specs.Prelude.{ℤ, int_le, ◌≤ℤ◌}
use Rattle.std.specs.Bool.{MatchBool}
use Rattle.std.specs.Option.{option_map}
use Rattle.std.proofs.lemmas.Int.{ints}
use Rattle.pf_text.specs.Numbers.{natural_of, whole_of}
use Rattle.pf_text.proofs.NumbersLemmas.{whole_of-minus, whole_of-plain}
use Rattle.pf_lines.specs.declared.numbers.Bad.{Bad}
use Rattle.pf_lines.specs.Values.{within_range, IsCapped, IsCappedAt, signed}

-- the value of a field is its size with its sign
pub whole_by_sign : (field digits : List ℕ) (negative : Bool) → MatchBool negative (field ≡ 45 ∷ digits) ((get_or field 0 0 ≢ 45) × (digits ≡ field))
    → whole_of field ≡ option_map (signed negative) (natural_of digits)
whole_by_sign field digits true split = rw split (whole_of-minus digits)
whole_by_sign field digits false split = rw split.1 (whole_of-plain field split.0)

pub no_value : (exact : Option ℕ) → IsCapped exact None → exact ≡ None
no_value None capped = refl
no_value (Some n) capped = absurd capped

pub some_value : (exact : Option ℕ) (size : ℕ) → IsCapped exact (Some size) → (n : ℕ) × (exact ≡ Some n) × IsCappedAt n size
some_value None size capped = absurd capped
some_value (Some n) size capped = (n, refl, capped)

-- a number of the range
pub in_range : (min max : ℤ) (value : Option ℤ) (n : ℤ) → Ok n ≡ within_range min max value → (value ≡ Some n) × (min ≤ℤ n) × (n ≤ℤ max)
in_range min max None n e = absurd cc
in_range min max (Some m) n e = by (int_le min m) (int_le m max) refl refl e
  where
    by : (s t : Bool) → int_le min m ≡ s → int_le m max ≡ t → Ok n ≡ cond (s && t) (Ok m) (Err Rattle.pf_lines.specs.declared.numbers.Bad.TheVariants.OutOfRange) → (Some m ≡ Some n) × (min ≤ℤ n) × (n ≤ℤ max)
    by true true low high e = let same : n ≡ m = cc in rw same (refl, grind (arith, ints), grind (arith, ints))
    by true false low high e = absurd cc
    by false t low high e = absurd cc

-- a number of the range is not refused
pub not_refused : (min max n : ℤ) (bad : Bad) → Err bad ≡ within_range min max (Some n) → min ≤ℤ n → n ≤ℤ max → ⊥
not_refused min max n bad e low high =
    let within_low : int_le min n ≡ true = grind (arith, ints) in
    let within_high : int_le n max ≡ true = grind (arith, ints) in
    absurd (let refused = rw (within_low, within_high) at e in cc)
