-- What a line of a text is judged to be, by what a reader tests.
use Rattle.std.proofs.Common.{◌≡◌, ℕ, suc, ◌<◌, Bool, true, false, cond, List, [], ◌∷◌, length, Option, Some, None, Err, refl, ap, ◌∙◌}
use Rattle.std.specs.Prelude.{◌≢◌, ℤ}
use Rattle.std.specs.Str.{bytes_eq}
use Rattle.std.proofs.lemmas.Bool.{lt-ltb}
use Rattle.pf_text.specs.declared.TextBad.TheVariants.{Count}
use Rattle.pf_text.specs.Lines.{Line}
use Rattle.pf_text.specs.Numbers.{whole_of}
use Rattle.pf_text.specs.Kinds.{FieldPattern, number, word, Kind, State, with_number, numbers_by, end_line}

pub end_count : {G P : Type 0} (kind : Kind G P) (state : State G) (line : Line)
    → state.counted_lines < kind.count state.header_numbers → end_line kind state line ≡ Err (Count line.number)
unfolding end_line
end_count kind state line few = rw (lt-ltb _ _ few) refl

with_number_none : (n : Option ℤ) → with_number n None ≡ None
with_number_none (Some n) = refl
with_number_none None = refl

if_none : (b : Bool) (x : Option (List ℤ)) → x ≡ None → cond b x None ≡ None
if_none true x none = none
if_none false x none = refl

-- a line with another number of fields than patterns does not have them
pub numbers_by_count : (patterns : List FieldPattern) (fields : List (List ℕ)) → length fields ≢ length patterns → numbers_by patterns fields ≡ None
numbers_by_count [] [] differ = absurd (differ refl)
numbers_by_count [] (field ∷ fields) differ = refl
numbers_by_count (number low high ∷ patterns) [] differ = refl
numbers_by_count (word w ∷ patterns) [] differ = refl
numbers_by_count (number low high ∷ patterns) (field ∷ fields) differ =
    let fewer : length fields ≢ length patterns = (λ same. differ (ap suc same)) in
    ap (with_number (whole_of field)) (numbers_by_count patterns fields fewer) ∙ with_number_none (whole_of field)
numbers_by_count (word w ∷ patterns) (field ∷ fields) differ =
    let fewer : length fields ≢ length patterns = (λ same. differ (ap suc same)) in
    if_none (bytes_eq field w) (numbers_by patterns fields) (numbers_by_count patterns fields fewer)
