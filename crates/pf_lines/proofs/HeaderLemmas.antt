-- What a header begins, by its numbers.
use Rattle.std.proofs.Common.{◌≡◌, ℕ, Bool, true, false, cond, not, List, ◌∷◌, Option, Some, None, Result, Ok, Err, refl, sym, ap, ◌∙◌}
use Rattle.std.specs.Prelude.{ℤ, codes}
use Rattle.pf_text.specs.declared.TextBad.{TextBad}
use Rattle.pf_text.specs.declared.TextBad.TheVariants.{WrongKind, Range}
use Rattle.pf_text.specs.Lines.{Line}
use Rattle.pf_text.specs.Kinds.{FieldPattern, word, Fits, Kind, State, numbers_by, are_in_range, is_wrong_kind, refuse_if, state_of_header, header}
use Rattle.pf_text.proofs.KindsLaw.{fits}
use Rattle.pf_lines.specs.declared.numbers.Bad.{Bad}
use Rattle.pf_lines.specs.declared.numbers.Bad.TheVariants.{OutOfRange}
use Rattle.pf_lines.specs.Ranges.{in_ranges, ranged_numbers, at_number, header_numbers}
use Rattle.pf_lines.specs.Gathering.{state_of}

-- the state after a header of these numbers
abbrev begun_by : {G P : Type 0} → Kind G P → Result (List ℤ) TextBad → Result (State G) TextBad
begun_by kind (Ok numbers) = Ok (state_of numbers 0 (kind.start numbers))
begun_by kind (Err bad) = Err bad

by_range : {G P : Type 0} (kind : Kind G P) (n : ℕ) (numbers : List ℤ) (t : Bool)
    → refuse_if (not t) (Range n) (Ok (state_of numbers 0 (kind.start numbers))) ≡ begun_by kind (at_number n (cond t (Ok numbers) (Err OutOfRange)))
by_range kind n numbers true = refl
by_range kind n numbers false = refl

by_numbers : {G P : Type 0} (kind : Kind G P) (n : ℕ) (numbers : Option (List ℤ))
    → state_of_header kind n numbers ≡ begun_by kind (at_number n (in_ranges (word (codes "p") ∷ word kind.name ∷ kind.header_patterns) numbers))
by_numbers kind n None = refl
by_numbers kind n (Some numbers) = by_range kind n numbers (are_in_range kind.header_patterns numbers)

by_kind : {G P : Type 0} (kind : Kind G P) (n : ℕ) (numbers : Option (List ℤ)) (wrong : Bool)
    → refuse_if wrong (WrongKind n) (state_of_header kind n numbers)
    ≡ begun_by kind (refuse_if wrong (WrongKind n) (at_number n (in_ranges (word (codes "p") ∷ word kind.name ∷ kind.header_patterns) numbers)))
by_kind kind n numbers true = refl
by_kind kind n numbers false = by_numbers kind n numbers

header_by_numbers : {G P : Type 0} (kind : Kind G P) (line : Line) → header kind line ≡ begun_by kind (header_numbers kind.name kind.header_patterns line)
unfolding header
header_by_numbers kind line = by_kind kind line.number (numbers_by (word (codes "p") ∷ word kind.name ∷ kind.header_patterns) line.fields) (is_wrong_kind kind.name line.fields)

-- the same by the name and the patterns as code has them
header_by_parts : {G P : Type 0} (kind : Kind G P) (line : Line) (name : List ℕ) (patterns : List FieldPattern) → name ≡ kind.name → patterns ≡ kind.header_patterns
    → header kind line ≡ begun_by kind (header_numbers name patterns line)
header_by_parts kind line name patterns named has = header_by_numbers kind line ∙ ap (begun_by kind) (ap (λ w. header_numbers w kind.header_patterns line) (sym named) ∙ ap (λ ps. header_numbers name ps line) (sym has))

pub header_refused : {G P : Type 0} (kind : Kind G P) (line : Line) (name : List ℕ) (patterns : List FieldPattern) (bad : TextBad) → name ≡ kind.name → patterns ≡ kind.header_patterns
    → header_numbers name patterns line ≡ Err bad → header kind line ≡ Err bad
header_refused kind line name patterns bad named has e = header_by_parts kind line name patterns named has ∙ ap (begun_by kind) e

pub header_begins : {G P : Type 0} (kind : Kind G P) (line : Line) (name : List ℕ) (patterns : List FieldPattern) (numbers given_numbers : List ℤ) (given : G) → name ≡ kind.name → patterns ≡ kind.header_patterns
    → header_numbers name patterns line ≡ Ok numbers → given_numbers ≡ numbers → given ≡ kind.start numbers → header kind line ≡ Ok (state_of given_numbers 0 given)
header_begins kind line name patterns numbers given_numbers given named has e same is =
    header_by_parts kind line name patterns named has ∙ ap (begun_by kind) e ∙ rw (same, is) refl

-- ---- the numbers of a header

refuse_ok : {X : Type 0} (test : Bool) (bad : TextBad) (next : Result X TextBad) (x : X) → refuse_if test bad next ≡ Ok x → next ≡ Ok x
refuse_ok true bad next x e = absurd cc
refuse_ok false bad next x e = e

at_number_ok : (n : ℕ) (r : Result (List ℤ) Bad) (numbers : List ℤ) → at_number n r ≡ Ok numbers → r ≡ Ok numbers
at_number_ok n (Ok found) numbers e = cc
at_number_ok n (Err bad) numbers e = absurd cc

in_ranges_ok : (patterns : List FieldPattern) (fields : List (List ℕ)) (found : Option (List ℤ)) (numbers : List ℤ) → numbers_by patterns fields ≡ found → in_ranges patterns found ≡ Ok numbers → Fits patterns numbers
in_ranges_ok patterns fields None numbers is e = absurd cc
in_ranges_ok patterns fields (Some found) numbers is e = by (are_in_range patterns found) refl e
  where
    by : (t : Bool) → are_in_range patterns found ≡ t → cond t (Ok found) (Err OutOfRange) ≡ Ok numbers → Fits patterns numbers
    by true inside e = let same : found ≡ numbers = cc in rw (← same) (fits patterns fields found is inside)
    by false inside e = absurd cc

pub header_fits : {G P : Type 0} (kind : Kind G P) (line : Line) (name : List ℕ) (patterns : List FieldPattern) (numbers : List ℤ) → patterns ≡ kind.header_patterns
    → header_numbers name patterns line ≡ Ok numbers → Fits kind.header_patterns numbers
header_fits kind line name patterns numbers has e =
    let ranged = at_number_ok line.number (ranged_numbers (word (codes "p") ∷ word name ∷ patterns) line.fields) numbers (refuse_ok (is_wrong_kind name line.fields) _ _ numbers e) in
    rw (← has) (in_ranges_ok (word (codes "p") ∷ word name ∷ patterns) line.fields (numbers_by (word (codes "p") ∷ word name ∷ patterns) line.fields) numbers refl ranged)
