-- Which form of a table a line has, and what is judged of the line by it.
use Rattle.std.proofs.Common.{◌≡◌, ℕ, suc, ◌+◌, ◌<◌, Bool, true, false, cond, not, List, [], ◌∷◌, length, map, Option, Some, None, Result, Ok, Err, refl, sym, ap, ◌∙◌, subst, arith, add-zero, zero-add}
use Rattle.std.specs.Prelude.{ℤ}
use Rattle.std.specs.Option.{option_map}
use Rattle.pf_text.specs.declared.TextBad.{TextBad}
use Rattle.pf_text.specs.declared.TextBad.TheVariants.{Range}
use Rattle.pf_text.specs.Lines.{Line}
use Rattle.pf_text.specs.Kinds.{Fits, Form, Kind, State, Match, numbers_by, are_in_range, first_of, match_of, refuse_if, state_of_match, step}
use Rattle.pf_text.proofs.KindsLaw.{fits}
use Rattle.pf_lines.specs.declared.numbers.Bad.{Bad}
use Rattle.pf_lines.specs.declared.numbers.Bad.TheVariants.{OutOfRange}
use Rattle.pf_lines.specs.Ranges.{in_ranges, number_refusal}
use Rattle.pf_lines.specs.Shapes.{Shape, shape_of, form_at, Found, found_or, found_in}
use Rattle.pf_lines.specs.Gathering.{judged_by}

-- what is judged of a line whose form was found, or of one that has none
abbrev pub judged_found : {G P : Type 0} → Kind G P → State G → ℕ → (ℕ → Form G) → Result Found Bad → Result (State G) TextBad
judged_found kind state n look (Err bad) = Err (number_refusal n bad)
judged_found kind state n look (Ok found) = judged_by kind state n (look found.form) found.numbers

-- the forms of a list, at places from this one on
pub record Looks {G : Type 0} (look : ℕ → Form G) (k : ℕ) (forms : List (Form G)) : Type 0 where
  pub at : (j : ℕ) → look (k + j) ≡ form_at forms j

looks_here : {G : Type 0} (look : ℕ → Form G) (k : ℕ) (form : Form G) (forms : List (Form G)) → Looks look k (form ∷ forms) → look k ≡ form
looks_here look k form forms looks = ap look (sym (add-zero k)) ∙ looks.at 0

looks_later : {G : Type 0} (look : ℕ → Form G) (k : ℕ) (form : Form G) (forms : List (Form G)) → Looks look k (form ∷ forms) → Looks look (k + 1) forms
looks_later look k form forms looks = record { at = λ j. let same : k + 1 + j ≡ k + suc j = omega arith in ap look same ∙ looks.at (suc j) }

by_range : {G P : Type 0} (kind : Kind G P) (state : State G) (n : ℕ) (look : ℕ → Form G) (k : ℕ) (form : Form G) (numbers : List ℤ) (later : Result Found Bad) (t : Bool) → look k ≡ form
    → refuse_if (not t) (Range n) (judged_by kind state n form numbers) ≡ judged_found kind state n look (found_or k (shape_of form) (cond t (Ok numbers) (Err OutOfRange)) later)
by_range kind state n look k form numbers later true is = ap (λ f. judged_by kind state n f numbers) (sym is)
by_range kind state n look k form numbers later false is = refl

one_form : {G P : Type 0} (kind : Kind G P) (state : State G) (n : ℕ) (look : ℕ → Form G) (k : ℕ) (form : Form G) (numbers : Option (List ℤ)) (other : Option (Match G)) (later : Result Found Bad)
    → look k ≡ form → state_of_match kind state n other ≡ judged_found kind state n look later
    → state_of_match kind state n (first_of (option_map (λ ns. record { form = form; numbers = ns }) numbers) other)
    ≡ judged_found kind state n look (found_or k (shape_of form) (in_ranges form.patterns numbers) later)
one_form kind state n look k form None other later is e = e
one_form kind state n look k form (Some numbers) other later is e = by_range kind state n look k form numbers later (are_in_range form.patterns numbers) is

by_table : {G P : Type 0} (kind : Kind G P) (state : State G) (n : ℕ) (look : ℕ → Form G) (k : ℕ) (forms : List (Form G)) (fields : List (List ℕ)) → Looks look k forms
    → state_of_match kind state n (match_of forms fields) ≡ judged_found kind state n look (found_in k (map shape_of forms) fields)
by_table kind state n look k [] fields looks = refl
by_table kind state n look k (form ∷ forms) fields looks =
    one_form kind state n look k form (numbers_by form.patterns fields) (match_of forms fields) (found_in (k + 1) (map shape_of forms) fields)
    (looks_here look k form forms looks) (by_table kind state n look (k + 1) forms fields (looks_later look k form forms looks))

looks_all : {G : Type 0} (forms : List (Form G)) → Looks (form_at forms) 0 forms
looks_all forms = record { at = λ j. ap (form_at forms) (zero-add j) }

-- what is judged of a line, by the form of the table that it has
pub step_by_table : {G P : Type 0} (kind : Kind G P) (state : State G) (line : Line) (table : List Shape) → table ≡ map shape_of (kind.forms state.header_numbers)
    → step kind state line ≡ judged_found kind state line.number (form_at (kind.forms state.header_numbers)) (found_in 0 table line.fields)
unfolding step
step_by_table kind state line table is =
    by_table kind state line.number (form_at (kind.forms state.header_numbers)) 0 (kind.forms state.header_numbers) line.fields (looks_all (kind.forms state.header_numbers))
    ∙ ap (λ t. judged_found kind state line.number (form_at (kind.forms state.header_numbers)) (found_in 0 t line.fields)) (sym is)

pub step_refused : {G P : Type 0} (kind : Kind G P) (state : State G) (line : Line) (table : List Shape) (bad : Bad) (n : ℕ) (refusal : TextBad) → table ≡ map shape_of (kind.forms state.header_numbers)
    → found_in 0 table line.fields ≡ Err bad → n ≡ line.number → refusal ≡ number_refusal n bad → step kind state line ≡ Err refusal
step_refused kind state line table bad n refusal is e same told =
    step_by_table kind state line table is ∙ ap (judged_found kind state line.number (form_at (kind.forms state.header_numbers))) e ∙ ap (λ m. Err (number_refusal m bad)) (sym same) ∙ ap (λ b. Err b) (sym told)

pub step_judged : {G P : Type 0} (kind : Kind G P) (state : State G) (line : Line) (table : List Shape) (found : Found) (n : ℕ) → table ≡ map shape_of (kind.forms state.header_numbers)
    → found_in 0 table line.fields ≡ Ok found → n ≡ line.number → step kind state line ≡ judged_by kind state n (form_at (kind.forms state.header_numbers) found.form) found.numbers
step_judged kind state line table found n is e same =
    step_by_table kind state line table is ∙ ap (judged_found kind state line.number (form_at (kind.forms state.header_numbers))) e
    ∙ ap (λ m. judged_by kind state m (form_at (kind.forms state.header_numbers) found.form) found.numbers) (sym same)

-- ---- the form that was found

pub record IsFound {G : Type 0} (look : ℕ → Form G) (last : ℕ) (found : Found) : Type 0 where
  pub there : found.form < last
  pub is_counted : found.is_counted ≡ (look found.form).is_counted
  pub fits : Fits (look found.form).patterns found.numbers

found_here : {G : Type 0} (look : ℕ → Form G) (k last : ℕ) (form : Form G) (fields : List (List ℕ)) (numbers : Option (List ℤ)) (later : Result Found Bad) (found : Found) → look k ≡ form → k < last
    → numbers_by form.patterns fields ≡ numbers → (later ≡ Ok found → IsFound look last found)
    → found_or k (shape_of form) (in_ranges form.patterns numbers) later ≡ Ok found → IsFound look last found
found_here look k last form fields None later found is lt by next e = next e
found_here {G} look k last form fields (Some numbers) later found is lt by next e = at (are_in_range form.patterns numbers) refl e
  where
    at : (t : Bool) → are_in_range form.patterns numbers ≡ t → found_or k (shape_of form) (cond t (Ok numbers) (Err OutOfRange)) later ≡ Ok found → IsFound look last found
    at true inside e =
        let here : Found = record { form = k; is_counted = form.is_counted; numbers = numbers } in
        let same : here ≡ found = cc in
        let good : IsFound look last here = record {
          there = lt;
          is_counted = ap (λ (f : Form G). f.is_counted) (sym is);
          fits = subst (λ (f : Form G). Fits f.patterns numbers) (sym is) (fits form.patterns fields numbers by inside);
        } in
        subst (IsFound look last) same good
    at false inside e = absurd cc

found_among : {G : Type 0} (look : ℕ → Form G) (k last : ℕ) (forms : List (Form G)) (fields : List (List ℕ)) (found : Found) → Looks look k forms → k + length forms ≡ last
    → found_in k (map shape_of forms) fields ≡ Ok found → IsFound look last found
found_among look k last [] fields found looks all e = absurd cc
found_among look k last (form ∷ forms) fields found looks all e =
    found_here look k last form fields (numbers_by form.patterns fields) (found_in (k + 1) (map shape_of forms) fields) found (looks_here look k form forms looks) (omega arith) refl
    (found_among look (k + 1) last forms fields found (looks_later look k form forms looks) (omega arith)) e

pub found_is : {G P : Type 0} (kind : Kind G P) (numbers : List ℤ) (table : List Shape) (fields : List (List ℕ)) (found : Found) → table ≡ map shape_of (kind.forms numbers)
    → found_in 0 table fields ≡ Ok found → IsFound (form_at (kind.forms numbers)) (length (kind.forms numbers)) found
found_is kind numbers table fields found is e =
    found_among (form_at (kind.forms numbers)) 0 (length (kind.forms numbers)) (kind.forms numbers) fields found (looks_all (kind.forms numbers)) (zero-add _)
    (ap (λ t. found_in 0 t fields) (sym is) ∙ e)
