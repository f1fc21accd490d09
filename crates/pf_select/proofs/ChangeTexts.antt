-- The text of selections and prices, as one line of a selection and a list of changes.
use Rattle.std.proofs.Common.{◌≡◌, ℕ, zero, suc, ◌+◌, ◌<◌, ◌≤◌, List, [], ◌∷◌, ◌++◌, length, get_or, map, drop, Bool, refl, ap, ◌∙◌, arith, length-append}
use Rattle.std.specs.Prelude.{ℤ, All, codes}
use Rattle.std.proofs.lemmas.List.Elements.{All-nil, All-cons, All-head, All-tail}
use Rattle.pf_model.specs.Fraction.{Fraction}
use Rattle.pf_model.specs.Answer.{IsFractionShape}
use Rattle.pf_model.specs.Cut.{at_arc}
use Rattle.pf_text.specs.Spelling.{side_line}
use Rattle.pf_select.specs.Problem.{SelectionProblem, IsBoundedProblem, worth, price_at, selection_at}
use Rattle.pf_select.specs.Text.{change_text, changes_text, selections_text}
use Rattle.pf_select.specs.Outline.{IsChange, change_lines, all_changes}
use Rattle.pf_select.specs.declared.outline.Change.{Change}
use Rattle.pf_select.proofs.WorthSizes.{worth_size}
use Rattle.pf_model.proofs.Facts.{drop_next}

abbrev change_of : SelectionProblem → Fraction → List Bool → List Bool → Change
change_of p price before set = record { point = record { at = price; value = worth p price before }; set = set }

-- the prices with what the selections before them are worth, and the selections after them
abbrev pub changes_of : SelectionProblem → List Bool → List Fraction → List (List Bool) → List Change
changes_of p before (price ∷ prices) (set ∷ selections) = change_of p price before set ∷ changes_of p set prices selections
changes_of p before prices selections = []

pub text_is_lines : (p : SelectionProblem) (j : ℕ) (before : List Bool) (prices : List Fraction) (selections : List (List Bool)) →
    changes_text p j before prices selections ≡ all_changes j (changes_of p before prices selections)
text_is_lines p j before [] selections = refl
text_is_lines p j before (price ∷ prices) [] = refl
text_is_lines p j before (price ∷ prices) (set ∷ selections) =
    ap (λ (t : List ℕ). change_text (j + 1) price (worth p price before) set ++ t) (text_is_lines p (j + 1) set prices selections)

-- the parts of the changes
pub prices_are : (p : SelectionProblem) (before : List Bool) (prices : List Fraction) (selections : List (List Bool)) → length selections ≡ length prices →
    map (λ change. change.point.at) (changes_of p before prices selections) ≡ prices
prices_are p before [] selections e = refl
prices_are p before (price ∷ prices) [] e = absurd (omega (arith, e))
prices_are p before (price ∷ prices) (set ∷ selections) e = ap (λ (xs : List Fraction). price ∷ xs) (prices_are p set prices selections (omega (arith, e)))

pub sets_are : (p : SelectionProblem) (before : List Bool) (prices : List Fraction) (selections : List (List Bool)) → length selections ≡ length prices →
    map (λ change. change.set) (changes_of p before prices selections) ≡ selections
sets_are p before [] [] e = refl
sets_are p before [] (set ∷ selections) e = absurd (omega (arith, e))
sets_are p before (price ∷ prices) [] e = absurd (omega (arith, e))
sets_are p before (price ∷ prices) (set ∷ selections) e = ap (λ (xs : List (List Bool)). set ∷ xs) (sets_are p set prices selections (omega (arith, e)))

pub changes_full : (p : SelectionProblem) (before : List Bool) (prices : List Fraction) (selections : List (List Bool)) → length selections ≡ length prices →
    length (changes_of p before prices selections) ≡ length prices
changes_full p before [] selections e = refl
changes_full p before (price ∷ prices) [] e = absurd (omega (arith, e))
changes_full p before (price ∷ prices) (set ∷ selections) e = ap suc (changes_full p set prices selections (omega (arith, e)))

-- each number is a worth
abbrev AreWorths : SelectionProblem → List Bool → List Change → Type 0
AreWorths p first changes = (k : ℕ) → k < length changes →
    at_arc (map (λ (change : Change). change.point.value) changes) k
    ≡ worth p (price_at (map (λ (change : Change). change.point.at) changes) (suc k)) (selection_at (first ∷ map (λ (change : Change). change.set) changes) k)

pub worths_are : (p : SelectionProblem) (before : List Bool) (prices : List Fraction) (selections : List (List Bool)) →
    AreWorths p before (changes_of p before prices selections)
worths_are p before [] selections k low = absurd (omega (arith, low))
worths_are p before (price ∷ prices) [] k low = absurd (omega (arith, low))
worths_are p before (price ∷ prices) (set ∷ selections) zero low = refl
worths_are p before (price ∷ prices) (set ∷ selections) (suc k) low = worths_are p set prices selections k (omega (arith, low))

pub lines_are_text : (p : SelectionProblem) (j : ℕ) (first : List Bool) (changes : List Change) → AreWorths p first changes →
    all_changes j changes ≡ changes_text p j first (map (λ (change : Change). change.point.at) changes) (map (λ (change : Change). change.set) changes)
lines_are_text p j first [] h = refl
lines_are_text p j first (change ∷ changes) h =
    let value = h 0 (omega arith) in
    ap (λ (n : ℤ). change_text (j + 1) change.point.at n change.set ++ all_changes (j + 1) changes) value
    ∙ ap (λ (t : List ℕ). change_text (j + 1) change.point.at (worth p change.point.at first) change.set ++ t)
    (lines_are_text p (j + 1) change.set changes (λ k low. h (suc k) (omega (arith, low))))

pub changes_shape : (p : SelectionProblem) (before : List Bool) (prices : List Fraction) (selections : List (List Bool)) → IsBoundedProblem p →
    All IsFractionShape prices → All (λ set. length set ≡ length p.costs) selections → All (IsChange (length p.costs)) (changes_of p before prices selections)
changes_shape p before [] selections b shapes full = All-nil (IsChange (length p.costs))
changes_shape p before (price ∷ prices) [] b shapes full = All-nil (IsChange (length p.costs))
changes_shape p before (price ∷ prices) (set ∷ selections) b shapes full =
    let here : IsFractionShape price = All-head IsFractionShape price prices shapes in
    All-cons (IsChange (length p.costs)) (change_of p price before set) (changes_of p set prices selections)
    (record {
      point = record { at = here; value = worth_size p price before b here };
      full = All-head (λ (set : List Bool). length set ≡ length p.costs) set selections full;
    })
    (changes_shape p set prices selections b (All-tail IsFractionShape price prices shapes)
    (All-tail (λ (set : List Bool). length set ≡ length p.costs) set selections full))

-- the lists of many changes
pub ats_shape : (width : ℕ) (changes : List Change) → All (IsChange width) changes → All IsFractionShape (map (λ (change : Change). change.point.at) changes)
ats_shape width [] each = All-nil IsFractionShape
ats_shape width (change ∷ changes) each =
    All-cons IsFractionShape change.point.at (map (λ (change : Change). change.point.at) changes) (All-head (IsChange width) change changes each).point.at
    (ats_shape width changes (All-tail (IsChange width) change changes each))

pub sets_shape : (width : ℕ) (changes : List Change) → All (IsChange width) changes →
    All (λ (set : List Bool). length set ≡ width) (map (λ (change : Change). change.set) changes)
sets_shape width [] each = All-nil (λ (set : List Bool). length set ≡ width)
sets_shape width (change ∷ changes) each =
    All-cons (λ (set : List Bool). length set ≡ width) change.set (map (λ (change : Change). change.set) changes)
    (All-head (IsChange width) change changes each).full (sets_shape width changes (All-tail (IsChange width) change changes each))

-- there are at least as many bytes as changes
pub changes_bytes : (j : ℕ) (changes : List Change) → length changes ≤ length (all_changes j changes)
changes_bytes j [] = omega arith
changes_bytes j (change ∷ changes) =
    let front = change_lines (j + 1) change in
    let later = all_changes (j + 1) changes in
    let some : 0 < length front = omega arith in
    let more = changes_bytes (j + 1) changes in
    omega (arith, length-append front later, some, more)

pub changes_text_at : (p : SelectionProblem) (j : ℕ) (prices : List Fraction) (selections : List (List Bool)) (other : Fraction) → j < length prices →
    j + 1 < length selections →
    changes_text p j (selection_at selections j) (drop j prices) (drop (j + 1) selections)
    ≡ change_text (j + 1) (get_or prices j other) (worth p (get_or prices j other) (selection_at selections j)) (selection_at selections (j + 1))
    ++ changes_text p (j + 1) (selection_at selections (j + 1)) (drop (j + 1) prices) (drop (j + 1 + 1) selections)
changes_text_at p j prices selections other low less =
    ap (λ (xs : List Fraction). changes_text p j (selection_at selections j) xs (drop (j + 1) selections)) (drop_next prices j other low)
    ∙ ap (λ (xs : List (List Bool)). changes_text p j (selection_at selections j) (get_or prices j other ∷ drop (j + 1) prices) xs) (drop_next selections (j + 1) [] less)

-- the first selection, and the prices with the others
pub selections_text_is : (p : SelectionProblem) (prices : List Fraction) (selections : List (List Bool)) → 0 < length selections →
    side_line (codes "s") (0 ∷ []) [] (selection_at selections 0) ++ changes_text p 0 (selection_at selections 0) prices (drop 1 selections) ≡ selections_text p prices selections
selections_text_is p prices [] some = absurd (omega (arith, some))
selections_text_is p prices (set ∷ selections) some = refl
