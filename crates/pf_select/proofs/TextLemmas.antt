-- The parts of a schedule's text, one after the other.
use Rattle.std.proofs.Common.{◌≡◌, ℕ, suc, ◌≤◌, List, [], ◌∷◌, ◌++◌, length, Bool, append_assoc, arith, ap, sym, ◌∙◌, length-append}
use Rattle.std.specs.Prelude.{ℤ, All, codes}
use Rattle.pf_model.specs.Fraction.{Fraction}
use Rattle.pf_text.specs.Spelling.{line, row_line, side_line}
use Rattle.pf_select.specs.Problem.{SelectionProblem}
use Rattle.pf_select.specs.Certificate.{ScheduleAnswer}
use Rattle.pf_select.specs.Right.{IsChargesShape, IsScheduleShape}
use Rattle.pf_select.specs.Text.{changes_text, selections_text, charges_text, schedule_text}
use Rattle.pf_select.specs.Outline.{IsSelectionsShape}
use Rattle.pf_select.proofs.ChangeTexts.{text_is_lines, changes_full, changes_bytes, changes_of}

abbrev pub answer_of : List Fraction → List (List Bool) → List (List ℤ) → ScheduleAnswer
answer_of prices selections charges = record { prices = prices; selections = selections; charges = charges }

pub same_answer : (prices prices' : List Fraction) (selections selections' : List (List Bool)) (charges charges' : List (List ℤ)) → prices ≡ prices' →
    selections ≡ selections' → charges ≡ charges' → answer_of prices selections charges ≡ answer_of prices' selections' charges'
same_answer prices prices' selections selections' charges charges' e f g = cc

-- what stands after the first line, after the number of prices, after the selections, and after the charges
abbrev pub last_lines : List ℕ → List ℕ
last_lines rest = line (codes "end" ∷ []) ++ rest

abbrev pub charge_lines : List (List ℤ) → List ℕ → List ℕ
charge_lines charges rest = charges_text 0 charges ++ last_lines rest

abbrev pub selection_lines : SelectionProblem → List Fraction → List (List Bool) → List (List ℤ) → List ℕ → List ℕ
selection_lines p prices selections charges rest = selections_text p prices selections ++ charge_lines charges rest

abbrev pub count_lines : SelectionProblem → ScheduleAnswer → List ℕ → List ℕ
count_lines p a rest = row_line (codes "k") (length a.prices ∷ []) [] ++ selection_lines p a.prices a.selections a.charges rest

five : (a b c d e rest : List ℕ) → (a ++ b ++ c ++ d ++ e) ++ rest ≡ a ++ (b ++ (c ++ (d ++ (e ++ rest))))
five a b c d e rest = simp append_assoc

pub all_lines : (p : SelectionProblem) (a : ScheduleAnswer) (rest : List ℕ) → schedule_text p a ++ rest ≡ line (codes "o" ∷ codes "select" ∷ []) ++ count_lines p a rest
unfolding schedule_text
all_lines p a rest =
    five (line (codes "o" ∷ codes "select" ∷ [])) (row_line (codes "k") (length a.prices ∷ []) []) (selections_text p a.prices a.selections) (charges_text 0 a.charges)
    (line (codes "end" ∷ [])) rest

-- a text of selections has at least as many bytes as prices
selections_bytes : (p : SelectionProblem) (prices : List Fraction) (selections : List (List Bool)) → length selections ≡ suc (length prices) →
    length prices ≤ length (selections_text p prices selections)
selections_bytes p prices [] e = absurd (omega (arith, e))
selections_bytes p prices (set ∷ selections) e =
    let same : length selections ≡ length prices = omega (arith, e) in
    let front = side_line (codes "s") (0 ∷ []) [] set in
    let changes = changes_of p set prices selections in
    let full = changes_full p set prices selections same in
    let bytes = changes_bytes 0 changes in
    let text = ap length (text_is_lines p 0 set prices selections) in
    omega (arith, length-append front (changes_text p 0 set prices selections), full, bytes, text)

pub prices_are_few : (p : SelectionProblem) (a : ScheduleAnswer) (rest : List ℕ) → IsScheduleShape p a →
    length a.prices ≤ length (selection_lines p a.prices a.selections a.charges rest)
prices_are_few p a rest shape =
    let bytes = selections_bytes p a.prices a.selections shape.count in
    omega (arith, bytes, length-append (selections_text p a.prices a.selections) (charge_lines a.charges rest))

pub selections_shape : (p : SelectionProblem) (a : ScheduleAnswer) (count : ℕ) → IsScheduleShape p a → count ≡ length a.prices → IsSelectionsShape p count a.prices a.selections
selections_shape p a count shape e = record {
  full = sym e;
  prices_shape = shape.prices;
  count_is = shape.count ∙ ap suc (sym e);
  selections_shape = shape.selections;
}

-- what was taken piece by piece
pub text_taken : (p : SelectionProblem) (old a b c d new : List ℕ) (count : ℕ) (prices : List Fraction) (selections : List (List Bool)) (charges : List (List ℤ)) →
    old ≡ line (codes "o" ∷ codes "select" ∷ []) ++ a → a ≡ row_line (codes "k") (count ∷ []) [] ++ b → b ≡ selections_text p prices selections ++ c →
    c ≡ charges_text 0 charges ++ d → d ≡ line (codes "end" ∷ []) ++ new → length prices ≡ count →
    old ≡ schedule_text p (answer_of prices selections charges) ++ new
text_taken p old a b c d new count prices selections charges first second third fourth fifth full =
    let e : c ≡ charge_lines charges new = fourth ∙ ap (λ (t : List ℕ). charges_text 0 charges ++ t) fifth in
    let f : b ≡ selection_lines p prices selections charges new = third ∙ ap (λ (t : List ℕ). selections_text p prices selections ++ t) e in
    let g : a ≡ count_lines p (answer_of prices selections charges) new =
    second ∙ ap (λ (t : List ℕ). row_line (codes "k") (count ∷ []) [] ++ t) f
    ∙ ap (λ (n : ℕ). row_line (codes "k") (n ∷ []) [] ++ selection_lines p prices selections charges new) (sym full) in
    first ∙ ap (λ (t : List ℕ). line (codes "o" ∷ codes "select" ∷ []) ++ t) g ∙ sym (all_lines p (answer_of prices selections charges) new)

pub answer_shape : (p : SelectionProblem) (count : ℕ) (prices : List Fraction) (selections : List (List Bool)) (charges : List (List ℤ)) →
    IsSelectionsShape p count prices selections → length charges ≡ count → All (IsChargesShape p) charges → IsScheduleShape p (answer_of prices selections charges)
answer_shape p count prices selections charges s full each = record {
  prices = s.prices_shape;
  count = s.count_is ∙ ap suc (sym s.full);
  selections = s.selections_shape;
  charges_count = full ∙ sym s.full;
  charges = each;
}
