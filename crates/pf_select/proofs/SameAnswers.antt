-- Answers of the right shape with equal texts are equal.
use Rattle.std.proofs.Common.{◌≡◌, ℕ, suc, ◌+◌, ◌^◌, List, [], ◌∷◌, ◌++◌, length, get_or, drop, map, refl, sym, ap, ◌∙◌, append_assoc, arith, true, subst}
use Rattle.std.specs.Prelude.{◌≢◌, ◌↔◌, ℤ, Bool, All, codes}
use Rattle.std.specs.List.{AllByRecursion}
use Rattle.std.specs.Fmt.{decimal, signed_decimal}
use Rattle.std.proofs.lemmas.List.Elements.{recursion_from_All}
use Rattle.pf_model.specs.Fraction.{Fraction}
use Rattle.pf_model.specs.Answer.{IsWithinSize}
use Rattle.pf_text.specs.Spelling.{line, side_line, side_text, head_text}
use Rattle.pf_text.proofs.TextLines.{ArePlain, same_line, decimal_plain, signed_plain, numbers_plain, same_side}
use Rattle.pf_lines.proofs.RowsTaken.{line_rest, side_parts}
use Rattle.pf_text.proofs.SameParts.{same_fraction, same_numbers}
use Rattle.pf_select.specs.Problem.{SelectionProblem, IsBoundedProblem}
use Rattle.pf_select.specs.Certificate.{ScheduleAnswer, CertifiesSchedule}
use Rattle.pf_select.specs.Text.{changes_text, selections_text, charges_text, schedule_text}
use Rattle.pf_select.specs.Right.{IsChargesShape, IsScheduleShape, IsRightSchedule, IsCertifiedSchedule}
use Rattle.pf_select.specs.Outline.{IsChange, all_changes}
use Rattle.pf_select.specs.declared.outline.Change.{Change}
use Rattle.pf_select.proofs.Soundness.{certificate_proves}
use Rattle.pf_select.proofs.ChangeTexts.{changes_of, text_is_lines, prices_are, sets_are, changes_shape}
use Rattle.pf_select.proofs.TextLemmas.{last_lines, charge_lines, selection_lines, count_lines, all_lines, same_answer}
use Rattle.pf_model.proofs.Facts.{cons_same, same_front}

-- ---- lines of selections, whose sides have as many characters

same_sides : (a b : List Bool) (rest rest' : List ℕ) → length a ≡ length b → side_text a ++ rest ≡ side_text b ++ rest' → (side_text a ≡ side_text b) × (rest ≡ rest')
same_sides [] [] rest rest' n e = (refl, e)
same_sides [] (y ∷ b) rest rest' n e = absurd (omega (arith, n))
same_sides (x ∷ a) [] rest rest' n e = absurd (omega (arith, n))
same_sides (x ∷ a) (y ∷ b) rest rest' n e =
    let back = same_sides a b rest rest' (omega (arith, n)) (ap (drop 1) e) in
    let here = ap (λ (t : List ℕ). get_or t 0 0) e in
    (both_same _ _ (side_text a) (side_text b) here back.0, back.1)
  where
    both_same : (u v : ℕ) (s t : List ℕ) → u ≡ v → s ≡ t → u ∷ s ≡ v ∷ t
    both_same u v s t f g = ap (λ (n : ℕ). n ∷ s) f ∙ ap (λ (xs : List ℕ). v ∷ xs) g

side_line_is : (j : ℕ) (set : List Bool) (rest : List ℕ) → side_line (codes "s") (j ∷ []) [] set ++ rest ≡ head_text (codes "s") (j ∷ []) ++ (32 ∷ (side_text set ++ (10 ∷ rest)))
side_line_is j set rest =
    line_rest (codes "s") (j ∷ []) (side_text set ∷ []) rest ∙ ap (λ (t : List ℕ). head_text (codes "s") (j ∷ []) ++ t) (side_parts set rest)

record IsSameSet (a b : List Bool) (rest rest' : List ℕ) : Type 0 where
  set : a ≡ b
  behind : rest ≡ rest'

same_set : (j : ℕ) (a b : List Bool) (rest rest' : List ℕ) → length a ≡ length b →
    side_line (codes "s") (j ∷ []) [] a ++ rest ≡ side_line (codes "s") (j ∷ []) [] b ++ rest' → IsSameSet a b rest rest'
same_set j a b rest rest' n e =
    let bare = same_front (head_text (codes "s") (j ∷ [])) (32 ∷ (side_text a ++ (10 ∷ rest))) (32 ∷ (side_text b ++ (10 ∷ rest')))
    (sym (side_line_is j a rest) ∙ e ∙ side_line_is j b rest') in
    let both = same_sides a b (10 ∷ rest) (10 ∷ rest') n (ap (drop 1) bare) in
    record { set = same_side a b both.0; behind = ap (drop 1) both.1 }

-- ---- the changes

-- the first byte
abbrev mark : List ℕ → ℕ
mark text = get_or text 0 0

abbrev price_fields : ℕ → Change → List (List ℕ)
price_fields j change =
    codes "b" ∷ decimal j ∷ signed_decimal change.point.at.p ∷ signed_decimal change.point.at.q ∷ signed_decimal change.point.value ∷ []

price_plain : (j : ℕ) (change : Change) → ArePlain (price_fields j change)
price_plain j change = (record { some = omega arith; all = refl }, (decimal_plain j, (signed_plain _, (signed_plain _, (signed_plain _, tt)))))

change_parts : (a b c rest : List ℕ) → ((a ++ b) ++ c) ++ rest ≡ a ++ (b ++ (c ++ rest))
change_parts a b c rest = simp append_assoc

changes_then : (j : ℕ) (change : Change) (changes : List Change) (rest : List ℕ) →
    all_changes j (change ∷ changes) ++ rest
    ≡ line (price_fields (j + 1) change) ++ (side_line (codes "s") ((j + 1) ∷ []) [] change.set ++ (all_changes (j + 1) changes ++ rest))
changes_then j change changes rest =
    change_parts (line (price_fields (j + 1) change)) (side_line (codes "s") ((j + 1) ∷ []) [] change.set) (all_changes (j + 1) changes) rest

record AreSameChanges (a b : List Change) (rest rest' : List ℕ) : Type 0 where
  prices : map (λ (x : Change). x.point.at) a ≡ map (λ (x : Change). x.point.at) b
  sets : map (λ (x : Change). x.set) a ≡ map (λ (x : Change). x.set) b
  behind : rest ≡ rest'

abbrev field_at : ℕ → List (List ℕ) → List ℕ
field_at i fields = get_or fields i []

first_of_changes : (j : ℕ) (change : Change) (changes : List Change) (rest : List ℕ) → mark (all_changes j (change ∷ changes) ++ rest) ≡ 98
first_of_changes j change changes rest = refl

same_changes : (width j : ℕ) (a b : List Change) (rest rest' : List ℕ) → AllByRecursion (IsChange width) a → AllByRecursion (IsChange width) b →
    mark rest ≢ 98 → mark rest' ≢ 98 → all_changes j a ++ rest ≡ all_changes j b ++ rest' → AreSameChanges a b rest rest'
same_changes width j [] [] rest rest' sa sb other other' e = record { prices = refl; sets = refl; behind = e }
same_changes width j [] (y ∷ b) rest rest' sa sb other other' e = absurd (other (ap mark e ∙ first_of_changes j y b rest'))
same_changes width j (x ∷ a) [] rest rest' sa sb other other' e = absurd (other' (sym (ap mark e) ∙ first_of_changes j x a rest))
same_changes width j (x ∷ a) (y ∷ b) rest rest' sa sb other other' e =
    let price = same_line (price_fields (j + 1) x) (price_fields (j + 1) y) _ _ (price_plain (j + 1) x) (price_plain (j + 1) y)
    (sym (changes_then j x a rest) ∙ e ∙ changes_then j y b rest') in
    let set = same_set (j + 1) x.set y.set _ _ (sa.0.full ∙ sym sb.0.full) price.same_rest in
    let at = same_fraction x.point.at y.point.at sa.0.point.at sb.0.point.at (ap (field_at 2) price.same_parts) (ap (field_at 3) price.same_parts) in
    let back = same_changes width (j + 1) a b rest rest' sa.1 sb.1 other other' set.behind in
    record {
      prices = cons_same x.point.at y.point.at (map (λ (z : Change). z.point.at) a) (map (λ (z : Change). z.point.at) b) at back.prices;
      sets = cons_same x.set y.set (map (λ (z : Change). z.set) a) (map (λ (z : Change). z.set) b) set.set back.sets;
      behind = back.behind;
    }

-- ---- the charges

abbrev charge_fields : ℕ → List ℤ → List (List ℕ)
charge_fields j row = codes "f" ∷ decimal j ∷ map signed_decimal row

charges_plain : (j : ℕ) (row : List ℤ) → ArePlain (charge_fields j row)
charges_plain j row = (record { some = omega arith; all = refl }, (decimal_plain j, numbers_plain row))

charges_then : (j : ℕ) (row : List ℤ) (rows : List (List ℤ)) (rest : List ℕ) →
    charges_text j (row ∷ rows) ++ rest ≡ line (charge_fields (j + 1) row) ++ (charges_text (j + 1) rows ++ rest)
charges_then j row rows rest = append_assoc (line (charge_fields (j + 1) row)) (charges_text (j + 1) rows) rest

first_of_charges : (j : ℕ) (row : List ℤ) (rows : List (List ℤ)) (rest : List ℕ) → mark (charges_text j (row ∷ rows) ++ rest) ≡ 102
first_of_charges j row rows rest = refl

same_charges : (p : SelectionProblem) (j : ℕ) (a b : List (List ℤ)) → AllByRecursion (IsChargesShape p) a → AllByRecursion (IsChargesShape p) b →
    charges_text j a ++ last_lines [] ≡ charges_text j b ++ last_lines [] → a ≡ b
same_charges p j [] [] sa sb e = refl
same_charges p j [] (y ∷ b) sa sb e = absurd (let byte : 101 ≡ 102 = ap mark e ∙ first_of_charges j y b (last_lines []) in omega (arith, byte))
same_charges p j (x ∷ a) [] sa sb e = absurd (let byte : 101 ≡ 102 = sym (ap mark e) ∙ first_of_charges j x a (last_lines []) in omega (arith, byte))
same_charges p j (x ∷ a) (y ∷ b) sa sb e =
    let row = same_line (charge_fields (j + 1) x) (charge_fields (j + 1) y) _ _ (charges_plain (j + 1) x) (charges_plain (j + 1) y)
    (sym (charges_then j x a (last_lines [])) ∙ e ∙ charges_then j y b (last_lines [])) in
    let here = same_numbers x y (recursion_from_All (IsWithinSize (2 ^ 104)) x sa.0.each) (recursion_from_All (IsWithinSize (2 ^ 104)) y sb.0.each)
    (ap (λ (fields : List (List ℕ)). drop 2 fields) row.same_parts) in
    cons_same x y a b here (same_charges p (j + 1) a b sa.1 sb.1 row.same_rest)

charges_mark : (rows : List (List ℤ)) → mark (charges_text 0 rows ++ last_lines []) ≢ 98
charges_mark [] same = let byte : 101 ≡ 98 = same in omega (arith, byte)
charges_mark (row ∷ rows) same = let byte : 102 ≡ 98 = sym (first_of_charges 0 row rows (last_lines [])) ∙ same in omega (arith, byte)

-- ---- the whole answer

record AreSameSelections (prices prices' : List Fraction) (selections selections' : List (List Bool)) (rest rest' : List ℕ) : Type 0 where
  prices_same : prices ≡ prices'
  selections_same : selections ≡ selections'
  behind : rest ≡ rest'

first_then : (p : SelectionProblem) (prices : List Fraction) (set : List Bool) (selections : List (List Bool)) (rest : List ℕ) →
    selections_text p prices (set ∷ selections) ++ rest
    ≡ side_line (codes "s") (0 ∷ []) [] set ++ (all_changes 0 (changes_of p set prices selections) ++ rest)
first_then p prices set selections rest =
    append_assoc (side_line (codes "s") (0 ∷ []) [] set) (changes_text p 0 set prices selections) rest
    ∙ ap (λ (t : List ℕ). side_line (codes "s") (0 ∷ []) [] set ++ (t ++ rest)) (text_is_lines p 0 set prices selections)

same_selections : (p : SelectionProblem) (a b : ScheduleAnswer) (rest rest' : List ℕ) → IsBoundedProblem p → IsScheduleShape p a → IsScheduleShape p b →
    mark rest ≢ 98 → mark rest' ≢ 98 → selections_text p a.prices a.selections ++ rest ≡ selections_text p b.prices b.selections ++ rest' →
    AreSameSelections a.prices b.prices a.selections b.selections rest rest'
same_selections p a b rest rest' bounded sa sb other other' e = by a.selections b.selections sa.count sb.count sa.selections sb.selections e
  where
    by : (sets sets' : List (List Bool)) → length sets ≡ suc (length a.prices) → length sets' ≡ suc (length b.prices) →
        All (λ set. length set ≡ length p.costs) sets → All (λ set. length set ≡ length p.costs) sets' →
        selections_text p a.prices sets ++ rest ≡ selections_text p b.prices sets' ++ rest' → AreSameSelections a.prices b.prices sets sets' rest rest'
    by [] sets' n m full full' e = absurd (omega (arith, n))
    by (set ∷ sets) [] n m full full' e = absurd (omega (arith, m))
    by (set ∷ sets) (set' ∷ sets') n m full full' e =
        let first = same_set 0 set set' _ _ (full 0 [] (omega arith) ∙ sym (full' 0 [] (omega arith)))
        (sym (first_then p a.prices set sets rest) ∙ e ∙ first_then p b.prices set' sets' rest') in
        let shape = recursion_from_All (IsChange (length p.costs)) (changes_of p set a.prices sets)
        (changes_shape p set a.prices sets bounded sa.prices (λ i d low. full (suc i) d (omega (arith, low)))) in
        let shape' = recursion_from_All (IsChange (length p.costs)) (changes_of p set' b.prices sets')
        (changes_shape p set' b.prices sets' bounded sb.prices (λ i d low. full' (suc i) d (omega (arith, low)))) in
        let changes = same_changes (length p.costs) 0 (changes_of p set a.prices sets) (changes_of p set' b.prices sets') rest rest' shape shape' other other' first.behind in
        let count : length sets ≡ length a.prices = omega (arith, n) in
        let count' : length sets' ≡ length b.prices = omega (arith, m) in
        record {
          prices_same = sym (prices_are p set a.prices sets count) ∙ changes.prices ∙ prices_are p set' b.prices sets' count';
          selections_same = cons_same set set' sets sets' first.set (sym (sets_are p set a.prices sets count) ∙ changes.sets ∙ sets_are p set' b.prices sets' count');
          behind = changes.behind;
        }

pub one_answer : (p : SelectionProblem) (a b : ScheduleAnswer) → IsBoundedProblem p → IsScheduleShape p a → IsScheduleShape p b →
    schedule_text p a ≡ schedule_text p b → a ≡ b
one_answer p a b bounded sa sb e =
    let word : ArePlain (codes "o" ∷ codes "select" ∷ []) = (record { some = omega arith; all = refl }, (record { some = omega arith; all = refl }, tt)) in
    let plain : (n : ℕ) → ArePlain (codes "k" ∷ decimal n ∷ []) = λ n. (record { some = omega arith; all = refl }, (decimal_plain n, tt)) in
    let whole = sym (all_lines p a []) ∙ ap (λ (t : List ℕ). t ++ []) e ∙ all_lines p b [] in
    let first = same_line (codes "o" ∷ codes "select" ∷ []) (codes "o" ∷ codes "select" ∷ []) (count_lines p a []) (count_lines p b []) word word whole in
    let count = same_line (codes "k" ∷ decimal (length a.prices) ∷ []) (codes "k" ∷ decimal (length b.prices) ∷ []) (selection_lines p a.prices a.selections a.charges [])
    (selection_lines p b.prices b.selections b.charges []) (plain (length a.prices)) (plain (length b.prices)) first.same_rest in
    let selections = same_selections p a b (charge_lines a.charges []) (charge_lines b.charges []) bounded sa sb (charges_mark a.charges) (charges_mark b.charges) count.same_rest in
    let charges = same_charges p 0 a.charges b.charges (recursion_from_All (IsChargesShape p) a.charges sa.charges) (recursion_from_All (IsChargesShape p) b.charges sb.charges)
    selections.behind in
    same_answer a.prices b.prices a.selections b.selections a.charges b.charges selections.prices_same selections.selections_same charges

-- ---- certified texts

abbrev Holds : SelectionProblem → ScheduleAnswer → Type 0
Holds p answer = CertifiesSchedule p answer.prices answer.selections answer.charges

-- the text is that of an answer of the right shape: it is certified where that answer is
pub certified_text : (p : SelectionProblem) (text : List ℕ) (answer : ScheduleAnswer) (holds : Bool) → IsBoundedProblem p → IsScheduleShape p answer →
    text ≡ schedule_text p answer → ((holds ≡ true) ↔ CertifiesSchedule p answer.prices answer.selections answer.charges) → (holds ≡ true) ↔ IsCertifiedSchedule p text
certified_text p text answer holds bounded shape text_is exact = (
  λ told. record { answer = answer; shape = shape; certificate = exact.0 told; text_is = text_is },
  λ c. exact.1 (subst (Holds p) (one_answer p c.answer answer bounded c.shape shape (sym c.text_is ∙ text_is)) c.certificate),
)

pub certified_is_right : (p : SelectionProblem) (text : List ℕ) → IsBoundedProblem p → IsCertifiedSchedule p text ↔ IsRightSchedule p text
certified_is_right p text bounded = (
  λ c. record {
    answer = c.answer;
    shape = c.shape;
    best = certificate_proves p c.answer.prices c.answer.selections c.answer.charges bounded.problem c.certificate;
    certificate = c.certificate;
    text_is = c.text_is;
  },
  λ r. record { answer = r.answer; shape = r.shape; certificate = r.certificate; text_is = r.text_is },
)
