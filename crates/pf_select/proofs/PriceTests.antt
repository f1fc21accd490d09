-- The tests of a schedule, one by one, against its certificate.
use Rattle.std.proofs.Common.{◌≡◌, ℕ, suc, ◌+◌, ◌<◌, List, [], length, get_or, Bool, true, arith, ap, sym, ◌∙◌, subst, add-one}
use Rattle.std.specs.Prelude.{ℤ}
use Rattle.std.proofs.lemmas.List.Elements.{All-get_or}
use Rattle.std.proofs.lemmas.List.{get_or_default}
use Rattle.pf_model.specs.Fraction.{Fraction}
use Rattle.pf_model.specs.Cut.{has}
use Rattle.pf_model.proofs.Balance.{inside}
use Rattle.pf_model.proofs.Unique.{same_sides}
use Rattle.pf_select.specs.Problem.{SelectionProblem, worth, zero_price, price_at, selection_at}
use Rattle.pf_select.specs.Certificate.{ScheduleAnswer, CertifiesPrice, charges_at, IsNeeded}
use Rattle.pf_select.specs.Right.{IsScheduleShape}
use Rattle.pf_select.specs.Tests.{AreNeeded, CertifiesChange, BeginsNeeded}

-- the whole

pub selection_full : (p : SelectionProblem) (answer : ScheduleAnswer) (j : ℕ) → IsScheduleShape p answer → j < suc (length answer.prices) →
    length (selection_at answer.selections j) ≡ length p.costs
selection_full p answer j shape low =
    let count = shape.count in
    All-get_or (λ set. length set ≡ length p.costs) answer.selections j [] (omega (arith, low, count)) shape.selections

-- the needed parts
needed_before : (p : SelectionProblem) (needs : List (ℕ × ℕ)) (marks : List Bool) (i : ℕ) → needs ≡ p.needs → AreNeeded needs (length needs) marks →
    has marks i ≡ true → IsNeeded p i
needed_before p needs marks i e n h =
    let P : List (ℕ × ℕ) → Type 0 = λ l. AreNeeded l (length l) marks in
    let only = (subst P e n).only i h in
    record { need = only.0; there = only.1.0; part = only.1.1 }

pub needed_begins : (p : SelectionProblem) (needs : List (ℕ × ℕ)) (selections : List (List Bool)) (marks : List Bool) → needs ≡ p.needs →
    AreNeeded needs (length needs) marks → selection_at selections 0 ≡ marks → BeginsNeeded p selections
needed_begins p needs selections marks e n same = record {
  first_needed = λ i low h. needed_before p needs marks i e n (sym (ap (λ l. has l i) same) ∙ h);
  needed_first = λ i need.
      let P : List (ℕ × ℕ) → Type 0 = λ l. AreNeeded l (length l) marks in
      ap (λ l. has l i) same ∙ ap (has marks) (sym need.part) ∙ (subst P e n).marked need.need need.there;
}

pub begins_needed : (p : SelectionProblem) (needs : List (ℕ × ℕ)) (selections : List (List Bool)) (marks : List Bool) → needs ≡ p.needs →
    AreNeeded needs (length needs) marks → length (selection_at selections 0) ≡ length p.costs → length marks ≡ length p.costs →
    BeginsNeeded p selections → selection_at selections 0 ≡ marks
begins_needed p needs selections marks e n full wide b =
    same_sides (selection_at selections 0) marks (full ∙ sym wide)
    (λ v h.
    let low = inside (selection_at selections 0) v h in
    let need = b.first_needed v (omega (arith, low, full)) h in
    let P : List (ℕ × ℕ) → Type 0 = λ l. AreNeeded l (length l) marks in
    ap (has marks) (sym need.part) ∙ (subst P e n).marked need.need need.there)
    (λ v h. b.needed_first v (needed_before p needs marks v e n h))

-- one price more
pub price_here : (prices shown : List Fraction) (j : ℕ) (x : Fraction) → shown ≡ prices → j < length shown → x ≡ get_or shown j x → x ≡ price_at prices (suc j)
price_here prices shown j x e low is =
    is ∙ get_or_default shown j x zero_price low ∙ ap (λ l. get_or l j zero_price) e

pub change_here : (p : SelectionProblem) (answer : ScheduleAnswer) (j : ℕ) (x : Fraction) (charges : List ℤ) (set next : List Bool) →
    x ≡ price_at answer.prices (suc j) → charges ≡ charges_at answer.charges j → set ≡ selection_at answer.selections j →
    next ≡ selection_at answer.selections (j + 1) → CertifiesPrice p x charges set → worth p x set ≡ worth p x next →
    CertifiesChange p answer.prices answer.selections answer.charges j
change_here p answer j x charges set next e f g h c same =
    let later = h ∙ ap (selection_at answer.selections) (add-one j) in
    let P : Fraction → List ℤ → List Bool → Type 0 = λ y row s. CertifiesPrice p y row s in
    let Q : Fraction → List Bool → List Bool → Type 0 = λ y s n. worth p y s ≡ worth p y n in
    record { each = rw (e, f, g) at c; equal = rw (e, g, later) at same }
