-- A text of the kind `select` that is accepted gives a problem within its limits.
use Rattle.std.proofs.Common.{◌≡◌, ℕ, zero, suc, ◌+◌, ◌<◌, ◌≤◌, List, [], ◌∷◌, ◌++◌, length, get_or, map, Option, Some, None, Ok, refl, sym, ap, subst, ◌∙◌, arith, length-append}
use Rattle.std.specs.Prelude.{ℤ, pos, ◌≤ℤ◌, nat_abs, is_some, All, IfSome, replicate, slice_set, slice_index_or}
use Rattle.std.specs.Option.{option_map}
use Rattle.std.proofs.lemmas.Int.{ints}
use Rattle.std.proofs.lemmas.Bool.{eqb-false}
use Rattle.std.proofs.lemmas.List.{length-set, length-map, length-replicate}
use Rattle.std.proofs.lemmas.List.Elements.{All-nil, All-cons, All-append, All-head, All-tail, All-set}
use Rattle.std.proofs.Math.ListN.{get_or-map}
use Rattle.pf_model.specs.Cut.{at_arc}
use Rattle.pf_text.specs.Lines.{Line}
use Rattle.pf_text.specs.Kinds.{Fits, State, Accepted, problem_of_lines}
use Rattle.pf_text.proofs.KindsLaw.{Keeps, IsInvariant, lines_claims, problem_claims, broken_ok}
use Rattle.pf_select.specs.Problem.{SelectionProblem, IsBoundedProblem}
use Rattle.pf_select.specs.Text.{Given, select, select_header, part_count, product_count, need_count, index_of, part_form, product_form, need_form, all_given, problem_by}
use Rattle.pf_select.specs.Laws.{AcceptedIsBounded}

-- ---- what was given

record IsGoodNumber (n : ℕ) : Type 0 where
  pub low : 1 ≤ n
  pub high : n ≤ 1000000

abbrev IsGoodSlot : Option ℕ → Type 0
IsGoodSlot slot = IfSome slot IsGoodNumber

record IsGoodNeed (parts products : ℕ) (need : ℕ × ℕ) : Type 0 where
  pub product : need.0 < products
  pub part : need.1 < parts

record IsGoodState (state : State Given) : Type 0 where
  pub header : Fits select_header state.header_numbers
  pub costs_full : length state.given.costs ≡ part_count state.header_numbers
  pub gains_full : length state.given.gains ≡ product_count state.header_numbers
  pub costs : All IsGoodSlot state.given.costs
  pub gains : All IsGoodSlot state.given.gains
  pub needs : All (IsGoodNeed (part_count state.header_numbers) (product_count state.header_numbers)) state.given.needs
  pub count : length state.given.needs ≡ state.counted_lines
  pub few : state.counted_lines ≤ need_count state.header_numbers

-- ---- small facts

index_below : (v : ℤ) (n : ℕ) → pos 1 ≤ℤ v → v ≤ℤ pos n → index_of v < n
index_below v n low high = omega (arith, ints, low, high)

good_number : (v : ℤ) → pos 1 ≤ℤ v → v ≤ℤ pos 1000000 → IsGoodNumber (nat_abs v)
good_number v low high = record { low = omega (arith, ints, low, high); high = omega (arith, ints, low, high) }

none_given : (n : ℕ) → All IsGoodSlot (replicate n None)
none_given zero = All-nil IsGoodSlot
none_given (suc n) = All-cons IsGoodSlot None (replicate n None) tt (none_given n)

-- ---- the lines

begins : (numbers : List ℤ) → Fits select_header numbers →
    IsGoodState (record { header_numbers = numbers; counted_lines = 0; given = record { costs = replicate (part_count numbers) None; gains = replicate (product_count numbers) None; needs = [] } })
begins numbers fit = record {
  header = fit;
  costs_full = length-replicate (part_count numbers) None;
  gains_full = length-replicate (product_count numbers) None;
  costs = none_given (part_count numbers);
  gains = none_given (product_count numbers);
  needs = All-nil (IsGoodNeed (part_count numbers) (product_count numbers));
  count = refl;
  few = omega arith;
}

part_line : (numbers : List ℤ) (state : State Given) → IsGoodState state → Fits (part_form state.header_numbers).patterns numbers →
    Keeps select IsGoodState state (part_form state.header_numbers) numbers
part_line [] state good fit = absurd fit
part_line (v ∷ []) state good fit = absurd fit.2
part_line (v ∷ cost ∷ []) state good fit = λ place next e.
    let a = broken_ok (is_some (slice_index_or state.given.costs (index_of v) None)) _ _ next e in
    let made : Given = record { costs = slice_set state.given.costs (index_of v) (Some (nat_abs cost)); gains = state.given.gains; needs = state.given.needs } in
    let same : made ≡ next = (let e' = a.1 in cc) in
    let P : Given → Type 0 = λ g. IsGoodState (record { header_numbers = state.header_numbers; counted_lines = state.counted_lines; given = g }) in
    let good_next : P made = record {
      header = good.header;
      costs_full = length-set state.given.costs (index_of v) (Some (nat_abs cost)) ∙ good.costs_full;
      gains_full = good.gains_full;
      costs = All-set IsGoodSlot state.given.costs (index_of v) (Some (nat_abs cost)) (good_number cost fit.2.0 fit.2.1) good.costs;
      gains = good.gains;
      needs = good.needs;
      count = good.count;
      few = good.few;
    } in
    subst P same good_next
part_line (v ∷ cost ∷ n ∷ numbers) state good fit = absurd fit.2.2

product_line : (numbers : List ℤ) (state : State Given) → IsGoodState state → Fits (product_form state.header_numbers).patterns numbers →
    Keeps select IsGoodState state (product_form state.header_numbers) numbers
product_line [] state good fit = absurd fit
product_line (v ∷ []) state good fit = absurd fit.2
product_line (v ∷ gain ∷ []) state good fit = λ place next e.
    let a = broken_ok (is_some (slice_index_or state.given.gains (index_of v) None)) _ _ next e in
    let made : Given = record { costs = state.given.costs; gains = slice_set state.given.gains (index_of v) (Some (nat_abs gain)); needs = state.given.needs } in
    let same : made ≡ next = (let e' = a.1 in cc) in
    let P : Given → Type 0 = λ g. IsGoodState (record { header_numbers = state.header_numbers; counted_lines = state.counted_lines; given = g }) in
    let good_next : P made = record {
      header = good.header;
      costs_full = good.costs_full;
      gains_full = length-set state.given.gains (index_of v) (Some (nat_abs gain)) ∙ good.gains_full;
      costs = good.costs;
      gains = All-set IsGoodSlot state.given.gains (index_of v) (Some (nat_abs gain)) (good_number gain fit.2.0 fit.2.1) good.gains;
      needs = good.needs;
      count = good.count;
      few = good.few;
    } in
    subst P same good_next
product_line (v ∷ gain ∷ n ∷ numbers) state good fit = absurd fit.2.2

need_line : (numbers : List ℤ) (state : State Given) → IsGoodState state → Fits (need_form state.header_numbers).patterns numbers →
    Keeps select IsGoodState state (need_form state.header_numbers) numbers
unfolding select
need_line [] state good fit = absurd fit
need_line (u ∷ []) state good fit = absurd fit.2
need_line (u ∷ v ∷ []) state good fit = λ place next e.
    let parts = part_count state.header_numbers in
    let products = product_count state.header_numbers in
    let need : ℕ × ℕ = (index_of u, index_of v) in
    let made : Given = record { costs = state.given.costs; gains = state.given.gains; needs = state.given.needs ++ need ∷ [] } in
    let same : made ≡ next = cc in
    let inside : IsGoodNeed parts products need = record { product = index_below u products fit.0 fit.1; part = index_below v parts fit.2.0 fit.2.1 } in
    let P : Given → Type 0 = λ g. IsGoodState (record { header_numbers = state.header_numbers; counted_lines = state.counted_lines + 1; given = g }) in
    let more : length (state.given.needs ++ need ∷ []) ≡ length state.given.needs + 1 = length-append state.given.needs (need ∷ []) in
    let differ = eqb-false state.counted_lines (need_count state.header_numbers) place in
    let good_next : P made = record {
      header = good.header;
      costs_full = good.costs_full;
      gains_full = good.gains_full;
      costs = good.costs;
      gains = good.gains;
      needs = All-append (IsGoodNeed parts products) state.given.needs (need ∷ []) good.needs
          (All-cons (IsGoodNeed parts products) need [] inside (All-nil (IsGoodNeed parts products)));
      count = more ∙ ap (λ m. m + 1) good.count;
      few = (let few = good.few in omega (arith, few, differ));
    } in
    subst P same good_next
need_line (u ∷ v ∷ n ∷ numbers) state good fit = absurd fit.2.2

-- ---- the line `end`

record AreNumbersOf (slots : List (Option ℕ)) (numbers : List ℕ) : Type 0 where
  full : length numbers ≡ length slots
  each : All IsGoodNumber numbers

one_more : (x : ℕ) (slots : List (Option ℕ)) (numbers : List ℕ) (o : Option (List ℕ)) → IsGoodNumber x →
    ((later : List ℕ) → o ≡ Some later → AreNumbersOf slots later) → option_map (λ l. x ∷ l) o ≡ Some numbers → AreNumbersOf (Some x ∷ slots) numbers
one_more x slots numbers None good h e = absurd cc
one_more x slots numbers (Some later) good h e =
    let rest = h later refl in
    let same : x ∷ later ≡ numbers = cc in
    subst (AreNumbersOf (Some x ∷ slots)) same (record { full = ap suc rest.full; each = All-cons IsGoodNumber x later good rest.each })

numbers_of_slots : (slots : List (Option ℕ)) (numbers : List ℕ) → All IsGoodSlot slots → all_given slots ≡ Some numbers → AreNumbersOf slots numbers
numbers_of_slots [] numbers each e =
    let same : [] ≡ numbers = cc in
    subst (AreNumbersOf []) same (record { full = refl; each = All-nil IsGoodNumber })
numbers_of_slots (None ∷ slots) numbers each e = absurd cc
numbers_of_slots (Some x ∷ slots) numbers each e =
    one_more x slots numbers (all_given slots) (All-head IsGoodSlot (Some x) slots each)
    (λ later is. numbers_of_slots slots later (All-tail IsGoodSlot (Some x) slots each) is) e

abbrev made_of : List ℕ → List ℕ → List (ℕ × ℕ) → SelectionProblem
made_of costs gains needs = record { costs = map pos costs; gains = map pos gains; needs = needs }

at_number : (numbers : List ℕ) (i : ℕ) → at_arc (map pos numbers) i ≡ pos (get_or numbers i 0)
at_number numbers i = get_or-map pos numbers i 0

bounded_numbers : (costs gains : List ℕ) (needs : List (ℕ × ℕ)) → length costs ≤ 500 → length gains ≤ 1000 → length needs ≤ 5000 → All IsGoodNumber costs →
    All IsGoodNumber gains → All (IsGoodNeed (length costs) (length gains)) needs → IsBoundedProblem (made_of costs gains needs)
bounded_numbers costs gains needs few_costs few_gains few_needs good_costs good_gains inside =
    let m : length (map pos costs) ≡ length costs = length-map costs pos in
    let n : length (map pos gains) ≡ length gains = length-map gains pos in
    record {
      problem = record {
        costly = λ i low. let e = at_number costs i in let h = (good_costs i 0 (omega (arith, low, m))).low in omega (arith, ints, e, h);
        gainful = λ i low. let e = at_number gains i in let h = (good_gains i 0 (omega (arith, low, n))).low in omega (arith, ints, e, h);
        product = λ k low. let h = (inside k (0, 0) low).product in omega (arith, h, n);
        part = λ k low. let h = (inside k (0, 0) low).part in omega (arith, h, m);
      };
      few_parts = omega (arith, few_costs, m);
      few_products = omega (arith, few_gains, n);
      few_needs = omega (arith, few_needs);
      cost_high = λ i low. let e = at_number costs i in let h = (good_costs i 0 (omega (arith, low, m))).high in omega (arith, ints, e, h);
      gain_high = λ i low. let e = at_number gains i in let h = (good_gains i 0 (omega (arith, low, n))).high in omega (arith, ints, e, h);
    }

record AreLimits (m n : ℕ) (needs : List (ℕ × ℕ)) : Type 0 where
  few_parts : m ≤ 500
  few_products : n ≤ 1000
  few_needs : length needs ≤ 5000
  inside : All (IsGoodNeed m n) needs

bounded : (costs gains : List (Option ℕ)) (o u : Option (List ℕ)) (needs : List (ℕ × ℕ)) (problem : SelectionProblem) → AreLimits (length costs) (length gains) needs →
    ((numbers : List ℕ) → o ≡ Some numbers → AreNumbersOf costs numbers) → ((numbers : List ℕ) → u ≡ Some numbers → AreNumbersOf gains numbers) →
    problem_by o u needs ≡ Ok problem → IsBoundedProblem problem
bounded costs gains None u needs problem limits h k e = absurd cc
bounded costs gains (Some xs) None needs problem limits h k e = absurd cc
bounded costs gains (Some xs) (Some ys) needs problem limits h k e =
    let is = h xs refl in
    let are = k ys refl in
    let same : made_of xs ys needs ≡ problem = cc in
    let P : ℕ → Type 0 = λ m. All (IsGoodNeed m (length gains)) needs in
    let Q : ℕ → Type 0 = λ n. All (IsGoodNeed (length xs) n) needs in
    let full = is.full in
    let many = are.full in
    let few_parts = limits.few_parts in
    let few_products = limits.few_products in
    subst IsBoundedProblem same
    (bounded_numbers xs ys needs (omega (arith, full, few_parts)) (omega (arith, many, few_products)) limits.few_needs is.each are.each
    (subst Q (sym many) (subst P (sym full) limits.inside)))

record IsGoodHeader (numbers : List ℤ) : Type 0 where
  parts : part_count numbers ≤ 500
  products : product_count numbers ≤ 1000
  needs : need_count numbers ≤ 5000

header_numbers : (numbers : List ℤ) → Fits select_header numbers → IsGoodHeader numbers
header_numbers [] fit = absurd fit
header_numbers (n ∷ []) fit = absurd fit.2
header_numbers (n ∷ k ∷ []) fit = absurd fit.2.2
header_numbers (n ∷ k ∷ m ∷ []) fit =
    let n_low = fit.0 in
    let n_high = fit.1 in
    let k_low = fit.2.0 in
    let k_high = fit.2.1 in
    let m_low = fit.2.2.0 in
    let m_high = fit.2.2.1 in
    record {
      parts = omega (arith, ints, n_low, n_high);
      products = omega (arith, ints, k_low, k_high);
      needs = omega (arith, ints, m_low, m_high);
    }
header_numbers (n ∷ k ∷ m ∷ i ∷ numbers) fit = absurd fit.2.2.2

limits_of : (numbers : List ℤ) (m n : ℕ) (needs : List (ℕ × ℕ)) → IsGoodHeader numbers → m ≡ part_count numbers → n ≡ product_count numbers →
    length needs ≤ need_count numbers → All (IsGoodNeed (part_count numbers) (product_count numbers)) needs → AreLimits m n needs
limits_of numbers m n needs h e f few inside =
    let P : ℕ → Type 0 = λ i. All (IsGoodNeed i (product_count numbers)) needs in
    let Q : ℕ → Type 0 = λ i. All (IsGoodNeed m i) needs in
    let parts = h.parts in
    let products = h.products in
    let most = h.needs in
    record {
      few_parts = omega (arith, e, parts);
      few_products = omega (arith, f, products);
      few_needs = omega (arith, few, most);
      inside = subst Q (sym f) (subst P (sym e) inside);
    }

ends : (state : State Given) (problem : SelectionProblem) → IsGoodState state →
    problem_by (all_given state.given.costs) (all_given state.given.gains) state.given.needs ≡ Ok problem → IsBoundedProblem problem
ends state problem good e =
    let count = good.count in
    let few = good.few in
    bounded state.given.costs state.given.gains (all_given state.given.costs) (all_given state.given.gains) state.given.needs problem
    (limits_of state.header_numbers (length state.given.costs) (length state.given.gains) state.given.needs (header_numbers state.header_numbers good.header)
    good.costs_full good.gains_full (omega (arith, count, few)) good.needs)
    (λ numbers is. numbers_of_slots state.given.costs numbers good.costs is) (λ numbers is. numbers_of_slots state.given.gains numbers good.gains is) e

select_invariant : IsInvariant select IsGoodState IsBoundedProblem
unfolding select
select_invariant = record {
  begins = begins;
  kept = λ state good. (λ numbers. part_line numbers state good, (λ numbers. product_line numbers state good, (λ numbers. need_line numbers state good, tt)));
  ends = λ state problem good all. ends state problem good;
}

-- lines that are accepted give a problem within its limits
pub accepted_lines_are_bounded : (lines : List Line) (read : Accepted SelectionProblem) → problem_of_lines select lines ≡ Ok read → IsBoundedProblem read.problem
accepted_lines_are_bounded lines read e = lines_claims select IsGoodState IsBoundedProblem lines read select_invariant e

pub accepted_is_bounded : AcceptedIsBounded
accepted_is_bounded text read e = problem_claims select IsGoodState IsBoundedProblem text read select_invariant e
