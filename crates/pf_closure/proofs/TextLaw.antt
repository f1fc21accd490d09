-- A text of the kind `closure` that is accepted gives items within their limits.
use Rattle.std.proofs.Common.{◌≡◌, ℕ, zero, suc, ◌+◌, ◌<◌, ◌≤◌, List, [], ◌∷◌, ◌++◌, length, get_or, map, Option, Some, None, Ok, refl, sym, ap, subst, ◌∙◌, arith, length-append}
use Rattle.std.specs.Prelude.{ℤ, pos, neg_ℤ, ◌≤ℤ◌, is_some, All, IfSome, replicate, slice_set, slice_index_or}
use Rattle.std.specs.Option.{option_map}
use Rattle.std.proofs.lemmas.Int.{ints}
use Rattle.std.proofs.lemmas.Bool.{eqb-false}
use Rattle.std.proofs.lemmas.List.{length-set, length-map, length-replicate}
use Rattle.std.proofs.lemmas.List.Elements.{All-nil, All-cons, All-append, All-head, All-tail, All-set}
use Rattle.std.proofs.Math.ListN.{get_or-map}
use Rattle.pf_model.specs.Cut.{at_arc}
use Rattle.pf_text.specs.Lines.{Line}
use Rattle.pf_text.specs.Kinds.{Fits, State, Accepted, problem_of_lines}
use Rattle.pf_text.proofs.KindsLaw.{Keeps, IsInvariant, lines_claims, problem_claims, broken_ok}
use Rattle.pf_closure.specs.Problem.{ClosureProblem, IsBoundedProblem}
use Rattle.pf_closure.specs.Text.{Given, closure, closure_header, item_count, need_count, item_index, item_form, need_form, all_given, problem_by}
use Rattle.pf_closure.specs.Laws.{AcceptedIsBounded}

-- ---- what was given

record IsGoodItem (item : ℤ × ℤ) : Type 0 where
  pub cost_low : neg_ℤ (pos 1000000) ≤ℤ item.0
  pub cost_high : item.0 ≤ℤ pos 1000000
  pub heavy : pos 1 ≤ℤ item.1
  pub light : item.1 ≤ℤ pos 1000000

abbrev IsGoodSlot : Option (ℤ × ℤ) → Type 0
IsGoodSlot slot = IfSome slot IsGoodItem

abbrev IsGoodNeed : ℕ → ℕ × ℕ → Type 0
IsGoodNeed n need = (need.0 < n) × (need.1 < n)

record IsGoodState (state : State Given) : Type 0 where
  pub header : Fits closure_header state.header_numbers
  pub full : length state.given.slots ≡ item_count state.header_numbers
  pub slots : All IsGoodSlot state.given.slots
  pub needs : All (IsGoodNeed (item_count state.header_numbers)) state.given.needs
  pub count : length state.given.needs ≡ state.counted_lines
  pub few : state.counted_lines ≤ need_count state.header_numbers

-- ---- small facts

index_below : (v : ℤ) (n : ℕ) → pos 1 ≤ℤ v → v ≤ℤ pos n → item_index v < n
index_below v n low high = omega (arith, ints, low, high)

none_given : (n : ℕ) → All IsGoodSlot (replicate n None)
none_given zero = All-nil IsGoodSlot
none_given (suc n) = All-cons IsGoodSlot None (replicate n None) tt (none_given n)

-- ---- the lines

begins : (numbers : List ℤ) → Fits closure_header numbers →
    IsGoodState (record { header_numbers = numbers; counted_lines = 0; given = record { slots = replicate (item_count numbers) None; needs = [] } })
begins numbers fit = record {
  header = fit;
  full = length-replicate (item_count numbers) None;
  slots = none_given (item_count numbers);
  needs = All-nil (IsGoodNeed (item_count numbers));
  count = refl;
  few = omega arith;
}

item_line : (numbers : List ℤ) (state : State Given) → IsGoodState state → Fits (item_form state.header_numbers).patterns numbers →
    Keeps closure IsGoodState state (item_form state.header_numbers) numbers
item_line [] state good fit = absurd fit
item_line (v ∷ []) state good fit = absurd fit.2
item_line (v ∷ cost ∷ []) state good fit = absurd fit.2.2
item_line (v ∷ cost ∷ weight ∷ []) state good fit = λ place next e.
    let a = broken_ok (is_some (slice_index_or state.given.slots (item_index v) None)) _ _ next e in
    let made : Given = record { slots = slice_set state.given.slots (item_index v) (Some (cost, weight)); needs = state.given.needs } in
    let same : made ≡ next = (let e' = a.1 in cc) in
    let item : IsGoodItem (cost, weight) = record { cost_low = fit.2.0; cost_high = fit.2.1; heavy = fit.2.2.0; light = fit.2.2.1 } in
    let P : Given → Type 0 = λ g. IsGoodState (record { header_numbers = state.header_numbers; counted_lines = state.counted_lines; given = g }) in
    let good_next : P made = record {
      header = good.header;
      full = length-set state.given.slots (item_index v) (Some (cost, weight)) ∙ good.full;
      slots = All-set IsGoodSlot state.given.slots (item_index v) (Some (cost, weight)) item good.slots;
      needs = good.needs;
      count = good.count;
      few = good.few;
    } in
    subst P same good_next
item_line (v ∷ cost ∷ weight ∷ n ∷ numbers) state good fit = absurd fit.2.2.2

need_line : (numbers : List ℤ) (state : State Given) → IsGoodState state → Fits (need_form state.header_numbers).patterns numbers →
    Keeps closure IsGoodState state (need_form state.header_numbers) numbers
unfolding closure
need_line [] state good fit = absurd fit
need_line (u ∷ []) state good fit = absurd fit.2
need_line (u ∷ v ∷ []) state good fit = λ place next e.
    let n = item_count state.header_numbers in
    let need : ℕ × ℕ = (item_index u, item_index v) in
    let made : Given = record { slots = state.given.slots; needs = state.given.needs ++ need ∷ [] } in
    let same : made ≡ next = cc in
    let inside : IsGoodNeed n need = (index_below u n fit.0 fit.1, index_below v n fit.2.0 fit.2.1) in
    let P : Given → Type 0 = λ g. IsGoodState (record { header_numbers = state.header_numbers; counted_lines = state.counted_lines + 1; given = g }) in
    let more : length (state.given.needs ++ need ∷ []) ≡ length state.given.needs + 1 = length-append state.given.needs (need ∷ []) in
    let differ = eqb-false state.counted_lines (need_count state.header_numbers) place in
    let good_next : P made = record {
      header = good.header;
      full = good.full;
      slots = good.slots;
      needs = All-append (IsGoodNeed n) state.given.needs (need ∷ []) good.needs (All-cons (IsGoodNeed n) need [] inside (All-nil (IsGoodNeed n)));
      count = more ∙ ap (λ m. m + 1) good.count;
      few = (let few = good.few in omega (arith, few, differ));
    } in
    subst P same good_next
need_line (u ∷ v ∷ n ∷ numbers) state good fit = absurd fit.2.2

-- ---- the line `end`

record AreItemsOf (slots : List (Option (ℤ × ℤ))) (items : List (ℤ × ℤ)) : Type 0 where
  full : length items ≡ length slots
  each : All IsGoodItem items

one_more : (x : ℤ × ℤ) (slots : List (Option (ℤ × ℤ))) (items : List (ℤ × ℤ)) (o : Option (List (ℤ × ℤ))) → IsGoodItem x →
    ((later : List (ℤ × ℤ)) → o ≡ Some later → AreItemsOf slots later) → option_map (λ l. x ∷ l) o ≡ Some items → AreItemsOf (Some x ∷ slots) items
one_more x slots items None good h e = absurd cc
one_more x slots items (Some later) good h e =
    let rest = h later refl in
    let same : x ∷ later ≡ items = cc in
    subst (AreItemsOf (Some x ∷ slots)) same (record { full = ap suc rest.full; each = All-cons IsGoodItem x later good rest.each })

items_of_slots : (slots : List (Option (ℤ × ℤ))) (items : List (ℤ × ℤ)) → All IsGoodSlot slots → all_given slots ≡ Some items → AreItemsOf slots items
items_of_slots [] items each e =
    let same : [] ≡ items = cc in
    subst (AreItemsOf []) same (record { full = refl; each = All-nil IsGoodItem })
items_of_slots (None ∷ slots) items each e = absurd cc
items_of_slots (Some x ∷ slots) items each e =
    one_more x slots items (all_given slots) (All-head IsGoodSlot (Some x) slots each)
    (λ later is. items_of_slots slots later (All-tail IsGoodSlot (Some x) slots each) is) e

abbrev made_of : List (ℤ × ℤ) → List (ℕ × ℕ) → ClosureProblem
made_of items needs = record { costs = map (λ item. item.0) items; weights = map (λ item. item.1) items; needs = needs }

bounded_items : (items : List (ℤ × ℤ)) (needs : List (ℕ × ℕ)) → 0 < length items → length items ≤ 1000 → length needs ≤ 10000 → All IsGoodItem items →
    All (IsGoodNeed (length items)) needs → IsBoundedProblem (made_of items needs)
bounded_items items needs some few short each inside =
    let first : ℤ × ℤ → ℤ = λ item. item.0 in
    let second : ℤ × ℤ → ℤ = λ item. item.1 in
    let zeros : ℤ × ℤ = (pos 0, pos 0) in
    let costs : length (map (λ (item : ℤ × ℤ). item.0) items) ≡ length items = length-map items (λ (item : ℤ × ℤ). item.0) in
    let weights : length (map (λ (item : ℤ × ℤ). item.1) items) ≡ length items = length-map items (λ (item : ℤ × ℤ). item.1) in
    let cost : (i : ℕ) → at_arc (map (λ (item : ℤ × ℤ). item.0) items) i ≡ (get_or items i zeros).0 = λ i. get_or-map (λ (item : ℤ × ℤ). item.0) items i zeros in
    let weight : (i : ℕ) → at_arc (map (λ (item : ℤ × ℤ). item.1) items) i ≡ (get_or items i zeros).1 = λ i. get_or-map (λ (item : ℤ × ℤ). item.1) items i zeros in
    record {
      problem = record {
        some = omega (arith, some, costs);
        full = weights ∙ sym costs;
        heavy = λ i low. let e = weight i in let h = (each i zeros (omega (arith, low, costs))).heavy in omega (arith, ints, e, h);
        needing = λ k low. let h = (inside k (0, 0) low).0 in omega (arith, h, costs);
        needed = λ k low. let h = (inside k (0, 0) low).1 in omega (arith, h, costs);
      };
      few_items = omega (arith, few, costs);
      few_needs = short;
      cost_low = λ i low. let e = cost i in let h = (each i zeros (omega (arith, low, costs))).cost_low in omega (arith, ints, e, h);
      cost_high = λ i low. let e = cost i in let h = (each i zeros (omega (arith, low, costs))).cost_high in omega (arith, ints, e, h);
      weight_high = λ i low. let e = weight i in let h = (each i zeros (omega (arith, low, costs))).light in omega (arith, ints, e, h);
    }

bounded : (slots : List (Option (ℤ × ℤ))) (o : Option (List (ℤ × ℤ))) (needs : List (ℕ × ℕ)) (problem : ClosureProblem) (n : ℕ) → length slots ≡ n → 0 < n → n ≤ 1000 →
    length needs ≤ 10000 → All (IsGoodNeed n) needs → ((items : List (ℤ × ℤ)) → o ≡ Some items → AreItemsOf slots items) → problem_by o needs ≡ Ok problem →
    IsBoundedProblem problem
bounded slots None needs problem n full some few short inside h e = absurd cc
bounded slots (Some items) needs problem n full some few short inside h e =
    let is = h items refl in
    let count : length items ≡ n = is.full ∙ full in
    let same : made_of items needs ≡ problem = cc in
    let P : ℕ → Type 0 = λ m. All (IsGoodNeed m) needs in
    subst IsBoundedProblem same
    (bounded_items items needs (omega (arith, count, some)) (omega (arith, count, few)) short is.each (subst P (sym count) inside))

record IsGoodHeader (numbers : List ℤ) : Type 0 where
  items_low : 0 < item_count numbers
  items_high : item_count numbers ≤ 1000
  needs : need_count numbers ≤ 10000

header_numbers : (numbers : List ℤ) → Fits closure_header numbers → IsGoodHeader numbers
header_numbers [] fit = absurd fit
header_numbers (n ∷ []) fit = absurd fit.2
header_numbers (n ∷ m ∷ []) fit =
    let n_low = fit.0 in
    let n_high = fit.1 in
    let m_low = fit.2.0 in
    let m_high = fit.2.1 in
    record { items_low = omega (arith, ints, n_low, n_high); items_high = omega (arith, ints, n_low, n_high); needs = omega (arith, ints, m_low, m_high) }
header_numbers (n ∷ m ∷ k ∷ numbers) fit = absurd fit.2.2

ends : (state : State Given) (problem : ClosureProblem) → IsGoodState state → problem_by (all_given state.given.slots) state.given.needs ≡ Ok problem → IsBoundedProblem problem
ends state problem good e =
    let h = header_numbers state.header_numbers good.header in
    let count = good.count in
    let few = good.few in
    let needs = h.needs in
    bounded state.given.slots (all_given state.given.slots) state.given.needs problem (item_count state.header_numbers) good.full h.items_low h.items_high
    (omega (arith, count, few, needs)) good.needs (λ items is. items_of_slots state.given.slots items good.slots is) e

closure_invariant : IsInvariant closure IsGoodState IsBoundedProblem
unfolding closure
closure_invariant = record {
  begins = begins;
  kept = λ state good. (λ numbers. item_line numbers state good, (λ numbers. need_line numbers state good, tt));
  ends = λ state problem good all. ends state problem good;
}

-- lines that are accepted give items within their limits
pub accepted_lines_are_bounded : (lines : List Line) (read : Accepted ClosureProblem) → problem_of_lines closure lines ≡ Ok read → IsBoundedProblem read.problem
accepted_lines_are_bounded lines read e = lines_claims closure IsGoodState IsBoundedProblem lines read closure_invariant e

pub accepted_is_bounded : AcceptedIsBounded
accepted_is_bounded text read e = problem_claims closure IsGoodState IsBoundedProblem text read closure_invariant e
