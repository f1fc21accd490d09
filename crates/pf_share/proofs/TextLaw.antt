-- A text of the kind `share` that is accepted gives a network within its limits.
use Rattle.std.proofs.Common.{◌≡◌, ◌≢◌, ℕ, zero, suc, ◌+◌, ◌<◌, ◌≤◌, true, false, not, List, [], ◌∷◌, ◌++◌, length, get_or, set, Option, Some, None, Ok, refl, sym, ap, subst, ◌∙◌, arith, length-append}
use Rattle.std.specs.Prelude.{ℤ, pos, nat_abs, ◌≤ℤ◌, is_some, All, replicate, slice_set, slice_index_or, ◌==◌}
use Rattle.std.proofs.lemmas.Int.{ints}
use Rattle.std.proofs.lemmas.Bool.{eqb-false, false≢true}
use Rattle.std.proofs.lemmas.Bool.Decides.{nat_tests}
use Rattle.std.proofs.lemmas.List.{length-set, length-replicate}
use Rattle.std.proofs.lemmas.List.Elements.{All-nil, All-cons, All-append}
use Rattle.pf_text.specs.Lines.{Line}
use Rattle.pf_text.specs.Kinds.{Fits, State, Accepted, problem_of_lines, problem_of}
use Rattle.pf_text.proofs.KindsLaw.{Keeps, IsInvariant, lines_claims, problem_claims, broken_ok}
use Rattle.pf_share.specs.Problem.{ShareProblem, IsBoundedSharing, sharing_of}
use Rattle.pf_share.specs.Text.{Given, share, share_header, node_count, arc_count, node_index, is_sink, sink_form, weight_form, arc_form, end_by}
use Rattle.pf_share.proofs.CheckLemmas.{length_numbers}
use Rattle.pf_model.proofs.Facts.{number_at}

-- ---- what was given

abbrev IsGoodEnds : ℕ → ℕ × ℕ → Type 0
IsGoodEnds n arc = (arc.0 < n) × (arc.1 < n)

abbrev IsSmall : ℕ → Type 0
IsSmall c = c ≤ 1000000000

record IsGoodState (state : State Given) : Type 0 where
  pub header : Fits share_header state.header_numbers
  pub full : length state.given.weights ≡ node_count state.header_numbers
  pub light : (v : ℕ) → get_or state.given.weights v 0 ≤ 1000000
  pub sink : (t : ℕ) → state.given.sink ≡ Some t → (t < node_count state.header_numbers) × (get_or state.given.weights t 0 ≡ 0)
  pub before : state.given.sink ≡ None → (v : ℕ) → get_or state.given.weights v 0 ≡ 0
  pub ends : All (IsGoodEnds (node_count state.header_numbers)) state.given.ends
  pub capacities : All IsSmall state.given.capacities
  pub count : length state.given.ends ≡ state.counted_lines
  pub capacity_count : length state.given.capacities ≡ state.counted_lines
  pub few : state.counted_lines ≤ arc_count state.header_numbers

-- ---- small facts

index_below : (v : ℤ) (n : ℕ) → pos 1 ≤ℤ v → v ≤ℤ pos n → node_index v < n
index_below v n low high = omega (arith, ints, low, high)

no_weights : (n v : ℕ) → ◌≡◌ {A = ℕ} (get_or {A = ℕ} (replicate {A = ℕ} n 0) v 0) 0
no_weights zero v = refl
no_weights (suc n) zero = refl
no_weights (suc n) (suc v) = no_weights n v

some_none : {X : Type 0} (o : Option X) → not (is_some o) ≡ false → o ≡ None → ⊥
some_none None e f = cc
some_none (Some x) e f = cc

is_none_by : {X : Type 0} (o : Option X) → is_some o ≡ false → o ≡ None
is_none_by None e = refl
is_none_by (Some x) e = cc

other_sink : (o : Option ℕ) (t v : ℕ) → is_sink o v ≡ false → o ≡ Some t → t ≢ v
other_sink None t v e f = cc
other_sink (Some x) t v e f = λ same. (let here : x ≡ t = cc in let a : (x == v) ≡ true = grind (arith, nat_tests) in absurd (false≢true (sym e ∙ a)))

same_some : (x t : ℕ) → Some x ≡ Some t → x ≡ t
same_some x t e = cc

-- ---- the lines

begins : (numbers : List ℤ) → Fits share_header numbers →
    IsGoodState (record { header_numbers = numbers; counted_lines = 0; given = record { sink = None; weights = replicate (node_count numbers) 0; ends = []; capacities = [] } })
begins numbers fit = record {
  header = fit;
  full = length-replicate (node_count numbers) 0;
  light = λ v. (let e = no_weights (node_count numbers) v in omega (arith, e));
  sink = λ t e. absurd cc;
  before = λ e v. no_weights (node_count numbers) v;
  ends = All-nil (IsGoodEnds (node_count numbers));
  capacities = All-nil IsSmall;
  count = refl;
  capacity_count = refl;
  few = omega arith;
}

sink_line : (numbers : List ℤ) (state : State Given) → IsGoodState state → Fits (sink_form state.header_numbers).patterns numbers →
    Keeps share IsGoodState state (sink_form state.header_numbers) numbers
sink_line [] state good fit = absurd fit
sink_line (v ∷ []) state good fit = λ place next e.
    let a = broken_ok (is_some state.given.sink) _ _ next e in
    let given = state.given in
    let made : Given = record { sink = Some (node_index v); weights = given.weights; ends = given.ends; capacities = given.capacities } in
    let same : made ≡ next = (let e' = a.1 in cc) in
    let P : Given → Type 0 = λ g. IsGoodState (record { header_numbers = state.header_numbers; counted_lines = state.counted_lines; given = g }) in
    let low = index_below v (node_count state.header_numbers) fit.0 fit.1 in
    let none = good.before (is_none_by given.sink a.0) in
    let good_next : P made = record {
      header = good.header;
      full = good.full;
      light = good.light;
      sink = λ t s. (let here = same_some (node_index v) t s in (omega (arith, here, low), none t));
      before = λ s. absurd cc;
      ends = good.ends;
      capacities = good.capacities;
      count = good.count;
      capacity_count = good.capacity_count;
      few = good.few;
    } in
    subst P same good_next
sink_line (v ∷ w ∷ numbers) state good fit = absurd fit.2

set_light : (weights : List ℕ) (i w : ℕ) → w ≤ 1000000 → ((v : ℕ) → get_or weights v 0 ≤ 1000000) → (v : ℕ) → get_or (set weights i w) v 0 ≤ 1000000
set_light [] i w h all v = omega arith
set_light (x ∷ weights) zero w h all zero = h
set_light (x ∷ weights) zero w h all (suc v) = all (suc v)
set_light (x ∷ weights) (suc i) w h all zero = all 0
set_light (x ∷ weights) (suc i) w h all (suc v) = set_light weights i w h (λ u. all (suc u)) v

set_beside : (weights : List ℕ) (i v w : ℕ) → v ≢ i → get_or (set weights i w) v 0 ≡ get_or weights v 0
set_beside [] i v w other = refl
set_beside (x ∷ weights) zero zero w other = absurd (other refl)
set_beside (x ∷ weights) zero (suc v) w other = refl
set_beside (x ∷ weights) (suc i) zero w other = refl
set_beside (x ∷ weights) (suc i) (suc v) w other = set_beside weights i v w (λ e. other (ap suc e))

weight_line : (numbers : List ℤ) (state : State Given) → IsGoodState state → Fits (weight_form state.header_numbers).patterns numbers →
    Keeps share IsGoodState state (weight_form state.header_numbers) numbers
weight_line [] state good fit = absurd fit
weight_line (v ∷ []) state good fit = absurd fit.2
weight_line (v ∷ weight ∷ []) state good fit = λ place next e.
    let given = state.given in
    let a = broken_ok (not (slice_index_or given.weights (node_index v) 0 == 0)) _ _ next e in
    let b = broken_ok (not (is_some given.sink)) _ _ next a.1 in
    let c = broken_ok (is_sink given.sink (node_index v)) _ _ next b.1 in
    let made : Given = record { sink = given.sink; weights = slice_set given.weights (node_index v) (nat_abs weight); ends = given.ends; capacities = given.capacities } in
    let same : made ≡ next = (let e' = c.1 in cc) in
    let P : Given → Type 0 = λ g. IsGoodState (record { header_numbers = state.header_numbers; counted_lines = state.counted_lines; given = g }) in
    let l = fit.2.0 in
    let h = fit.2.1 in
    let most : nat_abs weight ≤ 1000000 = omega (arith, ints, l, h) in
    let good_next : P made = record {
      header = good.header;
      full = length-set given.weights (node_index v) (nat_abs weight) ∙ good.full;
      light = set_light given.weights (node_index v) (nat_abs weight) most good.light;
      sink = λ t s.
          let before = good.sink t s in
          (before.0, set_beside given.weights (node_index v) t (nat_abs weight) (other_sink given.sink t (node_index v) c.0 s) ∙ before.1);
      before = λ s. absurd (some_none given.sink b.0 s);
      ends = good.ends;
      capacities = good.capacities;
      count = good.count;
      capacity_count = good.capacity_count;
      few = good.few;
    } in
    subst P same good_next
weight_line (v ∷ weight ∷ n ∷ numbers) state good fit = absurd fit.2.2

arc_line : (numbers : List ℤ) (state : State Given) → IsGoodState state → Fits (arc_form state.header_numbers).patterns numbers →
    Keeps share IsGoodState state (arc_form state.header_numbers) numbers
unfolding share
arc_line [] state good fit = absurd fit
arc_line (u ∷ []) state good fit = absurd fit.2
arc_line (u ∷ v ∷ []) state good fit = absurd fit.2.2
arc_line (u ∷ v ∷ capacity ∷ []) state good fit = λ place next e.
    let given = state.given in
    let n = node_count state.header_numbers in
    let a = broken_ok (not (is_some given.sink)) _ _ next e in
    let arc : ℕ × ℕ = (node_index u, node_index v) in
    let made : Given = record { sink = given.sink; weights = given.weights; ends = given.ends ++ arc ∷ []; capacities = given.capacities ++ nat_abs capacity ∷ [] } in
    let same : made ≡ next = (let e' = a.1 in cc) in
    let inside : IsGoodEnds n arc = (index_below u n fit.0 fit.1, index_below v n fit.2.0 fit.2.1) in
    let l = fit.2.2.0 in
    let h = fit.2.2.1 in
    let most : IsSmall (nat_abs capacity) = omega (arith, ints, l, h) in
    let P : Given → Type 0 = λ g. IsGoodState (record { header_numbers = state.header_numbers; counted_lines = state.counted_lines + 1; given = g }) in
    let more : length (given.ends ++ arc ∷ []) ≡ length given.ends + 1 = length-append given.ends (arc ∷ []) in
    let more' : length (given.capacities ++ nat_abs capacity ∷ []) ≡ length given.capacities + 1 = length-append given.capacities (nat_abs capacity ∷ []) in
    let differ = eqb-false state.counted_lines (arc_count state.header_numbers) place in
    let good_next : P made = record {
      header = good.header;
      full = good.full;
      light = good.light;
      sink = good.sink;
      before = good.before;
      ends = All-append (IsGoodEnds n) given.ends (arc ∷ []) good.ends (All-cons (IsGoodEnds n) arc [] inside (All-nil (IsGoodEnds n)));
      capacities = All-append IsSmall given.capacities (nat_abs capacity ∷ []) good.capacities (All-cons IsSmall (nat_abs capacity) [] most (All-nil IsSmall));
      count = more ∙ ap (λ m. m + 1) good.count;
      capacity_count = more' ∙ ap (λ m. m + 1) good.capacity_count;
      few = (let few = good.few in omega (arith, few, differ));
    } in
    subst P same good_next
arc_line (u ∷ v ∷ capacity ∷ n ∷ numbers) state good fit = absurd fit.2.2.2

-- ---- the line `end`

record IsGoodHeader (numbers : List ℤ) : Type 0 where
  nodes_high : node_count numbers ≤ 1000
  arcs : arc_count numbers ≤ 10000

header_numbers : (numbers : List ℤ) → Fits share_header numbers → IsGoodHeader numbers
header_numbers [] fit = absurd fit
header_numbers (n ∷ []) fit = absurd fit.2
header_numbers (n ∷ m ∷ []) fit =
    let n_low = fit.0 in
    let n_high = fit.1 in
    let m_low = fit.2.0 in
    let m_high = fit.2.1 in
    record { nodes_high = omega (arith, ints, n_low, n_high); arcs = omega (arith, ints, m_low, m_high) }
header_numbers (n ∷ m ∷ k ∷ numbers) fit = absurd fit.2.2

bounded : (state : State Given) (t : ℕ) → IsGoodState state → state.given.sink ≡ Some t →
    IsBoundedSharing (sharing_of t state.given.weights state.given.ends state.given.capacities)
bounded state t good is =
    let given = state.given in
    let h = header_numbers state.header_numbers good.header in
    let full = good.full in
    let here = good.sink t is in
    let first = here.0 in
    let nodes = h.nodes_high in
    let arcs = h.arcs in
    let few = good.few in
    let count = good.count in
    let capacity_count = good.capacity_count in
    let many = length_numbers given.capacities in
    let weights = length_numbers given.weights in
    record {
      problem = record {
        sink = omega (arith, first, full);
        weights_full = weights;
        capacities_full = omega (arith, many, count, capacity_count);
        weight_low = λ v low. (let e = number_at given.weights v low in omega (arith, ints, e));
        sink_weight = number_at given.weights t (omega (arith, first, full)) ∙ ap pos here.1;
        tails = λ i low. (let inside = (good.ends i (0, 0) low).0 in omega (arith, inside, full));
        heads = λ i low. (let inside = (good.ends i (0, 0) low).1 in omega (arith, inside, full));
        capacity_low = λ i low. (let e = number_at given.capacities i (omega (arith, low, count, capacity_count)) in omega (arith, ints, e));
      };
      few_nodes = omega (arith, nodes, full);
      few_arcs = omega (arith, arcs, few, count);
      weight_high = λ v low. (let e = number_at given.weights v low in let light = good.light v in omega (arith, ints, e, light));
      capacity_high = λ i low.
          let there : i < length given.capacities = omega (arith, low, count, capacity_count) in
          let e = number_at given.capacities i there in
          let small = good.capacities i 0 there in
          omega (arith, ints, e, small);
    }

ends_with : (state : State Given) (o : Option ℕ) (problem : ShareProblem) → IsGoodState state → state.given.sink ≡ o →
    end_by o state.given.weights state.given.ends state.given.capacities ≡ Ok problem → IsBoundedSharing problem
ends_with state None problem good is e = absurd cc
ends_with state (Some t) problem good is e =
    let same : sharing_of t state.given.weights state.given.ends state.given.capacities ≡ problem = cc in
    subst IsBoundedSharing same (bounded state t good is)

share_invariant : IsInvariant share IsGoodState IsBoundedSharing
unfolding share
share_invariant = record {
  begins = begins;
  kept = λ state good. (λ numbers. sink_line numbers state good, (λ numbers. weight_line numbers state good, (λ numbers. arc_line numbers state good, tt)));
  ends = λ state problem good all e. ends_with state state.given.sink problem good refl e;
}

-- lines that are accepted give a network within its limits
pub accepted_lines_are_bounded : (lines : List Line) (read : Accepted ShareProblem) → problem_of_lines share lines ≡ Ok read → IsBoundedSharing read.problem
accepted_lines_are_bounded lines read e = lines_claims share IsGoodState IsBoundedSharing lines read share_invariant e

pub accepted_is_bounded : (text : List ℕ) (read : Accepted ShareProblem) → problem_of share text ≡ Ok read → IsBoundedSharing read.problem
accepted_is_bounded text read e = problem_claims share IsGoodState IsBoundedSharing text read share_invariant e
