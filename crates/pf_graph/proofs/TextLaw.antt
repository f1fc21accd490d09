-- A text of the kind `graph` that is accepted gives a graph within the limits of what is asked.
use Rattle.std.proofs.Common.{◌≡◌, ◌≢◌, ℕ, zero, suc, ◌+◌, ◌<◌, ◌≤◌, eqb, List, [], ◌∷◌, ◌++◌, length, Result, Ok, Err, refl, sym, ap, subst, ◌∙◌, arith, length-append}
use Rattle.std.specs.Prelude.{ℤ, pos, ◌≤ℤ◌, All, replicate, IfOk}
use Rattle.std.proofs.lemmas.Int.{ints}
use Rattle.std.proofs.lemmas.Bool.{eqb-false}
use Rattle.std.proofs.lemmas.List.{length-set, length-replicate}
use Rattle.std.proofs.lemmas.List.Elements.{All-nil, All-cons, All-append, All-set}
use Rattle.pf_model.specs.Cut.{has, at_arc}
use Rattle.pf_text.specs.declared.RuleKind.{RuleKind}
use Rattle.pf_text.specs.Lines.{Line}
use Rattle.pf_text.specs.Kinds.{Fits, State, Accepted, problem_of_lines}
use Rattle.pf_text.proofs.KindsLaw.{Keeps, IsInvariant, lines_claims, problem_claims, broken_ok}
use Rattle.pf_lines.specs.declared.errors.ReadBad.{ReadBad}
use Rattle.pf_lines.specs.Reading.{Agrees}
use Rattle.pf_graph.specs.declared.graph.Task.{Task}
use Rattle.pf_graph.specs.declared.graph.Task.TheVariants.{Densest, Partitions}
use Rattle.pf_graph.specs.WeightedGraph.{WeightedGraph}
use Rattle.pf_graph.specs.Limits.{IsSmall, IsWithinTask, least_vertices, most_vertices, most_edges}
use Rattle.pf_graph.specs.Counts.{widest_header}
use Rattle.pf_graph.specs.Text.{SlotNumbers, ones, put_slot, Given, nothing_given, graph, graph_header, vertex_count, edge_count, index, vertex_form, price_form, edge_form, graph_by}
use Rattle.pf_graph.specs.TextLaws.{AcceptedIsWithin}

-- ---- what was given

-- so many places, and a small number in each
record AreGoodSlots (count : ℕ) (slots : SlotNumbers) : Type 0 where
  pub full : length slots.numbers ≡ count
  pub each : All IsSmall slots.numbers

record IsGoodEdge (n : ℕ) (edge : ℕ × ℕ) : Type 0 where
  pub first : edge.0 < n
  pub second : edge.1 < n
  pub apart : edge.0 ≢ edge.1

record IsGoodState (task : Task) (state : State Given) : Type 0 where
  pub header : Fits (graph_header task) state.header_numbers
  pub costs : AreGoodSlots (vertex_count state.header_numbers) state.given.costs
  pub prices : AreGoodSlots (edge_count state.header_numbers) state.given.prices
  pub ends : All (IsGoodEdge (vertex_count state.header_numbers)) state.given.ends
  pub weights : All IsSmall state.given.weights
  pub beside : length state.given.weights ≡ length state.given.ends
  pub count : length state.given.ends ≡ state.counted_lines
  pub few : state.counted_lines ≤ edge_count state.header_numbers

-- ---- small facts

index_below : (v : ℤ) (n : ℕ) → pos 1 ≤ℤ v → v ≤ℤ pos n → index v < n
index_below v n low high = omega (arith, ints, low, high)

one_small : IsSmall (pos 1)
one_small = record { low = omega (arith, ints); high = omega (arith, ints) }

ones_small : (n : ℕ) → All IsSmall (replicate n (pos 1))
ones_small zero = All-nil IsSmall
ones_small (suc n) = All-cons IsSmall (pos 1) (replicate n (pos 1)) one_small (ones_small n)

good_ones : (n : ℕ) → AreGoodSlots n (ones n)
good_ones n = record { full = length-replicate n (pos 1); each = ones_small n }

good_put : (n : ℕ) (slots : SlotNumbers) (i : ℕ) (x : ℤ) → AreGoodSlots n slots → pos 1 ≤ℤ x → x ≤ℤ pos 1000000 → AreGoodSlots n (put_slot slots i x)
good_put n slots i x good low high = record {
  full = length-set slots.numbers i x ∙ good.full;
  each = All-set IsSmall slots.numbers i x (record { low = low; high = high }) good.each;
}

-- ---- the lines

begins : (task : Task) (numbers : List ℤ) → Fits (graph_header task) numbers →
    IsGoodState task (record { header_numbers = numbers; counted_lines = 0; given = nothing_given (vertex_count numbers) (edge_count numbers) })
begins task numbers fit = record {
  header = fit;
  costs = good_ones (vertex_count numbers);
  prices = good_ones (edge_count numbers);
  ends = All-nil (IsGoodEdge (vertex_count numbers));
  weights = All-nil IsSmall;
  beside = refl;
  count = refl;
  few = omega arith;
}

vertex_line : (task : Task) (numbers : List ℤ) (state : State Given) → IsGoodState task state → Fits (vertex_form state.header_numbers).patterns numbers →
    Keeps (graph task) (IsGoodState task) state (vertex_form state.header_numbers) numbers
vertex_line task [] state good fit = absurd fit
vertex_line task (v ∷ []) state good fit = absurd fit.2
vertex_line task (v ∷ cost ∷ []) state good fit = λ place next e.
    let a = broken_ok (has state.given.costs.given (index v)) _ _ next e in
    let made : Given = record { costs = put_slot state.given.costs (index v) cost; prices = state.given.prices; ends = state.given.ends; weights = state.given.weights } in
    let same : made ≡ next = (let e' = a.1 in cc) in
    let P : Given → Type 0 = λ g. IsGoodState task (record { header_numbers = state.header_numbers; counted_lines = state.counted_lines; given = g }) in
    let good_next : P made = record {
      header = good.header;
      costs = good_put (vertex_count state.header_numbers) state.given.costs (index v) cost good.costs fit.2.0 fit.2.1;
      prices = good.prices;
      ends = good.ends;
      weights = good.weights;
      beside = good.beside;
      count = good.count;
      few = good.few;
    } in
    subst P same good_next
vertex_line task (v ∷ cost ∷ n ∷ numbers) state good fit = absurd fit.2.2

price_line : (task : Task) (numbers : List ℤ) (state : State Given) → IsGoodState task state → Fits (price_form state.header_numbers).patterns numbers →
    Keeps (graph task) (IsGoodState task) state (price_form state.header_numbers) numbers
price_line task [] state good fit = absurd fit
price_line task (v ∷ []) state good fit = absurd fit.2
price_line task (v ∷ price ∷ []) state good fit = λ place next e.
    let a = broken_ok (has state.given.prices.given (index v)) _ _ next e in
    let made : Given = record { costs = state.given.costs; prices = put_slot state.given.prices (index v) price; ends = state.given.ends; weights = state.given.weights } in
    let same : made ≡ next = (let e' = a.1 in cc) in
    let P : Given → Type 0 = λ g. IsGoodState task (record { header_numbers = state.header_numbers; counted_lines = state.counted_lines; given = g }) in
    let good_next : P made = record {
      header = good.header;
      costs = good.costs;
      prices = good_put (edge_count state.header_numbers) state.given.prices (index v) price good.prices fit.2.0 fit.2.1;
      ends = good.ends;
      weights = good.weights;
      beside = good.beside;
      count = good.count;
      few = good.few;
    } in
    subst P same good_next
price_line task (v ∷ price ∷ n ∷ numbers) state good fit = absurd fit.2.2

edge_line : (task : Task) (numbers : List ℤ) (state : State Given) → IsGoodState task state → Fits (edge_form state.header_numbers).patterns numbers →
    Keeps (graph task) (IsGoodState task) state (edge_form state.header_numbers) numbers
unfolding graph
edge_line task [] state good fit = absurd fit
edge_line task (u ∷ []) state good fit = absurd fit.2
edge_line task (u ∷ v ∷ []) state good fit = absurd fit.2.2
edge_line task (u ∷ v ∷ w ∷ []) state good fit = λ place next e.
    let a = broken_ok (eqb (index u) (index v)) _ _ next e in
    let n = vertex_count state.header_numbers in
    let edge : ℕ × ℕ = (index u, index v) in
    let made : Given = record { costs = state.given.costs; prices = state.given.prices; ends = state.given.ends ++ edge ∷ []; weights = state.given.weights ++ w ∷ [] } in
    let same : made ≡ next = (let e' = a.1 in cc) in
    let inside : IsGoodEdge n edge = record { first = index_below u n fit.0 fit.1; second = index_below v n fit.2.0 fit.2.1; apart = eqb-false (index u) (index v) a.0 } in
    let small : IsSmall w = record { low = fit.2.2.0; high = fit.2.2.1 } in
    let P : Given → Type 0 = λ g. IsGoodState task (record { header_numbers = state.header_numbers; counted_lines = state.counted_lines + 1; given = g }) in
    let more : length (state.given.ends ++ edge ∷ []) ≡ length state.given.ends + 1 = length-append state.given.ends (edge ∷ []) in
    let more' : length (state.given.weights ++ w ∷ []) ≡ length state.given.weights + 1 = length-append state.given.weights (w ∷ []) in
    let differ = eqb-false state.counted_lines (edge_count state.header_numbers) place in
    let good_next : P made = record {
      header = good.header;
      costs = good.costs;
      prices = good.prices;
      ends = All-append (IsGoodEdge n) state.given.ends (edge ∷ []) good.ends (All-cons (IsGoodEdge n) edge [] inside (All-nil (IsGoodEdge n)));
      weights = All-append IsSmall state.given.weights (w ∷ []) good.weights (All-cons IsSmall w [] small (All-nil IsSmall));
      beside = more' ∙ ap (λ m. m + 1) good.beside ∙ sym more;
      count = more ∙ ap (λ m. m + 1) good.count;
      few = (let few = good.few in omega (arith, few, differ));
    } in
    subst P same good_next
edge_line task (u ∷ v ∷ w ∷ n ∷ numbers) state good fit = absurd fit.2.2.2

-- ---- the line `end`

record AreGoodCounts (task : Task) (numbers : List ℤ) : Type 0 where
  pub low : least_vertices task ≤ vertex_count numbers
  pub high : vertex_count numbers ≤ most_vertices task
  pub edges : edge_count numbers ≤ most_edges task

header_counts : (task : Task) (numbers : List ℤ) → Fits (graph_header task) numbers → AreGoodCounts task numbers
header_counts task [] fit = absurd fit
header_counts task (n ∷ []) fit = absurd fit.2
header_counts task (n ∷ m ∷ []) fit =
    let n_low = fit.0 in
    let n_high = fit.1 in
    let m_low = fit.2.0 in
    let m_high = fit.2.1 in
    record { low = omega (arith, ints, n_low); high = omega (arith, ints, n_low, n_high); edges = omega (arith, ints, m_low, m_high) }
header_counts task (n ∷ m ∷ k ∷ numbers) fit = absurd fit.2.2

record IsLimitedTask (task : Task) : Type 0 where
  pub some : 1 ≤ least_vertices task
  pub nodes : most_vertices task ≤ 500
  pub edges : most_edges task ≤ 5000

limited : (task : Task) → IsLimitedTask task
limited Densest = record { some = omega arith; nodes = omega arith; edges = omega arith }
limited Partitions = record { some = omega arith; nodes = omega arith; edges = omega arith }

-- the header of each task is one of the widest
pub fits_widest : (task : Task) (numbers : List ℤ) → Fits (graph_header task) numbers → Fits widest_header numbers
fits_widest task [] fit = absurd fit
fits_widest task (n ∷ []) fit = absurd fit.2
fits_widest task (n ∷ m ∷ []) fit =
    let t = limited task in
    let some = t.some in
    let nodes = t.nodes in
    let edges = t.edges in
    let n_low = fit.0 in
    let n_high = fit.1 in
    let m_high = fit.2.1 in
    (omega (arith, ints, some, n_low), omega (arith, ints, nodes, n_high), (fit.2.0, omega (arith, ints, edges, m_high), tt))
fits_widest task (n ∷ m ∷ k ∷ numbers) fit = absurd fit.2.2

small_at : (xs : List ℤ) (n : ℕ) → length xs ≡ n → All IsSmall xs → (i : ℕ) → i < n → IsSmall (at_arc xs i)
small_at xs n full all i low = all i (pos 0) (omega (arith, full, low))

at_least : (xs : List ℤ) (n : ℕ) → ((i : ℕ) → i < n → IsSmall (at_arc xs i)) → (i : ℕ) → i < n → pos 0 ≤ℤ at_arc xs i
at_least xs n small i below = let low = (small i below).low in omega (arith, ints, low)

within : (task : Task) (numbers : List ℤ) (given : Given) (counted : ℕ) → IsGoodState task (record { header_numbers = numbers; counted_lines = counted; given = given }) →
    edge_count numbers ≤ counted → IsWithinTask task (graph_by numbers given)
within task numbers given counted good all =
    let h = header_counts task numbers good.header in
    let t = limited task in
    let low = h.low in
    let high = h.high in
    let edges = h.edges in
    let some = t.some in
    let most = t.nodes in
    let most_edges = t.edges in
    let few = good.few in
    let count = good.count in
    let beside = good.beside in
    let priced = good.prices.full in
    let weights = small_at given.weights (length given.ends) beside good.weights in
    let costs = small_at given.costs.numbers (vertex_count numbers) good.costs.full good.costs.each in
    let prices = small_at given.prices.numbers (length given.ends) (omega (arith, priced, count, few, all)) good.prices.each in
    record {
      limits = record {
        graph = record {
          some = omega (arith, some, low);
          graph = record { tails = λ i below. (good.ends i (0, 0) below).first; heads = λ i below. (good.ends i (0, 0) below).second };
          apart = λ i below. (good.ends i (0, 0) below).apart;
          weights_full = beside;
          costs_full = good.costs.full;
          prices_full = omega (arith, priced, count, few, all);
          weights_low = at_least given.weights (length given.ends) weights;
          costs_low = at_least given.costs.numbers (vertex_count numbers) costs;
          prices_low = at_least given.prices.numbers (length given.ends) prices;
        };
        nodes = omega (arith, high, most);
        edges = omega (arith, count, few, edges, most_edges);
        weights = weights;
        costs = costs;
        prices = prices;
      };
      some = low;
      nodes = high;
      edges = omega (arith, count, few, edges);
    }

abbrev accepted : WeightedGraph → Result WeightedGraph RuleKind
accepted g = Ok g

ends : (task : Task) (state : State Given) (problem : WeightedGraph) → IsGoodState task state → edge_count state.header_numbers ≤ state.counted_lines →
    accepted (graph_by state.header_numbers state.given) ≡ Ok problem → IsWithinTask task problem
ends task state problem good all e =
    let same : graph_by state.header_numbers state.given ≡ problem = cc in
    subst (IsWithinTask task) same (within task state.header_numbers state.given state.counted_lines good all)

graph_invariant : (task : Task) → IsInvariant (graph task) (IsGoodState task) (IsWithinTask task)
unfolding graph
graph_invariant task = record {
  begins = begins task;
  kept = λ state good. (λ numbers. vertex_line task numbers state good, (λ numbers. price_line task numbers state good, (λ numbers. edge_line task numbers state good, tt)));
  ends = ends task;
}

-- lines that are accepted give a graph within the limits of what is asked
pub accepted_lines_are_within : (task : Task) (lines : List Line) (read : Accepted WeightedGraph) → problem_of_lines (graph task) lines ≡ Ok read → IsWithinTask task read.problem
accepted_lines_are_within task lines read e = lines_claims (graph task) (IsGoodState task) (IsWithinTask task) lines read (graph_invariant task) e

pub accepted_is_within : AcceptedIsWithin
accepted_is_within task text read e = problem_claims (graph task) (IsGoodState task) (IsWithinTask task) text read (graph_invariant task) e

-- so does what is read of them
pub read_is_within : (task : Task) (lines : List Line) (rest : List ℕ) (number : ℕ) (r : Result WeightedGraph ReadBad) →
    Agrees (problem_of_lines (graph task) lines) (λ g. record { problem = g; rest = rest; line = number }) r → IfOk r (IsWithinTask task)
read_is_within task lines rest number (Ok g) judged = accepted_lines_are_within task lines (record { problem = g; rest = rest; line = number }) judged
read_is_within task lines rest number (Err bad) judged = tt
