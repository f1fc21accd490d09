-- A text of the kind `par` that is accepted gives a monotone network within the limits of texts.
use Rattle.std.proofs.Common.{◌≡◌, ℕ, ◌+◌, ◌<◌, ◌≤◌, Bool, true, false, not, ◌||◌, List, [], ◌∷◌, ◌++◌, length, Option, Some, None, Ok, refl, sym, ap, subst, ◌∙◌, arith, length-append}
use Rattle.std.specs.Prelude.{◌≢◌, ℤ, pos, neg_ℤ, ◌≤ℤ◌, int_lt, is_some, ◌==◌, All, IfSome}
use Rattle.std.proofs.lemmas.Bool.{eq-eqb, eqb-false}
use Rattle.std.proofs.lemmas.Int.{ints}
use Rattle.std.proofs.lemmas.List.Elements.{All-nil, All-cons, All-append}
use Rattle.pf_model.specs.declared.AffineArc.{AffineArc}
use Rattle.pf_model.specs.declared.Sense.{Sense}
use Rattle.pf_model.specs.declared.Sense.TheVariants.{Rising, Falling}
use Rattle.pf_model.specs.Fraction.{IsBelow, is_below}
use Rattle.pf_model.specs.Network.{Network, IsMonotone, capacity_at, keeps_slope}
use Rattle.pf_model.proofs.Lowest.{below_test, lowest_is}
use Rattle.pf_par.specs.declared.given.End.{End}
use Rattle.pf_par.specs.declared.given.End.TheVariants.{Source, Sink}
use Rattle.pf_text.specs.Lines.{Line}
use Rattle.pf_text.specs.Kinds.{Fits, State, Accepted, problem_of_lines}
use Rattle.pf_par.specs.Text.{ParameterInterval, Given, par, sense_or_rising, sense_form, sense_rules, par_header, node_count, arc_count, node_index, is_given, fraction, interval_form, interval_rules, end_given, other_given, with_end, end_form, end_rules, arc_form, arc_rules, arc_rules_by, network_by}
use Rattle.pf_text.specs.Numbers.{billion}
use Rattle.pf_par.specs.Laws.{IsTextFraction, IsTextArc, IsTextNetwork, AcceptedIsMonotone, AcceptedIsTextNetwork}
use Rattle.pf_text.proofs.KindsLaw.{Keeps, IsInvariant, lines_claims, problem_claims, broken_ok, not_false}
use Rattle.pf_model.proofs.Facts.{not_zero}

-- ---- what was given

record IsTextInterval (interval : ParameterInterval) : Type 0 where
  pub low : IsTextFraction interval.low
  pub high : IsTextFraction interval.high
  pub below : IsBelow interval.low interval.high

-- what holds of an arc between n nodes, where all is given that its rules need
record IsGoodArc (n : ℕ) (sense : Sense) (interval : ParameterInterval) (s t : ℕ) (arc : AffineArc) : Type 0 where
  pub tail : arc.tail < n
  pub head : arc.head < n
  pub bounds : IsTextArc arc
  pub slope : keeps_slope sense s t arc ≡ true
  pub low : pos 0 ≤ℤ capacity_at interval.low arc
  pub high : pos 0 ≤ℤ capacity_at interval.high arc

abbrev IsGivenArc : ℕ → Sense → Option ParameterInterval → Option ℕ → Option ℕ → AffineArc → Type 0
IsGivenArc n sense (Some interval) (Some s) (Some t) arc = IsGoodArc n sense interval s t arc
IsGivenArc n sense _ _ _ arc = ⊥

abbrev AreApart : Option ℕ → Option ℕ → Type 0
AreApart (Some s) (Some t) = s ≢ t
AreApart _ _ = Unit {0}

record IsGoodGiven (n : ℕ) (given : Given) : Type 0 where
  pub interval : IfSome given.interval IsTextInterval
  pub source : IfSome given.source (λ s. s < n)
  pub sink : IfSome given.sink (λ t. t < n)
  pub apart : AreApart given.source given.sink
  pub arcs : All (IsGivenArc n (sense_or_rising given.sense) given.interval given.source given.sink) given.arcs

record IsGoodState (state : State Given) : Type 0 where
  pub header : Fits par_header state.header_numbers
  pub given : IsGoodGiven (node_count state.header_numbers) state.given
  pub count : length state.given.arcs ≡ state.counted_lines
  pub few : state.counted_lines ≤ arc_count state.header_numbers

-- ---- small facts

none_of : {X : Type 0} (o : Option X) → is_some o ≡ false → o ≡ None
none_of None e = refl
none_of (Some x) e = absurd cc

both_false : (a b : Bool) → (a || b) ≡ false → (a ≡ false) × (b ≡ false)
both_false true b e = absurd cc
both_false false b e = (refl, e)

not_below : (z : ℤ) → int_lt z (pos 0) ≡ false → pos 0 ≤ℤ z
not_below z e = omega (arith, ints, e)

fraction_is : (p q : ℤ) → neg_ℤ (pos billion) ≤ℤ p → p ≤ℤ pos billion → pos 1 ≤ℤ q → q ≤ℤ pos billion → IsTextFraction (fraction p q)
fraction_is p q p_low p_high q_low q_high =
    let l = lowest_is (record { p = p; q = q }) q_low in
    let p_size = l.p_size in
    let q_size = l.q_size in
    let some = l.parameter in
    record {
      low = omega (arith, ints, p_size);
      high = omega (arith, ints, p_size);
      parameter = l.parameter;
      denominator = omega (arith, ints, q_size, some);
      lowest = l.lowest;
    }

index_below : (v : ℤ) (n : ℕ) → pos 1 ≤ℤ v → v ≤ℤ pos n → node_index v < n
index_below v n low high = omega (arith, ints, low, high)

-- where something was not given there is no arc
no_arc : (P Q : AffineArc → Type 0) (arcs : List AffineArc) → ((arc : AffineArc) → P arc → ⊥) → All P arcs → All Q arcs
no_arc P Q arcs none all = λ k d lt. absurd (none _ (all k d lt))

no_interval : (n : ℕ) (sense : Sense) (source sink : Option ℕ) (arc : AffineArc) → IsGivenArc n sense None source sink arc → ⊥
no_interval n sense source sink arc h = h

no_source : (n : ℕ) (sense : Sense) (interval : Option ParameterInterval) (sink : Option ℕ) (arc : AffineArc) → IsGivenArc n sense interval None sink arc → ⊥
no_source n sense None sink arc h = h
no_source n sense (Some interval) sink arc h = h

no_sink : (n : ℕ) (sense : Sense) (interval : Option ParameterInterval) (source : Option ℕ) (arc : AffineArc) → IsGivenArc n sense interval source None arc → ⊥
no_sink n sense None source arc h = h
no_sink n sense (Some interval) None arc h = h
no_sink n sense (Some interval) (Some s) arc h = h

-- ---- the lines

interval_kept : (n : ℕ) (given next : Given) (lp lq hp hq : ℤ) → IsGoodGiven n given → IsTextFraction (fraction lp lq) → IsTextFraction (fraction hp hq)
    → interval_rules (lp ∷ lq ∷ hp ∷ hq ∷ []) given ≡ Ok next → IsGoodGiven n next × (next.arcs ≡ given.arcs)
interval_kept n given next lp lq hp hq good low high e =
    let a = broken_ok (is_some given.interval) _ _ next e in
    let b = broken_ok (not (is_below (fraction lp lq) (fraction hp hq))) _ _ next a.1 in
    let below = (below_test (fraction lp lq) (fraction hp hq)).0 (not_false _ b.0) in
    let interval : ParameterInterval = record { low = fraction lp lq; high = fraction hp hq } in
    let same : record given { interval = Some interval } ≡ next = (let e' = b.1 in cc) in
    let none = none_of given.interval a.0 in
    let good_next : IsGoodGiven n (record given { interval = Some interval }) = record {
      interval = record { low = low; high = high; below = below };
      source = good.source;
      sink = good.sink;
      apart = good.apart;
      arcs = (let sense = sense_or_rising given.sense in
          no_arc (IsGivenArc n sense None given.source given.sink) (IsGivenArc n sense (Some interval) given.source given.sink) given.arcs (no_interval n sense given.source given.sink)
          (subst (λ (o : Option ParameterInterval). All (IsGivenArc n sense o given.source given.sink) given.arcs) none good.arcs));
    } in
    (subst (IsGoodGiven n) same good_next, ap (λ (g : Given). g.arcs) (sym same))

apart_from_test : (o : Option ℕ) (v : ℕ) → is_given o v ≡ false → AreApart (Some v) o
apart_from_test (Some w) v e = λ same. absurd (let t = eq-eqb w v (sym same) in cc)
apart_from_test None v e = tt

apart_turned : (o : Option ℕ) (v : ℕ) → is_given o v ≡ false → AreApart o (Some v)
apart_turned (Some w) v e = λ same. absurd (let t = eq-eqb w v same in cc)
apart_turned None v e = tt

-- with a node for an end that was not given
good_end : (end : End) (n v : ℕ) (given : Given) → IsGoodGiven n given → v < n → is_some (end_given end given) ≡ false → is_given (other_given end given) v ≡ false → IsGoodGiven n (with_end end v given)
good_end Source n v given good small new other = record {
  interval = good.interval;
  source = small;
  sink = good.sink;
  apart = apart_from_test given.sink v other;
  arcs = (let sense = sense_or_rising given.sense in
      no_arc (IsGivenArc n sense given.interval None given.sink) (IsGivenArc n sense given.interval (Some v) given.sink) given.arcs (no_source n sense given.interval given.sink)
      (subst (λ (o : Option ℕ). All (IsGivenArc n sense given.interval o given.sink) given.arcs) (none_of given.source new) good.arcs));
}
good_end Sink n v given good small new other = record {
  interval = good.interval;
  source = good.source;
  sink = small;
  apart = apart_turned given.source v other;
  arcs = (let sense = sense_or_rising given.sense in
      no_arc (IsGivenArc n sense given.interval given.source None) (IsGivenArc n sense given.interval given.source (Some v)) given.arcs (no_sink n sense given.interval given.source)
      (subst (λ (o : Option ℕ). All (IsGivenArc n sense given.interval given.source o) given.arcs) (none_of given.sink new) good.arcs));
}

same_arcs : (end : End) (v : ℕ) (given : Given) → (with_end end v given).arcs ≡ given.arcs
same_arcs Source v given = refl
same_arcs Sink v given = refl

end_kept : (end : End) (n : ℕ) (given next : Given) (v : ℤ) → IsGoodGiven n given → node_index v < n
    → end_rules end (v ∷ []) given ≡ Ok next → IsGoodGiven n next × (next.arcs ≡ given.arcs)
end_kept end n given next v good small e =
    let a = broken_ok (is_some (end_given end given)) _ _ next e in
    let b = broken_ok (is_given (other_given end given) (node_index v)) _ _ next a.1 in
    let same : with_end end (node_index v) given ≡ next = (let e' = b.1 in cc) in
    (subst (IsGoodGiven n) same (good_end end n (node_index v) given good small a.0 b.0), ap (λ (g : Given). g.arcs) (sym same) ∙ same_arcs end (node_index v) given)

no_arcs : (arcs : List AffineArc) → not (length arcs == 0) ≡ false → arcs ≡ []
no_arcs [] e = refl
no_arcs (arc ∷ arcs) e = absurd (let some = ap not (not_zero (length (arc ∷ arcs)) (omega arith)) in cc)

sense_kept : (sense : Sense) (n : ℕ) (given next : Given) → IsGoodGiven n given → sense_rules sense [] given ≡ Ok next → IsGoodGiven n next × (next.arcs ≡ given.arcs)
sense_kept sense n given next good e =
    let a = broken_ok (is_some given.sense) _ _ next e in
    let b = broken_ok (not (length given.arcs == 0)) _ _ next a.1 in
    let same : record given { sense = Some sense } ≡ next = (let e' = b.1 in cc) in
    let P : AffineArc → Type 0 = IsGivenArc n sense given.interval given.source given.sink in
    let good_next : IsGoodGiven n (record given { sense = Some sense }) = record {
      interval = good.interval;
      source = good.source;
      sink = good.sink;
      apart = good.apart;
      arcs = subst (All P) (sym (no_arcs given.arcs b.0)) (All-nil P);
    } in
    (subst (IsGoodGiven n) same good_next, ap (λ (g : Given). g.arcs) (sym same))

record IsArcGiven (n : ℕ) (sense : Sense) (interval : Option ParameterInterval) (source sink : Option ℕ) (arc : AffineArc) (given next : Given) : Type 0 where
  pub good : IsGivenArc n sense interval source sink arc
  pub same : next ≡ record given { arcs = given.arcs ++ arc ∷ [] }

arc_given : (n : ℕ) (sense : Sense) (interval : Option ParameterInterval) (source sink : Option ℕ) (arc : AffineArc) (given next : Given) → arc.tail < n → arc.head < n → IsTextArc arc
    → arc_rules_by sense interval source sink arc given ≡ Ok next → IsArcGiven n sense interval source sink arc given next
arc_given n sense (Some interval) (Some s) (Some t) arc given next tail head bounds e =
    let a = broken_ok (not (keeps_slope sense s t arc)) _ _ next e in
    let b = broken_ok (int_lt (capacity_at interval.low arc) (pos 0) || int_lt (capacity_at interval.high arc) (pos 0)) _ _ next a.1 in
    let c = both_false _ _ b.0 in
    record {
      good = record { tail = tail; head = head; bounds = bounds; slope = not_false _ a.0; low = not_below _ c.0; high = not_below _ c.1 };
      same = (let e' = b.1 in cc);
    }
arc_given n sense (Some interval) (Some s) None arc given next tail head bounds e = absurd cc
arc_given n sense (Some interval) None sink arc given next tail head bounds e = absurd cc
arc_given n sense None source sink arc given next tail head bounds e = absurd cc

arc_kept : (n : ℕ) (given next : Given) (u v a b : ℤ) → IsGoodGiven n given → node_index u < n → node_index v < n
    → IsTextArc (record { tail = node_index u; head = node_index v; a = a; b = b })
    → arc_rules (u ∷ v ∷ a ∷ b ∷ []) given ≡ Ok next → IsGoodGiven n next × (length next.arcs ≡ length given.arcs + 1)
arc_kept n given next u v a b good tail head bounds e =
    let arc : AffineArc = record { tail = node_index u; head = node_index v; a = a; b = b } in
    let sense = sense_or_rising given.sense in
    let is = arc_given n sense given.interval given.source given.sink arc given next tail head bounds e in
    let P : AffineArc → Type 0 = IsGivenArc n sense given.interval given.source given.sink in
    let good_next : IsGoodGiven n (record given { arcs = given.arcs ++ arc ∷ [] }) = record {
      interval = good.interval;
      source = good.source;
      sink = good.sink;
      apart = good.apart;
      arcs = All-append P given.arcs (arc ∷ []) good.arcs (All-cons P arc [] is.good (All-nil P));
    } in
    let more : length (given.arcs ++ arc ∷ []) ≡ length given.arcs + 1 = length-append given.arcs (arc ∷ []) in
    (subst (IsGoodGiven n) (sym is.same) good_next, ap (λ (g : Given). length g.arcs) is.same ∙ more)

-- ---- the states

-- a line that is not counted, and gives no arc
uncounted : (state : State Given) (next : Given) → IsGoodState state → IsGoodGiven (node_count state.header_numbers) next × (next.arcs ≡ state.given.arcs)
    → IsGoodState (record { header_numbers = state.header_numbers; counted_lines = state.counted_lines; given = next })
uncounted state next good is = record { header = good.header; given = is.0; count = ap length is.1 ∙ good.count; few = good.few }

interval_line : (numbers : List ℤ) (state : State Given) → IsGoodState state → Fits interval_form.patterns numbers → Keeps par IsGoodState state interval_form numbers
interval_line [] state good fit = absurd fit
interval_line (lp ∷ []) state good fit = absurd fit.2
interval_line (lp ∷ lq ∷ []) state good fit = absurd fit.2.2
interval_line (lp ∷ lq ∷ hp ∷ []) state good fit = absurd fit.2.2.2
interval_line (lp ∷ lq ∷ hp ∷ hq ∷ []) state good fit = λ place next e.
    uncounted state next good
    (interval_kept (node_count state.header_numbers) state.given next lp lq hp hq good.given
    (fraction_is lp lq fit.0 fit.1 fit.2.0 fit.2.1) (fraction_is hp hq fit.2.2.0 fit.2.2.1 fit.2.2.2.0 fit.2.2.2.1) e)
interval_line (lp ∷ lq ∷ hp ∷ hq ∷ n ∷ numbers) state good fit = absurd fit.2.2.2.2

sense_line : (sense : Sense) (numbers : List ℤ) (state : State Given) → IsGoodState state → Fits (sense_form sense).patterns numbers → Keeps par IsGoodState state (sense_form sense) numbers
sense_line sense [] state good fit = λ place next e. uncounted state next good (sense_kept sense (node_count state.header_numbers) state.given next good.given e)
sense_line sense (n ∷ numbers) state good fit = absurd fit

end_line : (end : End) (numbers : List ℤ) (state : State Given) → IsGoodState state → Fits (end_form end state.header_numbers).patterns numbers → Keeps par IsGoodState state (end_form end state.header_numbers) numbers
end_line end [] state good fit = absurd fit
end_line end (v ∷ []) state good fit = λ place next e.
    uncounted state next good (end_kept end (node_count state.header_numbers) state.given next v good.given (index_below v (node_count state.header_numbers) fit.0 fit.1) e)
end_line end (v ∷ n ∷ numbers) state good fit = absurd fit.2

arc_line : (numbers : List ℤ) (state : State Given) → IsGoodState state → Fits (arc_form state.header_numbers).patterns numbers → Keeps par IsGoodState state (arc_form state.header_numbers) numbers
unfolding par
arc_line [] state good fit = absurd fit
arc_line (u ∷ []) state good fit = absurd fit.2
arc_line (u ∷ v ∷ []) state good fit = absurd fit.2.2
arc_line (u ∷ v ∷ a ∷ []) state good fit = absurd fit.2.2.2
arc_line (u ∷ v ∷ a ∷ b ∷ []) state good fit = λ place next e.
    let n = node_count state.header_numbers in
    let kept = arc_kept n state.given next u v a b good.given (index_below u n fit.0 fit.1) (index_below v n fit.2.0 fit.2.1)
    (record { a_low = fit.2.2.0; a_high = fit.2.2.1; b_low = fit.2.2.2.0; b_high = fit.2.2.2.1 }) e in
    let differ = eqb-false state.counted_lines (arc_count state.header_numbers) place in
    record {
      header = good.header;
      given = kept.0;
      count = kept.1 ∙ ap (λ m. m + 1) good.count;
      few = (let few = good.few in omega (arith, few, differ));
    }
arc_line (u ∷ v ∷ a ∷ b ∷ n ∷ numbers) state good fit = absurd fit.2.2.2.2

abbrev IsGoodNetwork : Network → Type 0
IsGoodNetwork net = IsMonotone net × IsTextNetwork net

header_begins : (numbers : List ℤ) → Fits par_header numbers → IsGoodState (record { header_numbers = numbers; counted_lines = 0; given = record { interval = None; source = None; sink = None; sense = None; arcs = [] } })
header_begins numbers fit = record {
  header = fit;
  given = record { interval = tt; source = tt; sink = tt; apart = tt; arcs = All-nil (IsGivenArc (node_count numbers) Rising None None None) };
  count = refl;
  few = omega arith;
}

record IsGoodHeader (numbers : List ℤ) : Type 0 where
  pub nodes_low : 2 ≤ node_count numbers
  pub nodes_high : node_count numbers ≤ 1000
  pub arcs : arc_count numbers ≤ 10000

header_numbers : (numbers : List ℤ) → Fits par_header numbers → IsGoodHeader numbers
header_numbers [] fit = absurd fit
header_numbers (n ∷ []) fit = absurd fit.2
header_numbers (n ∷ m ∷ []) fit =
    let n_low = fit.0 in
    let n_high = fit.1 in
    let m_low = fit.2.0 in
    let m_high = fit.2.1 in
    record { nodes_low = omega (arith, ints, n_low, n_high); nodes_high = omega (arith, ints, n_low, n_high); arcs = omega (arith, ints, m_low, m_high) }
header_numbers (n ∷ m ∷ k ∷ numbers) fit = absurd fit.2.2

-- a network of good parts
network_is : (n : ℕ) (sense : Sense) (o : Option ParameterInterval) (source sink : Option ℕ) (arcs : List AffineArc) (net : Network) → 2 ≤ n → n ≤ 1000 → length arcs ≤ 10000
    → IfSome o IsTextInterval → IfSome source (λ s. s < n) → IfSome sink (λ t. t < n) → AreApart source sink → All (IsGivenArc n sense o source sink) arcs
    → network_by n sense o source sink arcs ≡ Ok net → IsGoodNetwork net
network_is n sense (Some interval) (Some s) (Some t) arcs net nodes_low nodes_high few good_interval source sink apart good e =
    let made : Network = record { nodes = n; source = s; sink = t; sense = sense; low = interval.low; high = interval.high; arcs = arcs } in
    let same : made ≡ net = cc in
    let monotone : IsMonotone made = record {
      source = source;
      sink = sink;
      apart = apart;
      low = good_interval.low.parameter;
      high = good_interval.high.parameter;
      interval = good_interval.below;
      each = λ k d lt. let arc = good k d lt in record { tail = arc.tail; head = arc.head; slope = arc.slope; low = arc.low; high = arc.high };
    } in
    let bounds : IsTextNetwork made = record {
      nodes_low = nodes_low;
      nodes_high = nodes_high;
      arc_count = few;
      low = good_interval.low;
      high = good_interval.high;
      arcs = λ k d lt. let arc = good k d lt in arc.bounds;
    } in
    subst IsGoodNetwork same (monotone, bounds)
network_is n sense (Some interval) (Some s) None arcs net nodes_low nodes_high few good_interval source sink apart good e = absurd cc
network_is n sense (Some interval) None sink arcs net nodes_low nodes_high few good_interval source good_sink apart good e = absurd cc
network_is n sense None source sink arcs net nodes_low nodes_high few good_interval good_source good_sink apart good e = absurd cc

end_is : (state : State Given) (net : Network) → IsGoodState state
    → network_by (node_count state.header_numbers) (sense_or_rising state.given.sense) state.given.interval state.given.source state.given.sink state.given.arcs ≡ Ok net → IsGoodNetwork net
end_is state net good e =
    let h = header_numbers state.header_numbers good.header in
    let count = good.count in
    let few = good.few in
    let arcs = h.arcs in
    let given = good.given in
    network_is (node_count state.header_numbers) (sense_or_rising state.given.sense) state.given.interval state.given.source state.given.sink state.given.arcs net h.nodes_low h.nodes_high
    (omega (arith, count, few, arcs)) given.interval given.source given.sink given.apart given.arcs e

par_invariant : IsInvariant par IsGoodState IsGoodNetwork
unfolding par
par_invariant = record {
  begins = header_begins;
  kept = λ state good. (λ numbers. arc_line numbers state good, (λ numbers. end_line Source numbers state good, (λ numbers. end_line Sink numbers state good, (λ numbers. interval_line numbers state good, (λ numbers. sense_line Rising numbers state good, (λ numbers. sense_line Falling numbers state good, tt))))));
  ends = λ state net good all. end_is state net good;
}

-- lines that are accepted give a monotone network within the limits of texts
pub accepted_lines_are_good : (lines : List Line) (read : Accepted Network) → problem_of_lines par lines ≡ Ok read → IsMonotone read.problem × IsTextNetwork read.problem
accepted_lines_are_good lines read e = lines_claims par IsGoodState IsGoodNetwork lines read par_invariant e

pub accepted_is_monotone : AcceptedIsMonotone
accepted_is_monotone text read e = (problem_claims par IsGoodState IsGoodNetwork text read par_invariant e).0

pub accepted_is_text_network : AcceptedIsTextNetwork
accepted_is_text_network text read e = (problem_claims par IsGoodState IsGoodNetwork text read par_invariant e).1
