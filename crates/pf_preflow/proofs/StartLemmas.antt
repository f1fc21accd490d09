-- The arcs out of the source are filled, those into it are emptied, and the source alone has a label.
use Rattle.std.proofs.Common.{◌≡◌, ◌≢◌, ℕ, zero, suc, ◌+◌, ◌*◌, ◌<◌, ◌≤◌, List, length, get_or, replicate, refl, Bool, true, false, cond, arith, sym, ◌∙◌, inl, inr}
use Rattle.std.specs.Prelude.{ℤ, ◌≤ℤ◌, pos, ◌==◌}
use Rattle.std.proofs.lemmas.Int.{ints}
use Rattle.std.proofs.lemmas.Bool.{cases_eq, eq-eqb, ne_eqb, eqb-true}
use Rattle.std.proofs.lemmas.List.{length-set, length-replicate, get_or-set_same, get_or-set_other}
use Rattle.pf_model.specs.Cut.{FlowNetwork, IsProper, at_arc, tail_at, head_at}
use Rattle.pf_model.specs.Flow.{IsWithin, IsPreflow}
use Rattle.pf_model.specs.Residual.{IsResidual, HasValidLabels}
use Rattle.pf_model.proofs.Sums.{sum_where_most}
use Rattle.pf_model.proofs.Start.{zeros_are_flow, at_none}
use Rattle.pf_preflow.specs.Engine.{AreLow}
use Rattle.pf_preflow.specs.Starting.{IsStarted, started, restarted, first_labels}

-- what such a list of numbers keeps of an earlier one; an arc from the source to itself carries what it may
record IsFilled (g : FlowNetwork) (flow after : List ℤ) : Type 0 where
  within : IsWithin g after
  out : (i : ℕ) → i < length g.ends → tail_at g i ≡ g.source → head_at g i ≢ g.source → at_arc after i ≡ at_arc g.capacities i
  into : (i : ℕ) → i < length g.ends → head_at g i ≡ g.source → tail_at g i ≢ g.source → at_arc after i ≡ pos 0
  other : (i : ℕ) → i < length g.ends → tail_at g i ≢ g.source → head_at g i ≢ g.source → at_arc after i ≡ at_arc flow i

more_in : (g : FlowNetwork) (flow after : List ℤ) (v i : ℕ) → IsWithin g flow → IsFilled g flow after → i < length g.ends → v ≢ g.source → head_at g i ≡ v → at_arc flow i ≤ℤ at_arc after i
more_in g flow after v i w o low apart to = elim (cases_eq (tail_at g i) g.source) [
  | inl from ↦ let e = o.out i low from (λ h. apart (sym to ∙ h)) in let high = w.high i low in omega (arith, ints, e, high)
  | inr from ↦ let e = o.other i low from (λ h. apart (sym to ∙ h)) in omega (arith, ints, e)
]

less_out : (g : FlowNetwork) (flow after : List ℤ) (v i : ℕ) → IsWithin g flow → IsFilled g flow after → i < length g.ends → v ≢ g.source → tail_at g i ≡ v → at_arc after i ≤ℤ at_arc flow i
less_out g flow after v i w o low apart from = elim (cases_eq (head_at g i) g.source) [
  | inl to ↦ let e = o.into i low to (λ h. apart (sym from ∙ h)) in let least = w.low i low in omega (arith, ints, e, least)
  | inr to ↦ let e = o.other i low (λ h. apart (sym from ∙ h)) to in omega (arith, ints, e)
]

opened_preflow : (g : FlowNetwork) (flow after : List ℤ) → IsPreflow g flow → IsFilled g flow after → IsPreflow g after
opened_preflow g flow after p o = record {
  within = o.within;
  given = λ v low a b.
      let old = p.given v low a b in
      let into = sum_where_most (λ arc. arc.1 == v) g.ends flow after (λ i h. more_in g flow after v i p.within o h.in_range a (eqb-true _ v h.passes)) in
      let out = sum_where_most (λ arc. arc.0 == v) g.ends after flow (λ i h. less_out g flow after v i p.within o h.in_range a (eqb-true _ v h.passes)) in
      omega (arith, ints, old, into, out);
}

-- ---- the labels

-- no label at all
abbrev no_labels : ℕ → List ℕ
no_labels n = replicate n 0

zero_label : (n v : ℕ) → get_or (no_labels n) v 0 ≡ 0
zero_label zero v = refl
zero_label (suc n) zero = refl
zero_label (suc n) (suc v) = zero_label n v

label_at_source : (n s v : ℕ) → s < n → v ≡ s → get_or (first_labels n s) v 0 ≡ n
label_at_source n s v low same =
    let long : length (no_labels n) ≡ n = length-replicate n 0 in
    let there : s < length (no_labels n) = omega (arith, low, long) in
    rw (same, get_or-set_same) refl

label_elsewhere : (n s v : ℕ) → v ≢ s → get_or (first_labels n s) v 0 ≡ 0
label_elsewhere n s v other = let ne : v ≢ s = other in rw get_or-set_other (zero_label n v)

label_most : (n s v : ℕ) → s < n → get_or (first_labels n s) v 0 ≤ n
label_most n s v low = elim (cases_eq v s) [
  | inl same ↦ let e = label_at_source n s v low same in omega (arith, e)
  | inr other ↦ let e = label_elsewhere n s v other in omega (arith, e)
]

none_from_source : (g : FlowNetwork) (flow after : List ℤ) (p q : ℕ) → IsFilled g flow after → IsResidual g after p q → p ≡ g.source → q ≢ g.source → ⊥
none_from_source g flow after p q o r here there = elim r.by [
  | inl along ↦ let room = along.room in let e = o.out r.arc r.in_range (along.from ∙ here) (λ h. there (sym along.to ∙ h)) in omega (arith, ints, e, room)
  | inr along ↦ let room = along.room in let e = o.into r.arc r.in_range (along.from ∙ here) (λ h. there (sym along.to ∙ h)) in omega (arith, ints, e, room)
]

opened_valid : (g : FlowNetwork) (flow after : List ℤ) → IsProper g → IsFilled g flow after → HasValidLabels g after (first_labels g.nodes g.source)
opened_valid g flow after proper o = record {
  full = length-set (no_labels g.nodes) g.source g.nodes ∙ length-replicate g.nodes 0;
  at_source = label_at_source g.nodes g.source g.source proper.source refl;
  at_sink = label_elsewhere g.nodes g.source g.sink (λ e. proper.apart (sym e));
  step = λ p q r. elim (cases_eq p g.source) [
    | inr other ↦ let e = label_elsewhere g.nodes g.source p other in omega (arith, e)
    | inl here ↦ elim (cases_eq q g.source) [
      | inl there ↦
          let e = label_at_source g.nodes g.source q proper.source there in
          let f = label_most g.nodes g.source p proper.source in
          omega (arith, e, f)
      | inr there ↦ absurd (none_from_source g flow after p q o r here there)
    ]
  ];
}

two_nodes : (n s t : ℕ) → s < n → t < n → s ≢ t → n + 2 ≤ 2 * n
two_nodes n s t a b c = omega (arith, c)

opened_low : (g : FlowNetwork) → IsProper g → AreLow g.nodes (first_labels g.nodes g.source)
opened_low g proper v =
    let a = label_most g.nodes g.source v proper.source in
    let b = two_nodes g.nodes g.source g.sink proper.source proper.sink proper.apart in
    omega (arith, a, b)

-- ---- the two ways of filling

filled_start : (g : FlowNetwork) (flow after : List ℤ) (labels : List ℕ) → IsProper g → IsPreflow g flow → IsFilled g flow after → labels ≡ first_labels g.nodes g.source → IsStarted g after labels
filled_start g flow after labels proper p o e = rw e (record {
  preflow = opened_preflow g flow after p o;
  valid = opened_valid g flow after proper o;
  low = opened_low g proper;
})

between : (x y low high : ℤ) → x ≡ y → low ≤ℤ y → y ≤ℤ high → (low ≤ℤ x) × (x ≤ℤ high)
between x y low high e a b = (omega (arith, ints, e, a), omega (arith, ints, e, b))

choice : (test : Bool) (a b low high : ℤ) → low ≤ℤ a → a ≤ℤ high → low ≤ℤ b → b ≤ℤ high → (low ≤ℤ cond test a b) × (cond test a b ≤ℤ high)
choice true a b low high h k m n = (h, k)
choice false a b low high h k m n = (m, n)

restarted_bounds : (g : FlowNetwork) (flow : List ℤ) (i : ℕ) → IsProper g → IsWithin g flow → i < length g.ends →
    (pos 0 ≤ℤ restarted g flow i) × (restarted g flow i ≤ℤ at_arc g.capacities i)
restarted_bounds g flow i proper w low =
    let cap = proper.low i low in
    let a = w.low i low in
    let b = w.high i low in
    let inner = choice (tail_at g i == g.source) (at_arc g.capacities i) (at_arc flow i) (pos 0) (at_arc g.capacities i) cap (omega (arith, ints)) a b in
    choice (head_at g i == g.source) (pos 0) _ (pos 0) (at_arc g.capacities i) (omega (arith, ints)) cap inner.0 inner.1

started_bounds : (g : FlowNetwork) (i : ℕ) → IsProper g → i < length g.ends → (pos 0 ≤ℤ started g i) × (started g i ≤ℤ at_arc g.capacities i)
started_bounds g i proper low =
    let cap = proper.low i low in
    choice (tail_at g i == g.source) (at_arc g.capacities i) (pos 0) (pos 0) (at_arc g.capacities i) cap (omega (arith, ints)) (omega (arith, ints)) cap

pub is_restarted : (g : FlowNetwork) (flow after : List ℤ) (labels : List ℕ) → IsProper g → IsPreflow g flow → length after ≡ length g.ends →
    ((i : ℕ) → i < length g.ends → at_arc after i ≡ restarted g flow i) → labels ≡ first_labels g.nodes g.source → IsStarted g after labels
is_restarted g flow after labels proper p full each e = filled_start g flow after labels proper p (record {
  within = record {
    full = full;
    low = λ i h. (between _ _ _ _ (each i h) (restarted_bounds g flow i proper p.within h).0 (restarted_bounds g flow i proper p.within h).1).0;
    high = λ i h. (between _ _ _ _ (each i h) (restarted_bounds g flow i proper p.within h).0 (restarted_bounds g flow i proper p.within h).1).1;
  };
  out = λ i h from to. each i h ∙ rw (ne_eqb (head_at g i) g.source to, eq-eqb (tail_at g i) g.source from) refl;
  into = λ i h to from. each i h ∙ rw (eq-eqb (head_at g i) g.source to) refl;
  other = λ i h from to. each i h ∙ rw (ne_eqb (head_at g i) g.source to, ne_eqb (tail_at g i) g.source from) refl;
}) e

empty_preflow : (g : FlowNetwork) → IsProper g → IsPreflow g (replicate (length g.ends) (pos 0))
empty_preflow g proper =
    let f = zeros_are_flow g (replicate (length g.ends) (pos 0)) refl proper.low in
    record { within = f.within; given = λ v low a b. let e = f.kept v low a b in omega (arith, ints, e) }

pub is_started : (g : FlowNetwork) (after : List ℤ) (labels : List ℕ) → IsProper g → length after ≡ length g.ends →
    ((i : ℕ) → i < length g.ends → at_arc after i ≡ started g i) → labels ≡ first_labels g.nodes g.source → IsStarted g after labels
is_started g after labels proper full each e = filled_start g (replicate (length g.ends) (pos 0)) after labels proper (empty_preflow g proper) (record {
  within = record {
    full = full;
    low = λ i h. (between _ _ _ _ (each i h) (started_bounds g i proper h).0 (started_bounds g i proper h).1).0;
    high = λ i h. (between _ _ _ _ (each i h) (started_bounds g i proper h).0 (started_bounds g i proper h).1).1;
  };
  out = λ i h from to. each i h ∙ rw (eq-eqb (tail_at g i) g.source from) refl;
  into = λ i h to from. each i h ∙ rw (ne_eqb (tail_at g i) g.source from) refl;
  other = λ i h from to. each i h ∙ (rw (ne_eqb (tail_at g i) g.source from) refl ∙ sym (at_none (length g.ends) i));
}) e

-- ---- one arc of the loop

-- the numbers before an index are as wanted, and those from it on as they were
pub record IsPartFilled (wanted : ℕ → ℤ) (old now : List ℤ) (i : ℕ) : Type 0 where
  pub full : length now ≡ length old
  pub before : (k : ℕ) → k < i → at_arc now k ≡ wanted k
  pub behind : (k : ℕ) → i ≤ k → at_arc now k ≡ at_arc old k
