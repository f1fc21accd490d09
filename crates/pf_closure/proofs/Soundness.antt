-- What certifies a ratio proves it best.
use Rattle.std.proofs.Common.{◌≡◌, ℕ, zero, suc, ◌<◌, ◌≤◌, List, [], ◌∷◌, length, take, refl, Bool, true, false, cond, not, ltb, arith, ap, sym, ◌∙◌, inl, inr}
use Rattle.std.specs.Prelude.{ℤ, ◌+ℤ◌, ◌-ℤ◌, ◌*ℤ◌, ◌≤ℤ◌, pos, map}
use Rattle.std.proofs.lemmas.Int.{ints, by_lt_z}
use Rattle.std.proofs.lemmas.Bool.{cases_Bool, cases_eq, both_ways}
use Rattle.std.proofs.lemmas.Bool.Decides.{nat_tests}
use Rattle.pf_model.specs.Fraction.{Fraction}
use Rattle.pf_model.specs.Cut.{FlowNetwork, has, at_arc, leaves, enters, sum_where}
use Rattle.pf_model.specs.Flow.{sum_out, sum_in}
use Rattle.pf_model.proofs.Integers.{mul_add}
use Rattle.pf_model.proofs.Sums.{Passes, sum_where_most, sum_where_empty, sum_where_tight}
use Rattle.pf_model.proofs.Balance.{excess_below, more_excess, across_is_excess, none_below_zero, inside}
use Rattle.pf_model.proofs.Duality.{leaves_parts, enters_parts, zeros, at_zeros, enters_by, sum_zeros, zeros_full}
use Rattle.pf_closure.specs.Problem.{ClosureProblem, IsClosureProblem, IsClosure, IsLeastRatio, needing_at, needed_at, sum_of_side, cost_of, weight_of}
use Rattle.pf_closure.specs.Certificate.{net_inflow, reduced_cost, KeepsRules, IsDropped, IsRouting, CertifiesRatio}
use Rattle.pf_closure.proofs.ItemSums.{sum_of_none, sum_of_suc, sum_of_whole, has_not}
use Rattle.pf_model.proofs.Facts.{not_false, not_true}

-- needs as arcs, with the items as nodes
abbrev pub needs_of : ClosureProblem → FlowNetwork
needs_of p = record { nodes = length p.costs; source = length p.costs; sink = length p.costs; ends = p.needs; capacities = [] }

-- what an item may still be brought
abbrev pub slack : ClosureProblem → Fraction → List ℤ → ℕ → ℤ
slack p x routing i = reduced_cost p x i -ℤ net_inflow p routing i

-- the same over the first items of a set
abbrev pub slack_below : ClosureProblem → Fraction → List ℤ → List Bool → ℕ → ℤ
slack_below p x routing set k =
    ((x.q *ℤ sum_of_side (take k set) (take k p.costs)) -ℤ (x.p *ℤ sum_of_side (take k set) (take k p.weights)))
    +ℤ excess_below (needs_of p) routing set k

slack_step : (here : Bool) (q p c w costs weights costs' weights' out into old new : ℤ) →
    costs' ≡ costs +ℤ cond here c (pos 0) → weights' ≡ weights +ℤ cond here w (pos 0) → new ≡ old +ℤ cond here (out -ℤ into) (pos 0) →
    ((q *ℤ costs') -ℤ (p *ℤ weights')) +ℤ new
    ≡ (((q *ℤ costs) -ℤ (p *ℤ weights)) +ℤ old) +ℤ cond here (((q *ℤ c) -ℤ (p *ℤ w)) -ℤ (into -ℤ out)) (pos 0)
slack_step true q p c w costs weights costs' weights' out into old new a b d =
    let e = ap (λ n. q *ℤ n) a ∙ mul_add q costs c in
    let f = ap (λ n. p *ℤ n) b ∙ mul_add p weights w in
    omega (arith, ints, e, f, d)
slack_step false q p c w costs weights costs' weights' out into old new a b d =
    let e = ap (λ n. q *ℤ n) a ∙ mul_add q costs (pos 0) in
    let f = ap (λ n. p *ℤ n) b ∙ mul_add p weights (pos 0) in
    let none : (k : ℤ) → k *ℤ pos 0 ≡ pos 0 = λ k. omega (arith, ints) in
    omega (arith, ints, e, f, d, none q, none p)

slack_more : (p : ClosureProblem) (x : Fraction) (routing : List ℤ) (set : List Bool) (k : ℕ) → IsClosureProblem p → length set ≡ length p.costs → k < length p.costs →
    slack_below p x routing set (suc k) ≡ slack_below p x routing set k +ℤ cond (has set k) (slack p x routing k) (pos 0)
slack_more p x routing set k problem full low =
    let wide = problem.full in
    slack_step (has set k) x.q x.p (at_arc p.costs k) (at_arc p.weights k) _ _ _ _ (sum_out p.needs routing k) (sum_in p.needs routing k) _ _
    (sum_of_suc set p.costs k (omega arith) (omega arith)) (sum_of_suc set p.weights k (omega arith) (omega arith))
    (more_excess (needs_of p) routing set k (has set k) refl)

start_step : (q p c w e : ℤ) → c ≡ pos 0 → w ≡ pos 0 → e ≡ pos 0 → ((q *ℤ c) -ℤ (p *ℤ w)) +ℤ e ≡ pos 0
start_step q p c w e a b d =
    let none : (k : ℤ) → k *ℤ pos 0 ≡ pos 0 = λ k. omega (arith, ints) in
    rw (a, b, d) (omega (arith, ints, none q, none p))

none_less : (n : ℕ) (v : ℤ) → cond (ltb n 0) v (pos 0) ≡ pos 0
none_less n v =
    let off : ltb n 0 ≡ false = grind (arith, nat_tests) in
    rw off refl

slack_start : (p : ClosureProblem) (x : Fraction) (routing : List ℤ) (set : List Bool) → slack_below p x routing set 0 ≡ pos 0
slack_start p x routing set =
    start_step x.q x.p (sum_of_side (take 0 set) (take 0 p.costs)) (sum_of_side (take 0 set) (take 0 p.weights)) (excess_below (needs_of p) routing set 0)
    (sum_of_none set p.costs) (sum_of_none set p.weights) (none_below_zero (needs_of p) routing set ∙ none_less (length p.costs) _)

low_step : (here : Bool) (old s new : ℤ) → new ≡ old +ℤ cond here s (pos 0) → pos 0 ≤ℤ old → pos 0 ≤ℤ s → pos 0 ≤ℤ new
low_step true old s new e h l = omega (arith, ints)
low_step false old s new e h l = omega (arith, ints)

abbrev pub IsWithinSlack : ClosureProblem → Fraction → List ℤ → Type 0
IsWithinSlack p x routing = (i : ℕ) → i < length p.costs → net_inflow p routing i ≤ℤ reduced_cost p x i

-- the slacks of a set are not below 0
slack_low : (p : ClosureProblem) (x : Fraction) (routing : List ℤ) (set : List Bool) → IsClosureProblem p → length set ≡ length p.costs → IsWithinSlack p x routing →
    (k : ℕ) → k ≤ length p.costs → pos 0 ≤ℤ slack_below p x routing set k
slack_low p x routing set problem full within zero low = let e = slack_start p x routing set in omega (arith, ints, e)
slack_low p x routing set problem full within (suc k) low =
    let h = within k (omega (arith, low)) in
    low_step (has set k) _ (slack p x routing k) _ (slack_more p x routing set k problem full (omega (arith, low)))
    (slack_low p x routing set problem full within k (omega (arith, low))) (omega (arith, ints, h))

-- and where all of them together are 0, each is
tight_here : (here : Bool) (old s new : ℤ) → new ≡ old +ℤ cond here s (pos 0) → pos 0 ≤ℤ old → new ≤ℤ pos 0 → here ≡ true → s ≤ℤ pos 0
tight_here true old s new e h l held = omega (arith, ints)
tight_here false old s new e h l held = cc

tight_before : (here : Bool) (old s new : ℤ) → new ≡ old +ℤ cond here s (pos 0) → pos 0 ≤ℤ s → new ≤ℤ pos 0 → old ≤ℤ pos 0
tight_before true old s new e h l = omega (arith, ints)
tight_before false old s new e h l = omega (arith, ints)

slack_tight : (p : ClosureProblem) (x : Fraction) (routing : List ℤ) (set : List Bool) → IsClosureProblem p → length set ≡ length p.costs → IsWithinSlack p x routing →
    (k : ℕ) → k ≤ length p.costs → slack_below p x routing set k ≤ℤ pos 0 → (i : ℕ) → i < k → has set i ≡ true → slack p x routing i ≤ℤ pos 0
slack_tight p x routing set problem full within zero low t i less h = absurd (omega (arith, less))
slack_tight p x routing set problem full within (suc k) low t i less h =
    let more = slack_more p x routing set k problem full (omega (arith, low)) in
    let fits = within k (omega (arith, low)) in
    let before = slack_low p x routing set problem full within k (omega (arith, low)) in
    elim (cases_eq i k) [
      | inl same ↦ rw same (tight_here (has set k) _ (slack p x routing k) _ more before t (rw same at h))
      | inr other ↦
          slack_tight p x routing set problem full within k (omega (arith, low))
          (tight_before (has set k) _ (slack p x routing k) _ more (omega (arith, ints, fits)) t) i (omega (arith, less, other)) h
    ]

-- where each is 0, so are all of them together
none_step : (here : Bool) (old s new : ℤ) → new ≡ old +ℤ cond here s (pos 0) → old ≤ℤ pos 0 → (here ≡ true → s ≤ℤ pos 0) → new ≤ℤ pos 0
none_step true old s new e h l = let t : s ≤ℤ pos 0 = l refl in omega (arith, ints)
none_step false old s new e h l = omega (arith, ints)

slack_none : (p : ClosureProblem) (x : Fraction) (routing : List ℤ) (set : List Bool) → IsClosureProblem p → length set ≡ length p.costs →
    ((i : ℕ) → i < length p.costs → has set i ≡ true → slack p x routing i ≤ℤ pos 0) →
    (k : ℕ) → k ≤ length p.costs → slack_below p x routing set k ≤ℤ pos 0
slack_none p x routing set problem full each zero low = let e = slack_start p x routing set in omega (arith, ints, e)
slack_none p x routing set problem full each (suc k) low =
    none_step (has set k) _ (slack p x routing k) _ (slack_more p x routing set k problem full (omega (arith, low)))
    (slack_none p x routing set problem full each k (omega (arith, low))) (each k (omega (arith, low)))

-- what needs bring into a set and take out of it
abbrev pub carried_in : ClosureProblem → List ℤ → List Bool → ℤ
carried_in p routing set = sum_where (enters set) p.needs routing

abbrev pub carried_out : ClosureProblem → List ℤ → List Bool → ℤ
carried_out p routing set = sum_where (leaves set) p.needs routing

pub slack_whole : (p : ClosureProblem) (x : Fraction) (routing : List ℤ) (set : List Bool) → IsClosureProblem p → length set ≡ length p.costs →
    slack_below p x routing set (length p.costs)
    ≡ ((x.q *ℤ cost_of p set) -ℤ (x.p *ℤ weight_of p set)) +ℤ (carried_out p routing set -ℤ carried_in p routing set)
slack_whole p x routing set problem full =
    let wide = problem.full in
    let e = ap (λ n. x.q *ℤ n) (sum_of_whole set p.costs (length p.costs) (omega arith) (omega arith)) in
    let f = ap (λ n. x.p *ℤ n) (sum_of_whole set p.weights (length p.costs) (omega arith) (omega arith)) in
    let g = across_is_excess (needs_of p) routing set full in
    omega (arith, ints, e, f, g)

-- no need leads out of a closure
out_none : (p : ClosureProblem) (routing : List ℤ) (set : List Bool) → IsClosure p set → carried_out p routing set ≡ pos 0
out_none p routing set c =
    let clash : (k : ℕ) → Passes (leaves set) p.needs k → ⊥ = λ k h.
    let parts = leaves_parts set _ h.passes in
    both_ways _ parts.1 (c.closed k h.in_range parts.0) in
    let high = sum_where_most (leaves set) p.needs routing [] (λ k h. absurd (clash k h)) in
    let low = sum_where_most (leaves set) p.needs [] routing (λ k h. absurd (clash k h)) in
    omega (arith, ints, high, low, sum_where_empty (leaves set) p.needs)

in_low : (p : ClosureProblem) (routing : List ℤ) (set : List Bool) → IsRouting p routing → pos 0 ≤ℤ carried_in p routing set
in_low p routing set r =
    let low = sum_where_most (enters set) p.needs [] routing (λ k h. r.low k h.in_range) in
    omega (arith, ints, low, sum_where_empty (enters set) p.needs)

-- so no closure has a smaller ratio
pub ratio_least : (p : ClosureProblem) (x : Fraction) (routing : List ℤ) (set : List Bool) → IsClosureProblem p → IsRouting p routing → IsWithinSlack p x routing →
    IsClosure p set → (x.p *ℤ weight_of p set) ≤ℤ (x.q *ℤ cost_of p set)
ratio_least p x routing set problem r within c =
    let all = slack_low p x routing set problem c.full within (length p.costs) (omega arith) in
    let e = slack_whole p x routing set problem c.full in
    omega (arith, ints, all, e, out_none p routing set c, in_low p routing set r)

-- what is not in a closure of this ratio keeps the rules
in_tight : (p : ClosureProblem) (routing : List ℤ) (set : List Bool) → IsRouting p routing → carried_in p routing set ≤ℤ pos 0 →
    (k : ℕ) → Passes (enters set) p.needs k → at_arc routing k ≤ℤ pos 0
in_tight p routing set r most k h =
    let t = sum_where_tight (enters set) p.needs (zeros p.needs) routing (zeros_full p.needs) r.full
    (λ j w. rw at_zeros (r.low j w.in_range)) (omega (arith, ints, most, sum_zeros (enters set) p.needs)) k h in
    omega (arith, ints, t, at_zeros p.needs k)

pub complement_keeps : (p : ClosureProblem) (x : Fraction) (routing : List ℤ) (set : List Bool) → IsClosureProblem p → IsRouting p routing → IsWithinSlack p x routing →
    IsClosure p set → x.q *ℤ cost_of p set ≡ x.p *ℤ weight_of p set → KeepsRules p x routing (map not set)
complement_keeps p x routing set problem r within c same =
    let full = c.full in
    let all = slack_low p x routing set problem c.full within (length p.costs) (omega arith) in
    let e = slack_whole p x routing set problem c.full in
    let out = out_none p routing set c in
    let into = in_low p routing set r in
    let none : carried_in p routing set ≤ℤ pos 0 = omega (arith, ints, all, e, out, into, same) in
    let tight = slack_tight p x routing set problem c.full within (length p.costs) (omega arith) (omega (arith, ints, e, out, into, same)) in
    record {
      strict = λ i low less. has_not set i (omega (arith, low)) ∙ elim (cases_Bool (has set i)) [
        | inl held ↦ absurd (let t = tight i low held in omega (arith, ints, t, less))
        | inr off ↦ not_false (has set i) off
      ];
      needing = λ k low h.
          let u : needing_at p k < length set = let w = problem.needing k low in omega (arith, w) in
          let v : needed_at p k < length set = let w = problem.needed k low in omega (arith, w) in
          let off = not_true _ (sym (has_not set _ v) ∙ h) in
          has_not set _ u ∙ elim (cases_Bool (has set (needing_at p k))) [
            | inl held ↦ absurd (both_ways _ off (c.closed k low held))
            | inr out ↦ not_false _ out
          ];
      carrying = λ k low h more.
          let u : needing_at p k < length set = let w = problem.needing k low in omega (arith, w) in
          let v : needed_at p k < length set = let w = problem.needed k low in omega (arith, w) in
          let off = not_true _ (sym (has_not set _ u) ∙ h) in
          has_not set _ v ∙ elim (cases_Bool (has set (needed_at p k))) [
            | inl held ↦ absurd
                (let t = in_tight p routing set r none k (record { in_range = low; passes = enters_by set _ held off }) in
                omega (arith, ints, t, more))
            | inr out ↦ not_false _ out
          ];
    }

-- so it is contained in the items that are not dropped
pub kept_by_closure : (p : ClosureProblem) (x : Fraction) (routing : List ℤ) (set dropped : List Bool) → IsClosureProblem p → IsRouting p routing → IsWithinSlack p x routing →
    IsDropped p x routing dropped → IsClosure p set → x.q *ℤ cost_of p set ≡ x.p *ℤ weight_of p set → (i : ℕ) → has set i ≡ true → has dropped i ≡ false
kept_by_closure p x routing set dropped problem r within d c same i h =
    let low = inside set i h in
    elim (cases_Bool (has dropped i)) [
      | inl held ↦
          let e = d.least (map not set) (complement_keeps p x routing set problem r within c same) i held in
          absurd (both_ways _ (not_true _ (sym (has_not set i low) ∙ e)) h)
      | inr off ↦ off
    ]

-- the chosen items are a closure of this ratio
chosen_off : (p : ClosureProblem) (x : Fraction) (chosen : List Bool) (routing : List ℤ) → (c : CertifiesRatio p x chosen routing) → (i : ℕ) → has chosen i ≡ true →
    has c.dropped i ≡ false
chosen_off p x chosen routing c i h =
    let full = c.full in
    let low = inside chosen i h in
    not_true _ (sym (c.rest i (omega (arith, low))) ∙ h)

chosen_from : (p : ClosureProblem) (x : Fraction) (chosen : List Bool) (routing : List ℤ) → (c : CertifiesRatio p x chosen routing) → (i : ℕ) → i < length p.costs →
    has c.dropped i ≡ false → has chosen i ≡ true
chosen_from p x chosen routing c i low off = c.rest i low ∙ not_false _ off

dropped_from : (p : ClosureProblem) (x : Fraction) (chosen : List Bool) (routing : List ℤ) → (c : CertifiesRatio p x chosen routing) → (i : ℕ) → i < length p.costs →
    has chosen i ≡ false → has c.dropped i ≡ true
dropped_from p x chosen routing c i low off = elim (cases_Bool (has c.dropped i)) [
  | inl held ↦ held
  | inr out ↦ absurd (both_ways _ off (chosen_from p x chosen routing c i low out))
]

chosen_closed : (p : ClosureProblem) (x : Fraction) (chosen : List Bool) (routing : List ℤ) → IsClosureProblem p → CertifiesRatio p x chosen routing → IsClosure p chosen
chosen_closed p x chosen routing problem c = record {
  full = c.full;
  closed = λ k low h.
      chosen_from p x chosen routing c _ (problem.needed k low) (elim (cases_Bool (has c.dropped (needed_at p k))) [
        | inl held ↦ absurd (both_ways _ (chosen_off p x chosen routing c _ h) (c.dropped_is.rules.needing k low held))
        | inr off ↦ off
      ]);
}

chosen_ratio : (p : ClosureProblem) (x : Fraction) (chosen : List Bool) (routing : List ℤ) → IsClosureProblem p → CertifiesRatio p x chosen routing →
    x.q *ℤ cost_of p chosen ≡ x.p *ℤ weight_of p chosen
chosen_ratio p x chosen routing problem c =
    let closed = chosen_closed p x chosen routing problem c in
    let least = ratio_least p x routing chosen problem c.routing_is c.within closed in
    let most = slack_none p x routing chosen problem c.full
    (λ i low h. by_lt_z (net_inflow p routing i) (reduced_cost p x i)
    (λ less. absurd (both_ways _ (chosen_off p x chosen routing c i h) (c.dropped_is.rules.strict i low less)))
    (λ fine. omega (arith, ints, fine))) (length p.costs) (omega arith) in
    let e = slack_whole p x routing chosen problem c.full in
    let into = sum_where_most (enters chosen) p.needs routing []
    (λ k h.
    let parts = enters_parts chosen _ h.passes in
    by_lt_z (pos 0) (at_arc routing k)
    (λ more. absurd (both_ways _ (chosen_off p x chosen routing c _ parts.0)
    (c.dropped_is.rules.carrying k h.in_range (dropped_from p x chosen routing c _ (problem.needing k h.in_range) parts.1) more)))
    (λ fine. fine)) in
    omega (arith, ints, least, most, e, into, sum_where_empty (enters chosen) p.needs, out_none p routing chosen closed)

pub certificate_proves : (p : ClosureProblem) (x : Fraction) (chosen : List Bool) (routing : List ℤ) → IsClosureProblem p →
    CertifiesRatio p x chosen routing → IsLeastRatio p x chosen
certificate_proves p x chosen routing problem c = record {
  parameter = c.parameter;
  closure = chosen_closed p x chosen routing problem c;
  some = c.some;
  ratio = chosen_ratio p x chosen routing problem c;
  least = λ other closed some. ratio_least p x routing other problem c.routing_is c.within closed;
  greatest = λ other closed some same i h.
      let full = closed.full in
      let low = inside other i h in
      chosen_from p x chosen routing c i (omega (arith, low))
      (kept_by_closure p x routing other c.dropped problem c.routing_is c.within c.dropped_is closed same i h);
}
