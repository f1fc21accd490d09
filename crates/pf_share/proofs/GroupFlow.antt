-- Each greatest flow of the network of all groups certifies the levels and groups, where some numbers do.
use Rattle.std.proofs.Common.{◌≡◌, ◌≢◌, ℕ, suc, ◌+◌, ◌<◌, ◌≤◌, List, ◌++◌, length, take, Bool, true, false, cond, not, arith, ap, sym, ◌∙◌, inl, inr}
use Rattle.std.specs.Prelude.{ℤ, ◌*ℤ◌, ◌≤ℤ◌, pos, nat_abs, nat_lt, ◌==◌, if◌then◌else◌}
use Rattle.std.proofs.lemmas.Int.{ints}
use Rattle.std.proofs.lemmas.Bool.{cases_Bool, cases_eq, both_ways}
use Rattle.std.proofs.lemmas.Bool.Decides.{nat_tests}
use Rattle.std.proofs.lemmas.List.{length-append, get_or_append_left, get_or-append-add, get_or-take, length-take-le}
use Rattle.pf_model.specs.Cut.{FlowNetwork, IsProper, IsCut, has, at_arc}
use Rattle.pf_model.specs.Flow.{IsWithin, IsFlow, IsGreatest, sum_out}
use Rattle.pf_model.proofs.Duality.{IsTight, tight_from_value, value_from_tight}
use Rattle.pf_share.specs.Problem.{ShareProblem, IsShareProblem, tail_of, head_of}
use Rattle.pf_share.specs.Certificate.{SharesAnswer, group_at, node_level, rank_of, rank_at, is_lower, entering, CertifiesShares}
use Rattle.pf_share.specs.Grouped.{tabled, group_problem, one, answer_of}
use Rattle.pf_share.proofs.Counting.{length_tabled, at_tabled}
use Rattle.pf_share.proofs.NetArcs.{at_net, arcs_full, each_arc, ends_many, flow_capacity, source_capacity}
use Rattle.pf_share.proofs.Soundness.{abs_of}
use Rattle.pf_share.proofs.GroupNet.{AreFine, fine_levels, proper_one, tight_one, is_problem, ends_there, end_is, capacity_here, out_there, in_there, supply_apart, whole_low}
use Rattle.pf_share.proofs.ReadOff.{arc_filled, source_filled, alone, in_alone, alone_cut, off_by, on_by, lower_told, rank_none, rank_some}
use Rattle.pf_model.proofs.Facts.{not_lower}

-- ranks of groups

rank_most : (count group : ℕ) → group ≤ count → rank_of count group ≤ suc count
rank_most count group h = elim (cases_eq group 0) [
  | inl none ↦ (let e = rank_none count group none in omega (arith, e))
  | inr some ↦ (let e = rank_some count group some in omega (arith, e, h))
]

-- a group that is lower than another is not group 0
lower_some : (count x y : ℕ) → y ≤ count → rank_of count x < rank_of count y → x ≢ 0
lower_some count x y low less none = let e = rank_none count x none in let most = rank_most count y low in absurd (omega (arith, e, most, less))

-- group 0 is higher than all others
lower_than_none : (count x y : ℕ) → x ≤ count → x ≢ 0 → y ≡ 0 → rank_of count x < rank_of count y
lower_than_none count x y low some none = let e = rank_none count y none in let f = rank_some count x some in omega (arith, e, f, low)

is_lower_of : (x y : ℕ) → x < y → nat_lt x y ≡ true
is_lower_of x y h = grind (arith, nat_tests)

not_lower_of : (x y : ℕ) → y ≤ x → nat_lt x y ≡ false
not_lower_of x y h = grind (arith, nat_tests)

not_zero : (n : ℕ) → n ≢ 0 → not (n == 0) ≡ true
not_zero n h = grind (arith, nat_tests)

is_zero : (n : ℕ) → not (n == 0) ≡ false → n ≡ 0
is_zero n h = grind (arith, nat_tests)

some_of : (n : ℕ) → not (n == 0) ≡ true → n ≢ 0
some_of n h = grind (arith, nat_tests)

-- all nodes of the groups but group 0, with the source
abbrev lower_nodes : ShareProblem → List ℤ → List Bool
lower_nodes p groups = tabled (λ v. if v == p.nodes then true else not (group_at groups v == 0)) (suc p.nodes)

in_lower : (p : ShareProblem) (groups : List ℤ) (v : ℕ) → v < p.nodes → has (lower_nodes p groups) v ≡ not (group_at groups v == 0)
in_lower p groups v low =
    let apart : v ≢ p.nodes = λ e. absurd (omega (arith, e, low)) in
    at_tabled (λ u. if u == p.nodes then true else not (group_at groups u == 0)) false (suc p.nodes) v (omega (arith, low))
    ∙ ap (λ b. cond b true (not (group_at groups v == 0))) (off_by v p.nodes apart)

source_in_lower : (p : ShareProblem) (groups : List ℤ) → has (lower_nodes p groups) p.nodes ≡ true
source_in_lower p groups =
    at_tabled (λ u. if u == p.nodes then true else not (group_at groups u == 0)) false (suc p.nodes) p.nodes (omega arith)
    ∙ ap (λ b. cond b true (not (group_at groups p.nodes == 0))) (on_by p.nodes)

module _ (p : ShareProblem) (a : SharesAnswer) (h : IsShareProblem p) (c : CertifiesShares p a) where
  abbrev g : ShareProblem
  g = group_problem p a.levels a.groups

  abbrev net : FlowNetwork
  net = at_net g one

  abbrev count : ℕ
  count = length a.levels

  abbrev rank : ℕ → ℕ
  rank v = rank_at a.levels a.groups v

  fine : AreFine p a.levels a.groups
  fine = fine_levels p a c

  good : IsShareProblem g
  good = is_problem p a.levels a.groups h fine

  pub proper : IsProper net
  proper = proper_one g good

  many : length g.ends ≡ length p.ends
  many = ends_there p a.levels a.groups h fine

  -- the certificate's numbers, with all of each supply after them
  abbrev whole : List ℤ
  whole = a.flow ++ g.weights

  whole_full : length whole ≡ length p.ends + p.nodes
  whole_full =
      let e = length-append a.flow g.weights in
      let f = good.weights_full in
      let k = c.flow.full in
      omega (arith, e, f, k)

  at_first : (i : ℕ) → i < length p.ends → at_arc whole i ≡ at_arc a.flow i
  at_first i low = let k = c.flow.full in get_or_append_left a.flow g.weights (pos 0) i (omega (arith, low, k))

  at_second : (v : ℕ) → at_arc whole (length p.ends + v) ≡ at_arc g.weights v
  at_second v = sym (ap (λ n. at_arc whole (n + v)) c.flow.full) ∙ get_or-append-add a.flow g.weights v (pos 0)

  at_fed : (v : ℕ) → at_arc whole (length g.ends + v) ≡ at_arc g.weights v
  at_fed v = ap (λ n. at_arc whole (n + v)) many ∙ at_second v

  group_within : (v : ℕ) → v < p.nodes → group_at a.groups v ≤ count
  group_within v low = abs_of (at_arc a.groups v) count (c.groups.low v low) (c.groups.high v low)

  -- an arc to a higher group, one to a lower group, and others
  capacity_up : (i : ℕ) → i < length p.ends → rank (tail_of p i) ≤ rank (head_of p i) →
      at_arc g.capacities i ≡ at_arc p.capacities i *ℤ (node_level a.levels a.groups (tail_of p i)).q
  capacity_up i low up =
      capacity_here p a.levels a.groups h fine i low
      ∙ ap (λ b. cond b (pos 0) (at_arc p.capacities i *ℤ (node_level a.levels a.groups (tail_of p i)).q)) (not_lower_of (rank (head_of p i)) (rank (tail_of p i)) up)

  capacity_down : (i : ℕ) → i < length p.ends → rank (head_of p i) < rank (tail_of p i) → at_arc g.capacities i ≡ pos 0
  capacity_down i low down =
      capacity_here p a.levels a.groups h fine i low
      ∙ ap (λ b. cond b (pos 0) (at_arc p.capacities i *ℤ (node_level a.levels a.groups (tail_of p i)).q)) (is_lower_of (rank (head_of p i)) (rank (tail_of p i)) down)

  head_up : (i : ℕ) → i < length p.ends → rank (tail_of p i) < rank (head_of p i) → head_of g i ≡ p.sink
  head_up i low up =
      ap (λ (e : ℕ × ℕ). e.1) (end_is p a.levels a.groups h fine i low)
      ∙ ap (λ b. cond b p.sink (head_of p i)) (is_lower_of (rank (tail_of p i)) (rank (head_of p i)) up)

  head_stays : (i : ℕ) → i < length p.ends → rank (head_of p i) ≤ rank (tail_of p i) → head_of g i ≡ head_of p i
  head_stays i low down =
      ap (λ (e : ℕ × ℕ). e.1) (end_is p a.levels a.groups h fine i low)
      ∙ ap (λ b. cond b p.sink (head_of p i)) (not_lower_of (rank (tail_of p i)) (rank (head_of p i)) down)

  tail_stays : (i : ℕ) → i < length p.ends → tail_of g i ≡ tail_of p i
  tail_stays i low = ap (λ (e : ℕ × ℕ). e.0) (end_is p a.levels a.groups h fine i low)

  first_high : (i : ℕ) → i < length p.ends → at_arc whole i ≤ℤ at_arc g.capacities i
  first_high i low =
      let e = at_first i low in
      elim (cases_Bool (is_lower a.levels a.groups (head_of p i) (tail_of p i))) [
        | inl down ↦
            (let less = lower_told (rank (head_of p i)) (rank (tail_of p i)) down in
            let f = c.flow.downward i low less in
            let k = capacity_down i low less in
            omega (arith, ints, e, f, k))
        | inr up ↦
            (let f = c.flow.high i low in
            let k = capacity_up i low (not_lower (rank (head_of p i)) (rank (tail_of p i)) up) in
            omega (arith, ints, e, f, k))
      ]

  whole_within : IsWithin net whole
  whole_within =
      let all = arcs_full g good in
      let length_is = ends_many g one good in
      let L : ℕ → Type 0 = λ k. pos 0 ≤ℤ at_arc whole k in
      let H : ℕ → Type 0 = λ k. at_arc whole k ≤ℤ at_arc net.capacities k in
      let there = many in
      record {
        full = whole_full ∙ sym (length_is ∙ ap (λ n. n + p.nodes) many);
        low = λ i low. each_arc g L good
            (λ k less. let e = at_first k (omega (arith, less, there)) in let f = c.flow.low k (omega (arith, less, there)) in omega (arith, ints, e, f))
            (λ v less. let e = at_fed v in let f = good.weight_low v less in omega (arith, ints, e, f)) i (omega (arith, low, length_is, all));
        high = λ i low. each_arc g H good
            (λ k less. let e = first_high k (omega (arith, less, there)) in let f = flow_capacity g one k good less in omega (arith, ints, e, f))
            (λ v less. let e = at_fed v in let f = source_capacity g one v good less in omega (arith, ints, e, f)) i (omega (arith, low, length_is, all));
      }

  whole_flow : IsFlow net whole
  whole_flow = record {
    within = whole_within;
    kept = λ v low off apart.
        let less : v < p.nodes = omega (arith, low, off) in
        let o = out_there p a.levels a.groups h fine whole a.flow v less whole_full c.flow.full at_first in
        let n = in_there p a.levels a.groups h fine whole a.flow v less apart whole_full c.flow.full at_first in
        let s = at_second v in
        let w = supply_apart p a.levels a.groups h fine v less apart in
        let k = c.flow.kept v less apart in
        omega (arith, ints, o, n, s, w, k);
  }

  -- it is tight beside the source alone, and beside group 0
  alone_tight : IsTight net whole (alone g)
  alone_tight =
      let there = many in
      tight_one g whole (alone g) good (in_alone g p.nodes (omega arith) ∙ on_by p.nodes)
      (λ i low inner outer.
      let t = good.tails i low in
      let off : tail_of g i ≢ p.nodes = λ e. absurd (omega (arith, e, t)) in
      absurd (both_ways _ (in_alone g (tail_of g i) (omega (arith, t)) ∙ off_by (tail_of g i) p.nodes off) inner))
      (λ i low inner outer.
      let t = good.heads i low in
      let off : head_of g i ≢ p.nodes = λ e. absurd (omega (arith, e, t)) in
      absurd (both_ways _ (in_alone g (head_of g i) (omega (arith, t)) ∙ off_by (head_of g i) p.nodes off) inner))
      (λ v low. let e = at_fed v in omega (arith, ints, e))

  abbrev lower : List Bool
  lower = lower_nodes p a.groups

  lower_is : (v : ℕ) → v < p.nodes → has lower v ≡ not (group_at a.groups v == 0)
  lower_is v low = in_lower p a.groups v low

  sink_out : has lower p.sink ≡ false
  sink_out =
      let e = c.groups.sink in
      lower_is p.sink h.sink ∙ ap (λ n. not (nat_abs n == 0)) e

  lower_cut : IsCut net lower
  lower_cut = record {
    full = length_tabled (λ v. if v == p.nodes then true else not (group_at a.groups v == 0)) (suc p.nodes);
    with_source = source_in_lower p a.groups;
    without_sink = sink_out;
  }

  held_some : (v : ℕ) → v < p.nodes → has lower v ≡ true → group_at a.groups v ≢ 0
  held_some v low held = some_of (group_at a.groups v) (sym (lower_is v low) ∙ held)

  out_none : (v : ℕ) → v < p.nodes → has lower v ≡ false → group_at a.groups v ≡ 0
  out_none v low out = is_zero (group_at a.groups v) (sym (lower_is v low) ∙ out)

  lower_tight : IsTight net whole lower
  lower_tight =
      let there = many in
      tight_one g whole lower good (source_in_lower p a.groups)
      (λ i low inner outer.
      let less : i < length p.ends = omega (arith, low, there) in
      let e = at_first i less in
      let t = h.tails i less in
      let w = h.heads i less in
      elim (cases_Bool (is_lower a.levels a.groups (tail_of p i) (head_of p i))) [
        | inl up ↦
            (let rise = lower_told (rank (tail_of p i)) (rank (head_of p i)) up in
            let f = c.flow.upward i less rise in
            let k = capacity_up i less (omega (arith, rise)) in
            omega (arith, ints, e, f, k))
        | inr stays ↦
            (let fall = not_lower (rank (tail_of p i)) (rank (head_of p i)) stays in
            let none = out_none (head_of p i) w (sym (ap (has lower) (head_stays i less fall)) ∙ outer) in
            let some = held_some (tail_of p i) t (sym (ap (has lower) (tail_stays i less)) ∙ inner) in
            let rise = lower_than_none count (group_at a.groups (tail_of p i)) (group_at a.groups (head_of p i)) (group_within (tail_of p i) t) some none in
            absurd (omega (arith, rise, fall)))
      ])
      (λ i low inner outer.
      let less : i < length p.ends = omega (arith, low, there) in
      let e = at_first i less in
      let t = h.tails i less in
      let w = h.heads i less in
      elim (cases_Bool (is_lower a.levels a.groups (tail_of p i) (head_of p i))) [
        | inl up ↦
            (let rise = lower_told (rank (tail_of p i)) (rank (head_of p i)) up in
            absurd (both_ways _ (ap (has lower) (head_up i less rise) ∙ sink_out) inner))
        | inr stays ↦
            (let fall = not_lower (rank (tail_of p i)) (rank (head_of p i)) stays in
            let some = held_some (head_of p i) w (sym (ap (has lower) (head_stays i less fall)) ∙ inner) in
            let none = out_none (tail_of p i) t (sym (ap (has lower) (tail_stays i less)) ∙ outer) in
            let rise = lower_than_none count (group_at a.groups (head_of p i)) (group_at a.groups (tail_of p i)) (group_within (head_of p i) w) some none in
            let f = c.flow.downward i less rise in
            omega (arith, ints, e, f))
      ])
      (λ v low. let e = at_fed v in omega (arith, ints, e))

  -- so each greatest flow is tight there
  best_tight : (flow : List ℤ) (side : List Bool) → IsGreatest net flow → IsCut net side → IsTight net whole side → IsTight net flow side
  best_tight flow side best cut tight =
      let e = value_from_tight net whole side whole_flow cut tight in
      let more = best.greatest whole whole_flow in
      tight_from_value net flow side proper best.flow_is cut (omega (arith, ints, e, more))

  module _ (flow first : List ℤ) (best : IsGreatest net flow) (e : first ≡ take (length p.ends) flow) where
    flow_full : length flow ≡ length p.ends + p.nodes
    flow_full = best.flow_is.within.full ∙ ends_many g one good ∙ ap (λ n. n + p.nodes) many

    first_full : length first ≡ length p.ends
    first_full = let f = flow_full in ap length e ∙ length-take-le (length p.ends) flow (omega (arith, f))

    first_at : (i : ℕ) → i < length p.ends → at_arc flow i ≡ at_arc first i
    first_at i low = sym (ap (λ l. at_arc l i) e ∙ get_or-take (length p.ends) flow i (pos 0) low)

    in_net : (i : ℕ) → i < length p.ends → i < length net.ends
    in_net i low = let k = ends_many g one good in let l = many in omega (arith, k, l, low)

    least : (i : ℕ) → i < length p.ends → pos 0 ≤ℤ at_arc first i
    least i low = let f = first_at i low in let k = best.flow_is.within.low i (in_net i low) in omega (arith, ints, f, k)

    most : (i : ℕ) → i < length p.ends → at_arc first i ≤ℤ at_arc g.capacities i
    most i low =
        let there = many in
        let f = first_at i low in
        let k = best.flow_is.within.high i (in_net i low) in
        let m = flow_capacity g one i good (omega (arith, low, there)) in
        omega (arith, ints, f, k, m)

    first_down : (i : ℕ) → i < length p.ends → rank (head_of p i) < rank (tail_of p i) → at_arc first i ≡ pos 0
    first_down i low down =
        let l = least i low in
        let m = most i low in
        let k = capacity_down i low down in
        omega (arith, ints, l, m, k)

    first_most : (i : ℕ) → i < length p.ends → at_arc first i ≤ℤ (at_arc p.capacities i *ℤ (node_level a.levels a.groups (tail_of p i)).q)
    first_most i low = elim (cases_Bool (is_lower a.levels a.groups (head_of p i) (tail_of p i))) [
      | inl down ↦
          (let k = first_down i low (lower_told (rank (head_of p i)) (rank (tail_of p i)) down) in
          let w = whole_low p a.levels a.groups h fine i low in
          omega (arith, ints, k, w))
      | inr up ↦
          (let m = most i low in
          let k = capacity_up i low (not_lower (rank (head_of p i)) (rank (tail_of p i)) up) in
          omega (arith, ints, m, k))
    ]

    first_up : (i : ℕ) → i < length p.ends → rank (tail_of p i) < rank (head_of p i) →
        at_arc first i ≡ at_arc p.capacities i *ℤ (node_level a.levels a.groups (tail_of p i)).q
    first_up i low up =
        let there = many in
        let t = h.tails i low in
        let w = h.heads i low in
        let some = lower_some count (group_at a.groups (tail_of p i)) (group_at a.groups (head_of p i)) (group_within (head_of p i) w) up in
        let inner = ap (has lower) (tail_stays i low) ∙ lower_is (tail_of p i) t ∙ not_zero (group_at a.groups (tail_of p i)) some in
        let outer = ap (has lower) (head_up i low up) ∙ sink_out in
        let f = arc_filled g good one flow lower best.flow_is.within (best_tight flow lower best lower_cut lower_tight) i (omega (arith, low, there)) inner outer in
        let k = capacity_up i low (omega (arith, up)) in
        let s = first_at i low in
        omega (arith, ints, f, k, s)

    fed_all : (v : ℕ) → v < p.nodes → at_arc flow (length p.ends + v) ≡ at_arc g.weights v
    fed_all v low =
        let off : v ≢ p.nodes = λ same. absurd (omega (arith, same, low)) in
        let inner = in_alone g p.nodes (omega arith) ∙ on_by p.nodes in
        let outer = in_alone g v (omega (arith, low)) ∙ off_by v p.nodes off in
        let f = source_filled g good one flow (alone g) best.flow_is.within (best_tight flow (alone g) best (alone_cut g one good) alone_tight) v low inner outer in
        let k = sym (ap (λ n. at_arc flow (n + v)) many) in
        omega (arith, ints, f, k)

    first_kept : (v : ℕ) → v < p.nodes → v ≢ p.sink → entering p (answer_of a.levels a.groups first) v ≡ sum_out p.ends first v
    first_kept v low apart =
        let off : v ≢ p.nodes = λ same. absurd (omega (arith, same, low)) in
        let k = best.flow_is.kept v (omega (arith, low)) off apart in
        let o = out_there p a.levels a.groups h fine flow first v low flow_full first_full first_at in
        let n = in_there p a.levels a.groups h fine flow first v low apart flow_full first_full first_at in
        let s = fed_all v low in
        let w = supply_apart p a.levels a.groups h fine v low apart in
        omega (arith, ints, k, o, n, s, w)

    pub first_certifies : CertifiesShares p (answer_of a.levels a.groups first)
    first_certifies = record {
      levels = c.levels;
      groups = record { full = c.groups.full; low = c.groups.low; high = c.groups.high; sources = c.groups.sources; some = c.groups.some; sink = c.groups.sink };
      flow = record { full = first_full; low = least; high = first_most; upward = first_up; downward = first_down; kept = first_kept };
    }
