-- A curve of the network, read off as levels, groups and a flow, is certified.
use Rattle.std.proofs.Common.{◌≡◌, ◌≢◌, ℕ, zero, suc, ◌+◌, ◌-◌, ◌*◌, ◌<◌, ◌≤◌, List, [], ◌∷◌, length, get_or, refl, Bool, true, false, cond, not, ◌&&◌, eqb, arith, ap, sym, ◌∙◌, inl, inr, subst, add-one}
use Rattle.std.specs.Prelude.{ℤ, ◌+ℤ◌, ◌*ℤ◌, ◌≤ℤ◌, ◌<ℤ◌, pos, nat_abs, nat_lt, ◌⊎◌, ◌==◌}
use Rattle.std.proofs.lemmas.Int.{ints, by_lt_z}
use Rattle.std.proofs.lemmas.Bool.{cases_Bool, cases_lt, cases_eq, both_ways, and_parts}
use Rattle.std.proofs.lemmas.Bool.Decides.{nat_tests}
use Rattle.pf_model.specs.Fraction.{Fraction, IsParameter, IsBelow, IsAtMost}
use Rattle.pf_model.specs.Answer.{Curve}
use Rattle.pf_model.specs.Cut.{has, at_arc, leaves, enters, IsCut, IsLeast, IsSmallestLeast, capacity, sum_where}
use Rattle.pf_model.specs.Flow.{IsFlow, IsWithin, sum_out, sum_in, value}
use Rattle.pf_model.specs.Network.{IsMonotone, cut_b}
use Rattle.pf_model.specs.Curve.{IsCurve, CertifiesCurve, point_at, cut_at, flow_at}
use Rattle.pf_model.proofs.Integers.{mul_most, mul_nonneg, mul_comm}
use Rattle.pf_model.proofs.Sums.{sum_where_split}
use Rattle.pf_model.proofs.Affine.{proper_at, capacity_of_line}
use Rattle.pf_model.proofs.Duality.{IsTight, tight_from_value, leaves_parts, enters_by, leaves_by}
use Rattle.pf_model.proofs.Certificate.{at_most_reflexive, point_is_parameter, point_inside}
use Rattle.pf_share.specs.Problem.{ShareProblem, IsShareProblem, IsBoundedSharing, no_share, tail_of, head_of}
use Rattle.pf_share.specs.Certificate.{SharesAnswer, level_at, group_at, node_level, rank_of, rank_at, is_lower, entering, AreLevels, HasSource, CertifiesShares}
use Rattle.pf_share.specs.Reduction.{share_net, join_at, group_of, IsReadOff}
use Rattle.pf_share.specs.Grouped.{tabled}
use Rattle.pf_share.proofs.Counting.{length_tabled, at_tabled, sum_times, sum_nothing, sum_equal}
use Rattle.pf_share.proofs.NetArcs.{at_net, ends_many, flow_ends, source_ends, flow_capacity, source_capacity, node_out, node_in, cut_constant, cut_slope, outer_weight, outer_same, outer_low, outer_none}
use Rattle.pf_share.proofs.NetBuilt.{net_built}

-- arcs across a side that a flow fills

module _ (p : ShareProblem) (h : IsShareProblem p) (x : Fraction) (flow : List ℤ) (side : List Bool) (within : IsWithin (at_net p x) flow) (t : IsTight (at_net p x) flow side) where
  pub arc_filled : (i : ℕ) → i < length p.ends → has side (tail_of p i) ≡ true → has side (head_of p i) ≡ false → at_arc flow i ≡ at_arc p.capacities i *ℤ x.q
  arc_filled i low inner outer =
      let many = ends_many p x h in
      let there : i < length (at_net p x).ends = omega (arith, low, many) in
      let e = flow_ends p x i h low in
      let passes = ap (leaves side) e ∙ leaves_by side (get_or p.ends i (0, 0)) inner outer in
      let most = within.high i there in
      let least = t.full i (record { in_range = there; passes = passes }) in
      let cap = flow_capacity p x i h low in
      omega (arith, ints, most, least, cap)

  pub arc_emptied : (i : ℕ) → i < length p.ends → has side (head_of p i) ≡ true → has side (tail_of p i) ≡ false → at_arc flow i ≡ pos 0
  arc_emptied i low inner outer =
      let many = ends_many p x h in
      let there : i < length (at_net p x).ends = omega (arith, low, many) in
      let e = flow_ends p x i h low in
      let passes = ap (enters side) e ∙ enters_by side (get_or p.ends i (0, 0)) inner outer in
      let least = within.low i there in
      let most = t.empty i (record { in_range = there; passes = passes }) in
      omega (arith, ints, most, least)

  pub source_filled : (v : ℕ) → v < p.nodes → has side p.nodes ≡ true → has side v ≡ false → at_arc flow (length p.ends + v) ≡ at_arc p.weights v *ℤ x.p
  source_filled v low inner outer =
      let many = ends_many p x h in
      let there : length p.ends + v < length (at_net p x).ends = omega (arith, low, many) in
      let e = source_ends p x v h low in
      let passes = ap (leaves side) e ∙ leaves_by side (p.nodes, v) inner outer in
      let most = within.high (length p.ends + v) there in
      let least = t.full (length p.ends + v) (record { in_range = there; passes = passes }) in
      let cap = source_capacity p x v h low in
      omega (arith, ints, most, least, cap)

-- groups by joins

pub group_some : (first cuts j : ℕ) → j < cuts → group_of first cuts j ≡ suc j - first
group_some first cuts j low = let e : eqb j cuts ≡ false = grind (arith, nat_tests) in rw e refl

pub group_last : (first cuts j : ℕ) → j ≡ cuts → group_of first cuts j ≡ 0
group_last first cuts j same = let e : eqb j cuts ≡ true = grind (arith, nat_tests) in rw e refl

pub rank_none : (count g : ℕ) → g ≡ 0 → rank_of count g ≡ suc count
rank_none count g e = rw e refl

pub rank_some : (count g : ℕ) → g ≢ 0 → rank_of count g ≡ g
rank_some count g h = let e : eqb g 0 ≡ false = grind (arith, nat_tests) in rw e refl

rank_join : (first cuts count j : ℕ) → first + count ≡ cuts → j ≤ cuts → first ≤ j → rank_of count (group_of first cuts j) + first ≡ suc j
rank_join first cuts count j e within least = elim (cases_eq j cuts) [
  | inl same ↦ (let a = rank_none count (group_of first cuts j) (group_last first cuts j same) in omega (arith, a, same, e))
  | inr other ↦
      let g = group_some first cuts j (omega (arith, within, other)) in
      let some : group_of first cuts j ≢ 0 = λ none. absurd (omega (arith, none, g, least)) in
      let a = rank_some count (group_of first cuts j) some in
      omega (arith, a, g, least)
]

pub lower_told : (a b : ℕ) → nat_lt a b ≡ true → a < b
lower_told a b h = grind (arith, nat_tests)

pub lower_not : (a b : ℕ) → not (nat_lt a b) ≡ true → b ≤ a
lower_not a b h = grind (arith, nat_tests)

pub node_told : (n v : ℕ) → (n == v) ≡ true → n ≡ v
node_told n v h = grind (arith, nat_tests)

one_times : (x : ℤ) → x ≡ pos 1 *ℤ x
one_times x = omega (arith, ints)

-- the sum of all capacities
step_most : (b : Bool) (c s : ℤ) (n : ℕ) → pos 0 ≤ℤ c → c ≤ℤ pos 1000000000 → s ≤ℤ pos (n * 1000000000) → (cond b c (pos 0) +ℤ s) ≤ℤ pos (suc n * 1000000000)
step_most true c s n l h t = let e : suc n * 1000000000 ≡ n * 1000000000 + 1000000000 = grind arith in omega (arith, ints, h, t, e)
step_most false c s n l h t = let e : suc n * 1000000000 ≡ n * 1000000000 + 1000000000 = grind arith in omega (arith, ints, h, l, t, e)

pub sum_most : (test : ℕ × ℕ → Bool) (arcs : List (ℕ × ℕ)) (cs : List ℤ) → length cs ≡ length arcs → ((i : ℕ) → i < length arcs → pos 0 ≤ℤ at_arc cs i) →
    ((i : ℕ) → i < length arcs → at_arc cs i ≤ℤ pos 1000000000) → sum_where test arcs cs ≤ℤ pos (length arcs * 1000000000)
sum_most test [] cs full low high = omega (arith, ints)
sum_most test (arc ∷ arcs) [] full low high = absurd (omega (arith, full))
sum_most test (arc ∷ arcs) (c ∷ cs) full low high =
    step_most (test arc) c _ (length arcs) (low 0 (omega arith)) (high 0 (omega arith))
    (sum_most test arcs cs (omega (arith, full)) (λ i less. low (suc i) (omega (arith, less))) (λ i less. high (suc i) (omega (arith, less))))

step_least : (b : Bool) (c s : ℤ) → pos 0 ≤ℤ c → pos 0 ≤ℤ s → pos 0 ≤ℤ (cond b c (pos 0) +ℤ s)
step_least true c s l t = omega (arith, ints, l, t)
step_least false c s l t = omega (arith, ints, l, t)

pub sum_least : (test : ℕ × ℕ → Bool) (arcs : List (ℕ × ℕ)) (cs : List ℤ) → length cs ≡ length arcs → ((i : ℕ) → i < length arcs → pos 0 ≤ℤ at_arc cs i) →
    pos 0 ≤ℤ sum_where test arcs cs
sum_least test [] cs full low = omega (arith, ints)
sum_least test (arc ∷ arcs) [] full low = absurd (omega (arith, full))
sum_least test (arc ∷ arcs) (c ∷ cs) full low =
    step_least (test arc) c _ (low 0 (omega arith)) (sum_least test arcs cs (omega (arith, full)) (λ i less. low (suc i) (omega (arith, less))))

-- a sum that is so much below a product is nothing
no_weight : (a b c q p : ℤ) → pos 1 ≤ℤ q → pos 0 ≤ℤ a → pos 0 ≤ℤ b → c ≤ℤ pos 10000000000000 → p ≡ pos 10000000000001 *ℤ q →
    ((a *ℤ q) +ℤ (b *ℤ p)) ≤ℤ ((c *ℤ q) +ℤ (pos 0 *ℤ p)) → b ≤ℤ pos 0
no_weight a b c q p unit al bl few e h =
    by_lt_z (pos 0) b
    (λ some. absurd (
    let none : pos 0 *ℤ p ≡ pos 0 = omega (arith, ints) in
    let low = mul_nonneg a q al (omega (arith, ints, unit)) in
    let high = mul_most q c (pos 10000000000000) (omega (arith, ints, unit)) few in
    let more = mul_most p (pos 1) b (omega (arith, ints, e, unit)) (omega (arith, ints, some)) in
    let one : p *ℤ pos 1 ≡ p = omega (arith, ints) in
    omega (arith, ints, h, none, low, high, more, one, e, unit, mul_comm b p, mul_comm c q)))
    (λ fine. fine)

rises_above : (x y : Fraction) → pos 0 ≤ℤ x.p → IsParameter x → IsParameter y → IsBelow x y → pos 0 ≤ℤ y.p
rises_above x y low px py h =
    by_lt_z y.p (pos 0)
    (λ none. absurd (
    let a = mul_most x.q y.p (pos 0) (omega (arith, ints, px)) (omega (arith, ints, none)) in
    let b = mul_nonneg x.p y.q low (omega (arith, ints, py)) in
    let zero_is : x.q *ℤ pos 0 ≡ pos 0 = omega (arith, ints) in
    omega (arith, ints, a, b, zero_is, h, mul_comm x.q y.p)))
    (λ fine. fine)

-- the last point in lowest terms is a whole number
whole_last : (q p : ℤ) → p *ℤ pos 1 ≡ pos 10000000000001 *ℤ q → p ≡ pos 10000000000001 *ℤ q
whole_last q p e = omega (arith, ints, e)

-- all nodes but the sink, with the source; and the source alone
abbrev all_but : ShareProblem → List Bool
all_but p = tabled (λ v. not (v == p.sink)) (suc p.nodes)

abbrev pub alone : ShareProblem → List Bool
alone p = tabled (λ v. v == p.nodes) (suc p.nodes)

in_all_but : (p : ShareProblem) (v : ℕ) → v < suc p.nodes → has (all_but p) v ≡ not (v == p.sink)
in_all_but p v low = at_tabled (λ u. not (u == p.sink)) false (suc p.nodes) v low

pub in_alone : (p : ShareProblem) (v : ℕ) → v < suc p.nodes → has (alone p) v ≡ (v == p.nodes)
in_alone p v low = at_tabled (λ u. u == p.nodes) false (suc p.nodes) v low

pub off_by : (n v : ℕ) → n ≢ v → (n == v) ≡ false
off_by n v h = grind (arith, nat_tests)

pub on_by : (n : ℕ) → (n == n) ≡ true
on_by n = grind (arith, nat_tests)

all_but_cut : (p : ShareProblem) (x : Fraction) → IsShareProblem p → IsCut (at_net p x) (all_but p)
all_but_cut p x h = record {
  full = length_tabled (λ v. not (v == p.sink)) (suc p.nodes);
  with_source =
      let sink = h.sink in
      let apart : p.nodes ≢ p.sink = λ e. absurd (omega (arith, e, sink)) in
      in_all_but p p.nodes (omega arith) ∙ ap not (off_by p.nodes p.sink apart);
  without_sink =
      let sink = h.sink in
      in_all_but p p.sink (omega (arith, sink)) ∙ ap not (on_by p.sink);
}

pub alone_cut : (p : ShareProblem) (x : Fraction) → IsShareProblem p → IsCut (at_net p x) (alone p)
alone_cut p x h = record {
  full = length_tabled (λ v. v == p.nodes) (suc p.nodes);
  with_source = in_alone p p.nodes (omega arith) ∙ on_by p.nodes;
  without_sink =
      let sink = h.sink in
      let apart : p.sink ≢ p.nodes = λ e. absurd (omega (arith, e, sink)) in
      in_alone p p.sink (omega (arith, sink)) ∙ off_by p.sink p.nodes apart;
}

held_step : (b : Bool) (w s : ℤ) → b ≡ true → s ≡ pos 0 → cond b (pos 0) w +ℤ s ≡ pos 0
held_step true w s e t = omega (arith, ints, t)
held_step false w s e t = cc

nothing_outside : (side : List Bool) (v : ℕ) (ws : List ℤ) → ((k : ℕ) → k < length ws → has side (v + k) ≡ true) → outer_weight side v ws ≡ pos 0
nothing_outside side v [] t = refl
nothing_outside side v (w ∷ ws) t =
    held_step (has side v) w _ (let e : v + 0 ≡ v = omega arith in rw e at (t 0 (omega arith)))
    (nothing_outside side (suc v) ws (λ k low. let e : v + suc k ≡ suc v + k = omega arith in rw e at (t (suc k) (omega (arith, low)))))

-- the weights outside all nodes but the sink
all_but_weight : (p : ShareProblem) → IsShareProblem p → outer_weight (all_but p) 0 p.weights ≡ pos 0
all_but_weight p h =
    let full = h.weights_full in
    outer_same (all_but p) (tabled (λ v. true) (suc p.nodes)) 0 p.weights
    (λ k low.
    let small : k < suc p.nodes = omega (arith, low, full) in
    let e : 0 + k ≡ k = omega arith in
    rw e (elim (cases_eq k p.sink) [
      | inl same ↦ inr (ap (at_arc p.weights) same ∙ h.sink_weight)
      | inr other ↦ inl (in_all_but p k small ∙ ap not (off_by k p.sink other) ∙ sym (at_tabled (λ v. true) false (suc p.nodes) k small))
    ]))
    ∙ nothing_outside (tabled (λ v. true) (suc p.nodes)) 0 p.weights
    (λ k low. let small : k < suc p.nodes = omega (arith, low, full) in let e : 0 + k ≡ k = omega arith in rw e (at_tabled (λ v. true) false (suc p.nodes) k small))

-- a node with a weight that is in one side and not in the other, or there is none
record IsApart (p : ShareProblem) (s t : List Bool) (n : ℕ) : Type 0 where
  pub node : ℕ
  pub there : node < n
  pub source : pos 1 ≤ℤ at_arc p.weights node
  pub apart : has s node ≡ not (has t node)

two_cases : (x y : Bool) → (x ≡ y) ⊎ (x ≡ not y)
two_cases true true = inl refl
two_cases true false = inr refl
two_cases false true = inr refl
two_cases false false = inl refl

find_apart : (p : ShareProblem) (s t : List Bool) (n : ℕ) → ((v : ℕ) → v < n → pos 0 ≤ℤ at_arc p.weights v) →
    ((v : ℕ) → v < n → (has s v ≡ has t v) ⊎ (at_arc p.weights v ≡ pos 0)) ⊎ IsApart p s t n
find_apart p s t zero h = inl (λ v low. absurd (omega (arith, low)))
find_apart p s t (suc n) h = elim (find_apart p s t n (λ v low. h v (omega (arith, low)))) [
  | inr found ↦ inr (record { node = found.node; there = (let low = found.there in omega (arith, low)); source = found.source; apart = found.apart })
  | inl all ↦ elim (two_cases (has s n) (has t n)) [
    | inl same ↦ inl (λ v low. elim (cases_eq v n) [
      | inl here ↦ rw here (inl same)
      | inr other ↦ all v (omega (arith, low, other))
    ])
    | inr apart ↦ by_lt_z (pos 0) (at_arc p.weights n)
        (λ some. inr (record { node = n; there = omega arith; source = omega (arith, ints, some); apart = apart }))
        (λ none. inl (λ v low. elim (cases_eq v n) [
          | inl here ↦ (let least = h n (omega arith) in let e : at_arc p.weights n ≡ pos 0 = omega (arith, ints, none, least) in rw here (inr e))
          | inr other ↦ all v (omega (arith, low, other))
        ]))
  ]
]

not_twice : (x y : Bool) → x ≡ not y → y ≡ not x
not_twice true true e = cc
not_twice true false e = refl
not_twice false true e = refl
not_twice false false e = cc

product_none : (a b : ℤ) → a ≡ pos 0 → a *ℤ b ≡ pos 0
product_none a b e = let none : pos 0 *ℤ b ≡ pos 0 = omega (arith, ints) in ap (λ n. n *ℤ b) e ∙ none

module _ (p : ShareProblem) (curve : Curve) (a : SharesAnswer) (b : IsBoundedSharing p) (v : IsCurve (share_net p) curve.points curve.cuts)
    (c : CertifiesCurve (share_net p) curve.points curve.cuts curve.flows) (last_unit : (point_at (share_net p) curve.points (length curve.cuts)).q ≡ pos 1)
    (r : IsReadOff p curve a) where
  abbrev point : ℕ → Fraction
  point j = point_at (share_net p) curve.points j

  abbrev cut : ℕ → List Bool
  cut i = cut_at curve.cuts i

  abbrev flow : ℕ → List ℤ
  flow j = flow_at curve.flows j

  abbrev count : ℕ
  count = length curve.cuts

  abbrev join : ℕ → ℕ
  join u = join_at r.joins u

  mono : IsMonotone (share_net p)
  mono = (net_built p b).monotone

  parameter : (j : ℕ) → j ≤ count → IsParameter (point j)
  parameter j low = point_is_parameter (share_net p) curve.points curve.cuts v.division j low

  flow_is : (j : ℕ) → j ≤ count → IsFlow (at_net p (point j)) (flow j)
  flow_is j low = let many = c.division.count in c.flow_is j (omega (arith, many, low))

  cut_is : (i : ℕ) (x : Fraction) → i < count → IsCut (at_net p x) (cut i)
  cut_is i x low = let one = c.cut i low in record { full = one.full; with_source = one.with_source; without_sink = one.without_sink }

  tight_left : (i : ℕ) → i < count → IsTight (at_net p (point i)) (flow i) (cut i)
  tight_left i low =
      let within = point_inside (share_net p) curve.points curve.cuts mono c.division i (omega (arith, low)) in
      let meet = c.left i low in
      tight_from_value (at_net p (point i)) (flow i) (cut i) (proper_at (share_net p) (point i) mono within) (flow_is i (omega (arith, low)))
      (cut_is i (point i) low) (omega (arith, ints, meet))

  meets_right : (i : ℕ) → i < count → value (at_net p (point (suc i))) (flow (suc i)) ≡ capacity (at_net p (point (suc i))) (cut i)
  meets_right i low = rw add-one at (c.right i low)

  tight_right : (i : ℕ) → i < count → IsTight (at_net p (point (suc i))) (flow (suc i)) (cut i)
  tight_right i low =
      let within = point_inside (share_net p) curve.points curve.cuts mono c.division (suc i) (omega (arith, low)) in
      let meet = meets_right i low in
      tight_from_value (at_net p (point (suc i))) (flow (suc i)) (cut i) (proper_at (share_net p) (point (suc i)) mono within) (flow_is (suc i) (omega (arith, low)))
      (cut_is i (point (suc i)) low) (omega (arith, ints, meet))

  contained : (d i u : ℕ) → i + d < count → has (cut i) u ≡ true → has (cut (i + d)) u ≡ true
  contained zero i u low h = let e : i + 0 ≡ i = omega arith in rw e h
  contained (suc d) i u low h =
      let e : (i + d) + 1 ≡ i + suc d = omega arith in
      rw e at (v.nested (i + d) (omega (arith, low)) u (contained d i u (omega (arith, low)) h))

  -- joins
  join_most : (u : ℕ) → u < p.nodes → join u ≤ count
  join_most u low = (r.joins_are.each u low).within

  held : (u k : ℕ) → u < p.nodes → join u ≤ k → k < count → has (cut k) u ≡ true
  held u k low most less =
      let e : join u + (k - join u) ≡ k = omega (arith, most) in
      rw e at (contained (k - join u) (join u) u (omega (arith, e, less)) ((r.joins_are.each u low).at (omega (arith, most, less))))

  out : (u k : ℕ) → u < p.nodes → k < join u → has (cut k) u ≡ false
  out u k low less = (r.joins_are.each u low).before k less

  join_least : (u : ℕ) → u < p.nodes → r.first ≤ join u
  join_least u low = elim r.first_is [
    | inl zero_is ↦ (let e = zero_is.0 in omega (arith, e))
    | inr one_is ↦
        (let e = one_is.0 in
        let full = r.joins_are.full in
        let none = one_is.1.each u (omega (arith, low, full)) in
        let some : 1 ≤ join u = omega (arith, none) in
        omega (arith, e, some))
  ]

  group_is : (u : ℕ) → u < p.nodes → group_at a.groups u ≡ group_of r.first count (join u)
  group_is u low = ap nat_abs (r.groups.each u low)

  rank_is : (u : ℕ) → u < p.nodes → rank_at a.levels a.groups u + r.first ≡ suc (join u)
  rank_is u low =
      ap (λ g. rank_of (length a.levels) g + r.first) (group_is u low)
      ∙ rank_join r.first count (length a.levels) (join u) r.count (join_most u low) (join_least u low)

  lower_joins : (u w : ℕ) → u < p.nodes → w < p.nodes → rank_at a.levels a.groups u < rank_at a.levels a.groups w → join u < join w
  lower_joins u w low less h = let e = rank_is u low in let f = rank_is w less in omega (arith, e, f, h)

  level_here : (j : ℕ) → j < length a.levels → level_at a.levels (suc j) ≡ point (r.first + j)
  level_here j low = r.levels.each j low

  level_is : (u : ℕ) → u < p.nodes → join u < count → node_level a.levels a.groups u ≡ point (join u)
  level_is u low some =
      let least = join_least u low in
      let many = r.count in
      let e : suc (join u) - r.first ≡ suc (join u - r.first) = omega (arith, least) in
      let f : r.first + (join u - r.first) ≡ join u = omega (arith, least) in
      ap (level_at a.levels) (group_is u low ∙ group_some r.first count (join u) some ∙ e)
      ∙ level_here (join u - r.first) (omega (arith, f, some, many)) ∙ ap point f

  level_none : (u : ℕ) → u < p.nodes → join u ≡ count → node_level a.levels a.groups u ≡ no_share
  level_none u low last = ap (level_at a.levels) (group_is u low ∙ group_last r.first count (join u) last)

  unit_is : (u : ℕ) → u < p.nodes → (node_level a.levels a.groups u).q ≡ (point (join u)).q
  unit_is u low = elim (cases_eq (join u) count) [
    | inl last ↦ ap (λ (x : Fraction). x.q) (level_none u low last) ∙ sym last_unit ∙ ap (λ n. (point n).q) (sym last)
    | inr other ↦ (let most = join_most u low in ap (λ (x : Fraction). x.q) (level_is u low (omega (arith, other, most))))
  ]

  flow_here : (i : ℕ) → i < length p.ends → at_arc a.flow i ≡ at_arc (flow (join (tail_of p i))) i
  flow_here i low = r.flow.each i low

  flow_within : (j : ℕ) → j ≤ count → IsWithin (at_net p (point j)) (flow j)
  flow_within j low = (flow_is j low).within

  net_low : (j i : ℕ) → j ≤ count → i < length p.ends → pos 0 ≤ℤ at_arc (flow j) i
  net_low j i low there = let many = ends_many p (point j) b.problem in (flow_within j low).low i (omega (arith, many, there))

  net_high : (j i : ℕ) → j ≤ count → i < length p.ends → at_arc (flow j) i ≤ℤ (at_arc p.capacities i *ℤ (point j).q)
  net_high j i low there =
      let many = ends_many p (point j) b.problem in
      let most = (flow_within j low).high i (omega (arith, many, there)) in
      let cap = flow_capacity p (point j) i b.problem there in
      omega (arith, ints, most, cap)

  -- arcs to higher groups, and to lower ones
  fills_left : (j i : ℕ) → j < count → i < length p.ends → has (cut j) (tail_of p i) ≡ true → has (cut j) (head_of p i) ≡ false →
      at_arc (flow j) i ≡ at_arc p.capacities i *ℤ (point j).q
  fills_left j i low there inner outer =
      arc_filled p b.problem (point j) (flow j) (cut j) (flow_within j (omega (arith, low))) (tight_left j low) i there inner outer

  empties_left : (j i : ℕ) → j < count → i < length p.ends → has (cut j) (head_of p i) ≡ true → has (cut j) (tail_of p i) ≡ false → at_arc (flow j) i ≡ pos 0
  empties_left j i low there inner outer =
      arc_emptied p b.problem (point j) (flow j) (cut j) (flow_within j (omega (arith, low))) (tight_left j low) i there inner outer

  fills_right : (k i : ℕ) → k < count → i < length p.ends → has (cut k) (tail_of p i) ≡ true → has (cut k) (head_of p i) ≡ false →
      at_arc (flow (suc k)) i ≡ at_arc p.capacities i *ℤ (point (suc k)).q
  fills_right k i low there inner outer =
      arc_filled p b.problem (point (suc k)) (flow (suc k)) (cut k) (flow_within (suc k) (omega (arith, low))) (tight_right k low) i there inner outer

  empties_right : (k i : ℕ) → k < count → i < length p.ends → has (cut k) (head_of p i) ≡ true → has (cut k) (tail_of p i) ≡ false →
      at_arc (flow (suc k)) i ≡ pos 0
  empties_right k i low there inner outer =
      arc_emptied p b.problem (point (suc k)) (flow (suc k)) (cut k) (flow_within (suc k) (omega (arith, low))) (tight_right k low) i there inner outer

  upward : (i : ℕ) → i < length p.ends → join (tail_of p i) < join (head_of p i) →
      at_arc a.flow i ≡ at_arc p.capacities i *ℤ (node_level a.levels a.groups (tail_of p i)).q
  upward i there less =
      let t = b.problem.tails i there in
      let h = b.problem.heads i there in
      let most = join_most (head_of p i) h in
      let j = join (tail_of p i) in
      flow_here i there
      ∙ fills_left j i (omega (arith, less, most)) there (held (tail_of p i) j t (omega arith) (omega (arith, less, most))) (out (head_of p i) j h less)
      ∙ ap (λ q. at_arc p.capacities i *ℤ q) (sym (unit_is (tail_of p i) t))

  downward : (i : ℕ) → i < length p.ends → join (head_of p i) < join (tail_of p i) → at_arc a.flow i ≡ pos 0
  downward i there less =
      let t = b.problem.tails i there in
      let h = b.problem.heads i there in
      let most = join_most (tail_of p i) t in
      let k : ℕ = join (tail_of p i) - 1 in
      let e : suc k ≡ join (tail_of p i) = omega (arith, less) in
      let P : ℕ → Type 0 = λ n. at_arc (flow n) i ≡ pos 0 in
      flow_here i there
      ∙ subst P e (empties_right k i (omega (arith, e, most)) there (held (head_of p i) k h (omega (arith, e, less)) (omega (arith, e, most)))
      (out (tail_of p i) k t (omega (arith, e))))

  -- what enters a node at its own point
  from_same : (u i : ℕ) → u < p.nodes → i < length p.ends → head_of p i ≡ u → join u ≤ join (tail_of p i) → at_arc a.flow i ≡ pos 1 *ℤ at_arc (flow (join u)) i
  from_same u i low there e h = elim (cases_eq (join (tail_of p i)) (join u)) [
    | inl same ↦ flow_here i there ∙ ap (λ n. at_arc (flow n) i) same ∙ one_times (at_arc (flow (join u)) i)
    | inr other ↦
        (let t = b.problem.tails i there in
        let most = join_most (tail_of p i) t in
        let less : join (head_of p i) < join (tail_of p i) = rw e (omega (arith, h, other)) in
        let j = join u in
        let some : j < count = omega (arith, h, other, most) in
        let P : ℕ → Type 0 = λ n. has (cut j) n ≡ true in
        let nothing = empties_left j i some there (subst P (sym e) (held u j low (omega arith) some)) (out (tail_of p i) j t (omega (arith, h, other))) in
        let down = downward i there less in
        let one = one_times (at_arc (flow j) i) in
        omega (arith, ints, down, nothing, one))
  ]

  from_lower : (u i : ℕ) → u < p.nodes → i < length p.ends → head_of p i ≡ u → join (tail_of p i) < join u →
      at_arc (flow (join u)) i ≡ (point (join u)).q *ℤ at_arc p.capacities i
  from_lower u i low there e less =
      let t = b.problem.tails i there in
      let most = join_most u low in
      let k : ℕ = join u - 1 in
      let f : suc k ≡ join u = omega (arith, less) in
      let P : ℕ → Type 0 = λ n. at_arc (flow n) i ≡ at_arc p.capacities i *ℤ (point n).q in
      let Q : ℕ → Type 0 = λ n. has (cut k) n ≡ false in
      subst P f (fills_right k i (omega (arith, f, most)) there (held (tail_of p i) k t (omega (arith, f, less)) (omega (arith, f, most)))
      (subst Q (sym e) (out u k low (omega (arith, f)))))
      ∙ mul_comm (at_arc p.capacities i) (point (join u)).q

  -- all sources join
  last_high : (point count).p ≡ pos 10000000000001 *ℤ (point count).q
  last_high = whole_last (point count).q (point count).p v.division.high

  weightless : (u : ℕ) → u < p.nodes → join u ≡ count → at_arc p.weights u ≡ pos 0
  weightless u low last =
      let some = v.division.some in
      let l : ℕ = count - 1 in
      let e : suc l ≡ count = omega (arith, some) in
      let f : l + 1 ≡ count = omega (arith, some) in
      let inner : l < count = omega (arith, e) in
      let x = point count in
      let rise : IsBelow (point l) (point (l + 1)) = v.division.rise l inner in
      let rise' : IsBelow (point l) x = rw f at rise in
      let P : ℕ → Type 0 = λ n. IsAtMost x (point n) in
      let least = v.least l inner x (parameter count (omega arith)) (omega (arith, ints, rise')) (subst P (sym f) (at_most_reflexive x)) in
      let most = least.least (all_but p) (all_but_cut p x b.problem) in
      let side = cut l in
      let source = (c.cut l inner).with_source in
      let here = capacity_of_line (share_net p) x side in
      let there = capacity_of_line (share_net p) x (all_but p) in
      let a1 = ap (λ n. n *ℤ x.q) (cut_constant p side) in
      let b1 = ap (λ n. n *ℤ x.p) (cut_slope p side source) in
      let a2 = ap (λ n. n *ℤ x.q) (cut_constant p (all_but p)) in
      let b2 = ap (λ n. n *ℤ x.p) (cut_slope p (all_but p) (all_but_cut p x b.problem).with_source ∙ all_but_weight p b.problem) in
      let few = sum_most (leaves (all_but p)) p.ends p.capacities b.problem.capacities_full b.problem.capacity_low b.capacity_high in
      let arcs = b.few_arcs in
      let full = b.problem.weights_full in
      let lows : (k : ℕ) → k < length p.weights → pos 0 ≤ℤ at_arc p.weights k = λ k less. b.problem.weight_low k (omega (arith, full, less)) in
      let none = no_weight (sum_where (leaves side) p.ends p.capacities) (outer_weight side 0 p.weights) (sum_where (leaves (all_but p)) p.ends p.capacities) x.q x.p
      (parameter count (omega arith)) (sum_least (leaves side) p.ends p.capacities b.problem.capacities_full b.problem.capacity_low)
      (outer_low side 0 p.weights lows) (omega (arith, ints, few, arcs)) last_high (omega (arith, ints, most, here, there, a1, b1, a2, b2)) in
      let g : 0 + u ≡ u = omega arith in
      let Q : ℕ → Type 0 = λ n. has side n ≡ false in
      outer_none side 0 p.weights lows none u (omega (arith, low, full)) (subst Q (sym g) (out u l low (omega (arith, e, last))))

  -- the low end
  starts_low : (point 0).p ≡ pos 0
  starts_low =
      let e = v.division.low in
      let none : pos 0 *ℤ (point 0).q ≡ pos 0 = omega (arith, ints) in
      let one : (point 0).p *ℤ pos 1 ≡ (point 0).p = omega (arith, ints) in
      omega (arith, ints, e, none, one)

  point_low : (j : ℕ) → j ≤ count → pos 0 ≤ℤ (point j).p
  point_low zero low = let e = starts_low in omega (arith, ints, e)
  point_low (suc j) low =
      rises_above (point j) (point (suc j)) (point_low j (omega (arith, low))) (parameter j (omega (arith, low))) (parameter (suc j) low)
      (rw add-one at (v.division.rise j (omega (arith, low))))

  -- the share of a node
  fed_within : (j u : ℕ) → j ≤ count → u < p.nodes → at_arc p.weights u *ℤ (point j).p ≡ pos 0 → at_arc (flow j) (length p.ends + u) ≡ pos 0
  fed_within j u low there none =
      let many = ends_many p (point j) b.problem in
      let place : length p.ends + u < length (at_net p (point j)).ends = omega (arith, many, there) in
      let least = (flow_within j low).low (length p.ends + u) place in
      let most = (flow_within j low).high (length p.ends + u) place in
      let cap = source_capacity p (point j) u b.problem there in
      omega (arith, ints, least, most, cap, none)

  fed_at : (j u : ℕ) → join u ≡ j → u < p.nodes → j < count → (point j).p *ℤ at_arc p.weights u ≡ at_arc (flow j) (length p.ends + u)
  fed_at zero u same low some =
      let none = product_none (point 0).p (at_arc p.weights u) starts_low in
      none ∙ sym (fed_within 0 u (omega arith) low (mul_comm (at_arc p.weights u) (point 0).p ∙ none))
  fed_at (suc k) u same low some =
      mul_comm (point (suc k)).p (at_arc p.weights u)
      ∙ sym (source_filled p b.problem (point (suc k)) (flow (suc k)) (cut k) (flow_within (suc k) (omega (arith, some))) (tight_right k (omega (arith, some))) u low
      (c.cut k (omega (arith, some))).with_source (out u k low (omega (arith, same))))

  fed : (j u : ℕ) → join u ≡ j → u < p.nodes →
      (node_level a.levels a.groups u).p *ℤ at_arc p.weights u ≡ at_arc (flow j) (length p.ends + u)
  fed j u same low = elim (cases_eq j count) [
    | inl last ↦
        (let none = weightless u low (same ∙ last) in
        let first = product_none (at_arc p.weights u) (point j).p none in
        let second = product_none (at_arc p.weights u) (node_level a.levels a.groups u).p none in
        let f = fed_within j u (omega (arith, last)) low first in
        omega (arith, ints, f, second, mul_comm (node_level a.levels a.groups u).p (at_arc p.weights u)))
    | inr other ↦
        (let most = join_most u low in
        let level = ap (λ (x : Fraction). x.p *ℤ at_arc p.weights u) (level_is u low (omega (arith, same, most, other))) in
        level ∙ ap (λ n. (point n).p *ℤ at_arc p.weights u) same ∙ fed_at j u same low (omega (arith, same, most, other)))
  ]

  sum_in_split : (f : List ℤ) (u : ℕ) → sum_in p.ends f u
      ≡ sum_where (λ arc. (arc.1 == u) && is_lower a.levels a.groups arc.0 u) p.ends f
      +ℤ sum_where (λ arc. (arc.1 == u) && not (is_lower a.levels a.groups arc.0 u)) p.ends f
  sum_in_split f u = sum_where_split (λ arc. arc.1 == u) (λ arc. is_lower a.levels a.groups arc.0 u) p.ends f

  same_joins : (u i : ℕ) → u < p.nodes → i < length p.ends → head_of p i ≡ u → not (is_lower a.levels a.groups (tail_of p i) u) ≡ true → join u ≤ join (tail_of p i)
  same_joins u i low there e h =
      let t = b.problem.tails i there in
      let first = lower_not (rank_at a.levels a.groups (tail_of p i)) (rank_at a.levels a.groups u) h in
      let x = rank_is u low in
      let y = rank_is (tail_of p i) t in
      omega (arith, first, x, y)

  node_kept : (u : ℕ) → u < p.nodes → u ≢ p.sink → entering p a u ≡ sum_out p.ends a.flow u
  node_kept u low apart =
      let j = join u in
      let most = join_most u low in
      let f = flow j in
      let x = point j in
      let is = flow_is j most in
      let off : u ≢ p.nodes = λ e. absurd (omega (arith, e, low)) in
      let kept = is.kept u (omega (arith, low)) off apart in
      let full = is.within.full ∙ ends_many p x b.problem in
      let o = node_out p x f u b.problem low in
      let n = node_in p x f u b.problem low full in
      let split = sum_in_split f u in
      let outs = sum_equal (λ arc. arc.0 == u) p.ends a.flow f
      (λ i h. flow_here i h.in_range ∙ ap (λ w. at_arc (flow (join w)) i) (node_told (tail_of p i) u h.passes)) in
      let same = sum_equal (λ arc. (arc.1 == u) && not (is_lower a.levels a.groups arc.0 u)) p.ends a.flow f
      (λ i h.
      let both = and_parts (head_of p i == u) (not (is_lower a.levels a.groups (tail_of p i) u)) h.passes in
      let e = node_told (head_of p i) u both.0 in
      from_same u i low h.in_range e (same_joins u i low h.in_range e both.1) ∙ sym (one_times (at_arc f i))) in
      let lower = sum_times (λ arc. (arc.1 == u) && is_lower a.levels a.groups arc.0 u) p.ends f p.capacities x.q b.problem.capacities_full
      (λ i h.
      let both = and_parts (head_of p i == u) (is_lower a.levels a.groups (tail_of p i) u) h.passes in
      let e = node_told (head_of p i) u both.0 in
      from_lower u i low h.in_range e
      (lower_joins (tail_of p i) u (b.problem.tails i h.in_range) low (lower_told (rank_at a.levels a.groups (tail_of p i)) (rank_at a.levels a.groups u) both.1))) in
      let own = fed j u refl low in
      let unit = ap (λ q. sum_where (λ arc. (arc.1 == u) && is_lower a.levels a.groups arc.0 u) p.ends p.capacities *ℤ q) (unit_is u low) in
      let turn = mul_comm x.q (sum_where (λ arc. (arc.1 == u) && is_lower a.levels a.groups arc.0 u) p.ends p.capacities) in
      omega (arith, ints, kept, o, n, split, outs, same, lower, own, unit, turn)

  -- each level has a source
  joins_at : (k u : ℕ) → u < p.nodes → suc k < count → has (cut k) u ≡ false → has (cut (suc k)) u ≡ true → join u ≡ suc k
  joins_at k u low less outer inner =
      let most : join u ≤ suc k = elim (cases_lt (suc k) (join u)) [
        | inl before ↦ absurd (both_ways _ (out u (suc k) low before) inner)
        | inr fine ↦ fine
      ] in
      let least : k < join u = elim (cases_lt k (join u)) [
        | inl fine ↦ fine
        | inr early ↦ absurd (both_ways _ outer (held u k low early (omega (arith, less))))
      ] in
      omega (arith, most, least)

  source_at : (k : ℕ) → suc k < count → (u : ℕ) × ((u < p.nodes) × ((pos 1 ≤ℤ at_arc p.weights u) × (join u ≡ suc k)))
  source_at k less =
      let full = b.problem.weights_full in
      elim (find_apart p (cut k) (cut (suc k)) p.nodes b.problem.weight_low) [
        | inl all ↦
            (let e = cut_slope p (cut k) (c.cut k (omega (arith, less))).with_source in
            let f = cut_slope p (cut (suc k)) (c.cut (suc k) less).with_source in
            let g = outer_same (cut k) (cut (suc k)) 0 p.weights
            (λ n low. let z : 0 + n ≡ n = omega arith in rw z (all n (omega (arith, low, full)))) in
            let P : ℕ → Type 0 = λ n. n < count → cut_b (share_net p) (cut n) <ℤ cut_b (share_net p) (cut k) in
            let fall = subst P (add-one k) (v.slopes k) less in
            absurd (omega (arith, ints, e, f, g, fall)))
        | inr found ↦
            let u = found.node in
            let low = found.there in
            let outer : has (cut k) u ≡ false = elim (cases_Bool (has (cut k) u)) [
              | inl inner ↦ absurd
                  (let next = held u (suc k) low
                  (elim (cases_lt k (join u)) [
                    | inl before ↦ absurd (both_ways _ (out u k low before) inner)
                    | inr fine ↦ omega (arith, fine)
                  ]) less in
                  both_ways _ (not_twice (has (cut k) u) (has (cut (suc k)) u) found.apart ∙ ap not inner) next)
              | inr fine ↦ fine
            ] in
            (u, (low, (found.source, joins_at k u low less outer (not_twice (has (cut k) u) (has (cut (suc k)) u) found.apart ∙ ap not outer))))
      ]

  -- nothing leaves the source alone but its own arcs
  alone_nothing : sum_where (leaves (alone p)) p.ends p.capacities ≡ pos 0
  alone_nothing =
      sum_nothing (leaves (alone p)) p.ends p.capacities
      (λ i h.
      let t = b.problem.tails i h.in_range in
      let inner = (leaves_parts (alone p) (get_or p.ends i (0, 0)) h.passes).0 in
      let off : tail_of p i ≢ p.nodes = λ e. absurd (omega (arith, e, t)) in
      absurd (both_ways _ (in_alone p (tail_of p i) (omega (arith, t)) ∙ off_by (tail_of p i) p.nodes off) inner))

  source_first : (u0 : ℕ) → u0 < p.nodes → join u0 ≡ 0 → (u : ℕ) × ((u < p.nodes) × ((pos 1 ≤ℤ at_arc p.weights u) × (join u ≡ 0)))
  source_first u0 low0 at_zero =
      let some = v.division.some in
      let full = b.problem.weights_full in
      elim (find_apart p (alone p) (cut 0) p.nodes b.problem.weight_low) [
        | inl all ↦
            (let x = point 1 in
            let smallest : IsSmallestLeast (at_net p x) (cut 0) = v.smallest 0 some in
            let e = cut_slope p (alone p) (alone_cut p x b.problem).with_source in
            let f = cut_slope p (cut 0) (c.cut 0 some).with_source in
            let g = outer_same (alone p) (cut 0) 0 p.weights
            (λ n low. let z : 0 + n ≡ n = omega arith in rw z (all n (omega (arith, low, full)))) in
            let here = capacity_of_line (share_net p) x (alone p) in
            let there = capacity_of_line (share_net p) x (cut 0) in
            let a1 = ap (λ n. n *ℤ x.q) (cut_constant p (alone p) ∙ alone_nothing) in
            let none : pos 0 *ℤ x.q ≡ pos 0 = omega (arith, ints) in
            let b1 = ap (λ n. n *ℤ x.p) (e ∙ g ∙ sym f) in
            let more = sum_least (leaves (cut 0)) p.ends p.capacities b.problem.capacities_full b.problem.capacity_low in
            let unit = parameter 1 (omega (arith, some)) in
            let a2 = mul_nonneg (sum_where (leaves (cut 0)) p.ends p.capacities) x.q more (omega (arith, ints, unit)) in
            let a3 = ap (λ n. n *ℤ x.q) (cut_constant p (cut 0)) in
            let least : IsLeast (at_net p x) (alone p) = record {
              cut = alone_cut p x b.problem;
              least = λ other o. let m = smallest.least.least other o in omega (arith, ints, m, here, there, a1, none, b1, a2, a3);
            } in
            let inner = smallest.smallest (alone p) least u0 (held u0 0 low0 (omega (arith, at_zero)) some) in
            let off : u0 ≢ p.nodes = λ e. absurd (omega (arith, e, low0)) in
            absurd (both_ways _ (in_alone p u0 (omega (arith, low0)) ∙ off_by u0 p.nodes off) inner))
        | inr found ↦
            let u = found.node in
            let low = found.there in
            let off : u ≢ p.nodes = λ e. absurd (omega (arith, e, low)) in
            let outer = in_alone p u (omega (arith, low)) ∙ off_by u p.nodes off in
            let inner = not_twice (has (alone p) u) (has (cut 0) u) found.apart ∙ ap not outer in (
              u,
              (
                low,
                (
                  found.source,
                  elim (cases_lt 0 (join u)) [
                    | inl late ↦ absurd (both_ways _ (out u 0 low late) inner)
                    | inr fine ↦ omega (arith, fine)
                  ],
                ),
              ),
            )
      ]

  source_joins : (i : ℕ) → r.first ≤ i → i < count → (u : ℕ) × ((u < p.nodes) × ((pos 1 ≤ℤ at_arc p.weights u) × (join u ≡ i)))
  source_joins zero least less = elim r.first_is [
    | inl zero_is ↦ (let one = zero_is.1 in let full = r.joins_are.full in let low = one.there in source_first one.node (omega (arith, low, full)) one.join_is)
    | inr one_is ↦ absurd (let e = one_is.0 in omega (arith, e, least))
  ]
  source_joins (suc k) least less = source_at k less

  has_source : (j : ℕ) → j < length a.levels → HasSource p a.groups (suc j)
  has_source j low =
      let many = r.count in
      let s = source_joins (r.first + j) (omega arith) (omega (arith, low, many)) in
      let u = s.0 in
      let here = s.1.1.1 in
      record {
        node = u;
        there = s.1.0;
        source = s.1.1.0;
        group_is = group_is u s.1.0 ∙ group_some r.first count (join u) (omega (arith, here, low, many)) ∙ omega (arith, here);
      }

  groups_low : (u : ℕ) → u < p.nodes → pos 0 ≤ℤ at_arc a.groups u
  groups_low u low = let e = r.groups.each u low in omega (arith, ints, e)

  group_most : (u : ℕ) → u < p.nodes → group_of r.first count (join u) ≤ length a.levels
  group_most u low = elim (cases_eq (join u) count) [
    | inl last ↦ (let e = group_last r.first count (join u) last in omega (arith, e))
    | inr other ↦
        (let most = join_most u low in
        let many = r.count in
        let e = group_some r.first count (join u) (omega (arith, most, other)) in
        omega (arith, e, most, other, many))
  ]

  groups_high : (u : ℕ) → u < p.nodes → at_arc a.groups u ≤ℤ pos (length a.levels)
  groups_high u low = let e = r.groups.each u low in let most = group_most u low in omega (arith, ints, e, most)

  groups_source : (u : ℕ) → u < p.nodes → pos 1 ≤ℤ at_arc p.weights u → pos 1 ≤ℤ at_arc a.groups u
  groups_source u low heavy = elim (cases_eq (join u) count) [
    | inl last ↦ absurd (let none = weightless u low last in omega (arith, ints, none, heavy))
    | inr other ↦
        (let most = join_most u low in
        let least = join_least u low in
        let e = r.groups.each u low in
        let g = group_some r.first count (join u) (omega (arith, most, other)) in
        let some : 1 ≤ group_of r.first count (join u) = omega (arith, g, least) in
        omega (arith, ints, e, some))
  ]

  sink_joins : join p.sink ≡ count
  sink_joins =
      let sink = b.problem.sink in
      let most = join_most p.sink sink in
      elim (cases_lt (join p.sink) count) [
        | inl less ↦ absurd (both_ways _ (c.cut (join p.sink) less).without_sink (held p.sink (join p.sink) sink (omega arith) less))
        | inr fine ↦ omega (arith, fine, most)
      ]

  levels_are : AreLevels a.levels
  levels_are =
      let many = r.count in
      record {
        parameters = λ j low. rw (level_here j low) (parameter (r.first + j) (omega (arith, low, many)));
        low = λ j low. rw (level_here j low) (point_low (r.first + j) (omega (arith, low, many)));
        rise = λ j low.
            let e : (r.first + j) + 1 ≡ r.first + suc j = omega arith in
            let P : ℕ → Type 0 = λ n. IsBelow (point (r.first + j)) (point n) in
            rw (level_here j (omega (arith, low)), level_here (suc j) low) (subst P e (v.division.rise (r.first + j) (omega (arith, low, many))));
      }

  pub read_off_certifies : CertifiesShares p a
  read_off_certifies = record {
    levels = levels_are;
    groups = record {
      full = r.groups.full;
      low = groups_low;
      high = groups_high;
      sources = groups_source;
      some = has_source;
      sink = r.groups.each p.sink b.problem.sink ∙ ap pos (group_last r.first count (join p.sink) sink_joins);
    };
    flow = record {
      full = r.flow.full;
      low = λ i low. let e = flow_here i low in
          let most = join_most (tail_of p i) (b.problem.tails i low) in
          let l = net_low (join (tail_of p i)) i most low in
          omega (arith, ints, e, l);
      high = λ i low. let e = flow_here i low in
          let t = b.problem.tails i low in
          let most = join_most (tail_of p i) t in
          let l = net_high (join (tail_of p i)) i most low in
          let u = ap (λ q. at_arc p.capacities i *ℤ q) (unit_is (tail_of p i) t) in
          omega (arith, ints, e, l, u);
      upward = λ i low h. upward i low (lower_joins (tail_of p i) (head_of p i) (b.problem.tails i low) (b.problem.heads i low) h);
      downward = λ i low h. downward i low (lower_joins (head_of p i) (tail_of p i) (b.problem.heads i low) (b.problem.tails i low) h);
      kept = node_kept;
    };
  }
