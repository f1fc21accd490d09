-- What the residual graph reaches can be listed, and each network has a greatest flow.
use Rattle.std.proofs.Common.{◌≡◌, ℕ, zero, suc, ◌+◌, ◌<◌, ◌≤◌, List, length, set, replicate, refl, Bool, true, false, arith, sym, ◌∙◌, inl, inr, subst}
use Rattle.std.specs.Prelude.{ℤ, ◌-ℤ◌, ◌<ℤ◌, pos, nat_abs, ◌⊎◌, ◌↔◌}
use Rattle.std.proofs.lemmas.Int.{ints, by_lt_z}
use Rattle.std.proofs.lemmas.Bool.{cases_Bool, cases_lt, both_ways}
use Rattle.std.proofs.lemmas.List.{length-set, length-replicate}
use Rattle.pf_model.specs.Cut.{FlowNetwork, IsProper, IsCut, has, at_arc, tail_at, head_at, capacity, size}
use Rattle.pf_model.specs.Flow.{IsFlow, IsPreflow, IsActive, IsGreatest, sum_out, sum_in, value}
use Rattle.pf_model.specs.Residual.{IsResidual, Walk, Reaches, IsReach, HasNoWayOut, HasValidLabels}
use Rattle.pf_model.specs.FlowLaws.{IsSolved}
use Rattle.pf_model.proofs.Search.{size-le-length, size-set, has-set, has-set_new, has-set_here, only_source}
use Rattle.pf_model.proofs.Duality.{IsTight, leaves_parts, enters_parts, no_way_out, tight_from_value, value_from_tight, greatest_from_reach, smallest_from_reach, value_of_reach}
use Rattle.pf_model.proofs.Simple.{augmented, greatest_stops}
use Rattle.pf_model.proofs.Start.{zeros_are_flow, only_source_side, nearer}
use Rattle.pf_model.proofs.Labels.{labels_greatest}

-- a residual arc that leaves the side
record Crossing (g : FlowNetwork) (flow : List ℤ) (side : List Bool) : Type 0 where
  from : ℕ
  to : ℕ
  inside : has side from ≡ true
  outside : has side to ≡ false
  node : to < g.nodes
  step : IsResidual g flow from to

-- arc i is none, in either direction
pub record NoneAt (g : FlowNetwork) (flow : List ℤ) (side : List Bool) (i : ℕ) : Type 0 where
  pub on : has side (tail_at g i) ≡ true → has side (head_at g i) ≡ false → at_arc flow i <ℤ at_arc g.capacities i → ⊥
  pub back : has side (head_at g i) ≡ true → has side (tail_at g i) ≡ false → pos 0 <ℤ at_arc flow i → ⊥

look_on : (g : FlowNetwork) (flow : List ℤ) (side : List Bool) (i : ℕ) → IsProper g → i < length g.ends →
    Crossing g flow side ⊎ (has side (tail_at g i) ≡ true → has side (head_at g i) ≡ false → at_arc flow i <ℤ at_arc g.capacities i → ⊥)
look_on g flow side i proper low = elim (cases_Bool (has side (tail_at g i))) [
  | inr out ↦ inr (λ a b c. both_ways _ out a)
  | inl held ↦ elim (cases_Bool (has side (head_at g i))) [
    | inl also ↦ inr (λ a b c. both_ways _ b also)
    | inr out ↦ by_lt_z (at_arc flow i) (at_arc g.capacities i)
        (λ room. inl (record {
          from = tail_at g i;
          to = head_at g i;
          inside = held;
          outside = out;
          node = proper.heads i low;
          step = record { arc = i; in_range = low; by = inl (record { from = refl; to = refl; room = room }) };
        }))
        (λ full. inr (λ a b c. omega (arith, ints, full, c)))
  ]
]

look_back : (g : FlowNetwork) (flow : List ℤ) (side : List Bool) (i : ℕ) → IsProper g → i < length g.ends →
    Crossing g flow side ⊎ (has side (head_at g i) ≡ true → has side (tail_at g i) ≡ false → pos 0 <ℤ at_arc flow i → ⊥)
look_back g flow side i proper low = elim (cases_Bool (has side (head_at g i))) [
  | inr out ↦ inr (λ a b c. both_ways _ out a)
  | inl held ↦ elim (cases_Bool (has side (tail_at g i))) [
    | inl also ↦ inr (λ a b c. both_ways _ b also)
    | inr out ↦ by_lt_z (pos 0) (at_arc flow i)
        (λ room. inl (record {
          from = head_at g i;
          to = tail_at g i;
          inside = held;
          outside = out;
          node = proper.tails i low;
          step = record { arc = i; in_range = low; by = inr (record { from = refl; to = refl; room = room }) };
        }))
        (λ full. inr (λ a b c. omega (arith, ints, full, c)))
  ]
]

one_more : (P : ℕ → Type 0) (i : ℕ) → ((j : ℕ) → j < i → P j) → P i → (j : ℕ) → j < suc i → P j
one_more P i h here j low = elim (cases_lt j i) [
  | inl less ↦ h j less
  | inr more ↦ (let e : i ≡ j = omega arith in let Q : ℕ → Type 0 = P in subst Q e here)
]

look : (g : FlowNetwork) (flow : List ℤ) (side : List Bool) → IsProper g → (m : ℕ) → m ≤ length g.ends →
    Crossing g flow side ⊎ ((i : ℕ) → i < m → NoneAt g flow side i)
look g flow side proper zero low = inr (λ i h. absurd (omega (arith, h)))
look g flow side proper (suc m) low = elim (look g flow side proper m (omega arith)) [
  | inl found ↦ inl found
  | inr before ↦ elim (look_on g flow side m proper (omega arith)) [
    | inl found ↦ inl found
    | inr on ↦ elim (look_back g flow side m proper (omega arith)) [
      | inl found ↦ inl found
      | inr back ↦ inr (one_more (λ i. NoneAt g flow side i) m before (record { on = on; back = back }))
    ]
  ]
]

pub none_leaves : (g : FlowNetwork) (flow : List ℤ) (side : List Bool) → ((i : ℕ) → i < length g.ends → NoneAt g flow side i) → HasNoWayOut g flow side
none_leaves g flow side none v w held out r = elim r.by [
  | inl o ↦ (none r.arc r.in_range).on (rw o.from held) (rw o.to out) o.room
  | inr o ↦ (none r.arc r.in_range).back (rw o.from held) (rw o.to out) o.room
]

pub stays_inside : (g : FlowNetwork) (flow : List ℤ) (side : List Bool) → HasNoWayOut g flow side → has side g.source ≡ true →
    (k w : ℕ) → Walk g flow g.source w k → has side w ≡ true
stays_inside g flow side none h zero w walk = rw (← walk) h
stays_inside g flow side none h (suc k) w walk = elim (cases_Bool (has side w)) [
  | inl held ↦ held
  | inr out ↦ absurd (none walk.0 w (stays_inside g flow side none h k walk.0 walk.1) out walk.2)
]

-- the source reaches each node of the side
pub record IsReached (g : FlowNetwork) (flow : List ℤ) (side : List Bool) : Type 0 where
  pub full : length side ≡ g.nodes
  pub source : has side g.source ≡ true
  pub reached : (v : ℕ) → has side v ≡ true → Reaches g flow g.source v

take_in : (g : FlowNetwork) (flow : List ℤ) (side : List Bool) → IsReached g flow side → (c : Crossing g flow side) →
    IsReached g flow (set side c.to true)
take_in g flow side r c = record {
  full = length-set side c.to true ∙ r.full;
  source = has-set side c.to g.source r.source;
  reached = λ v h. elim (has-set_new side c.to v h) [
    | inl new ↦ let walk = r.reached c.from c.inside in rw new (suc walk.0, (c.from, walk.1, c.step))
    | inr old ↦ r.reached v old
  ];
}

-- the source alone is reached
pub source_reached : (g : FlowNetwork) (flow : List ℤ) → g.source < g.nodes → IsReached g flow (only_source_side g)
source_reached g flow low =
    let blank = replicate g.nodes false in
    let full : length blank ≡ g.nodes = length-replicate g.nodes false in
    record {
      full = length-set blank g.source true ∙ full;
      source = has-set_here blank g.source (omega (arith, full, low));
      reached = λ v h. (0, sym (only_source g.nodes g.source blank refl v h));
    }

-- a reached side that nothing leaves is what the source reaches
pub reach_when_closed : (g : FlowNetwork) (flow : List ℤ) (side : List Bool) → IsReached g flow side → HasNoWayOut g flow side → IsReach g flow side
reach_when_closed g flow side r none = record {
  full = r.full;
  exact = λ v low. (r.reached v, λ walk. stays_inside g flow side none r.source walk.0 v walk.1);
}

reach_from : (g : FlowNetwork) (flow : List ℤ) → IsProper g → (k : ℕ) (side : List Bool) → IsReached g flow side → g.nodes < size side + k →
    (reach : List Bool) × IsReach g flow reach
reach_from g flow proper zero side r h = absurd (let full = r.full in let most = size-le-length side in omega (arith, h, full, most))
reach_from g flow proper (suc k) side r h = elim (look g flow side proper (length g.ends) (omega arith)) [
  | inl c ↦
      let full = r.full in
      let node = c.node in
      let more = size-set side c.to (omega (arith, full, node)) c.outside in
      reach_from g flow proper k (set side c.to true) (take_in g flow side r c) (omega (arith, h, more))
  | inr none ↦ (side, reach_when_closed g flow side r (none_leaves g flow side none))
]

-- what the source reaches
pub reach_exists : (g : FlowNetwork) (flow : List ℤ) → IsProper g → (reach : List Bool) × IsReach g flow reach
reach_exists g flow proper =
    reach_from g flow proper (suc g.nodes) (only_source_side g) (source_reached g flow proper.source) (omega arith)

-- while the sink is reached, the flow is augmented
greatest_from : (g : FlowNetwork) → IsProper g → (k : ℕ) (flow : List ℤ) → IsFlow g flow →
    nat_abs (capacity g (only_source_side g) -ℤ value g flow) < k → IsSolved g
greatest_from g proper zero flow f h = absurd (omega (arith, h))
greatest_from g proper (suc k) flow f h =
    let found = reach_exists g flow proper in
    elim (cases_Bool (has found.0 g.sink)) [
      | inl held ↦
          let next = augmented g flow proper.apart f ((found.1.exact g.sink proper.sink).0 held) in
          let more = next.1.more in
          let close = nearer g flow next.0 proper.source proper.apart next.1.flow_is (omega (arith, ints, more)) in
          greatest_from g proper k next.0 next.1.flow_is (omega (arith, h, close))
      | inr out ↦ record {
        flow = flow;
        side = found.0;
        greatest = greatest_from_reach g flow found.0 proper f found.1 out;
        reach = found.1;
        smallest = smallest_from_reach g flow found.0 proper f found.1 out;
        meet = value_of_reach g flow found.0 proper f found.1 out;
      }
    ]

pub greatest_exists : (g : FlowNetwork) → IsProper g → IsSolved g
greatest_exists g proper =
    greatest_from g proper (suc (nat_abs (capacity g (only_source_side g) -ℤ value g (replicate (length g.ends) (pos 0)))))
    (replicate (length g.ends) (pos 0)) (zeros_are_flow g (replicate (length g.ends) (pos 0)) refl proper.low) (omega arith)

-- a flow is greatest exactly where the sink is not reached
pub greatest_exactly : (g : FlowNetwork) (flow : List ℤ) → IsProper g → IsFlow g flow → IsGreatest g flow ↔ (Reaches g flow g.source g.sink → ⊥)
greatest_exactly g flow proper f = (
  λ best. greatest_stops g flow proper.apart best,
  λ misses.
      let found = reach_exists g flow proper in
      elim (cases_Bool (has found.0 g.sink)) [
        | inl held ↦ absurd (misses ((found.1.exact g.sink proper.sink).0 held))
        | inr out ↦ greatest_from_reach g flow found.0 proper f found.1 out
      ],
)

-- the arcs that leave a side are full and those that enter it empty exactly where no residual arc leaves it
tight_from_no_way : (g : FlowNetwork) (flow : List ℤ) (side : List Bool) → HasNoWayOut g flow side → IsTight g flow side
tight_from_no_way g flow side none = record {
  full = λ i p.
      let parts = leaves_parts side _ p.passes in
      by_lt_z (at_arc flow i) (at_arc g.capacities i)
      (λ room. absurd (none _ _ parts.0 parts.1
      (record { arc = i; in_range = p.in_range; by = inl (record { from = refl; to = refl; room = room }) })))
      (λ full. full);
  empty = λ i p.
      let parts = enters_parts side _ p.passes in
      by_lt_z (pos 0) (at_arc flow i)
      (λ room. absurd (none _ _ parts.0 parts.1
      (record { arc = i; in_range = p.in_range; by = inr (record { from = refl; to = refl; room = room }) })))
      (λ full. full);
}

pub value_meets_exactly : (g : FlowNetwork) (flow : List ℤ) (side : List Bool) → IsProper g → IsFlow g flow → IsCut g side →
    (value g flow ≡ capacity g side) ↔ HasNoWayOut g flow side
value_meets_exactly g flow side proper f c = (
  λ e. no_way_out g flow side (tight_from_value g flow side proper f c (omega (arith, ints, e))),
  λ none. value_from_tight g flow side f c (tight_from_no_way g flow side none),
)

-- a preflow without active nodes is a flow
pub flow_from_preflow : (g : FlowNetwork) (flow : List ℤ) → IsPreflow g flow → ((v : ℕ) → IsActive g flow v → ⊥) → IsFlow g flow
flow_from_preflow g flow f none = record {
  within = f.within;
  kept = λ v low a b. by_lt_z (sum_out g.ends flow v) (sum_in g.ends flow v)
      (λ more. absurd (none v (record { node = low; not_source = a; not_sink = b; more = more })))
      (λ most. let given = f.given v low a b in omega (arith, ints, most, given));
}

pub preflow_greatest : (g : FlowNetwork) (flow : List ℤ) (labels : List ℕ) → IsProper g → IsPreflow g flow → HasValidLabels g flow labels →
    ((v : ℕ) → IsActive g flow v → ⊥) → IsGreatest g flow
preflow_greatest g flow labels proper f d none = labels_greatest g flow labels proper (flow_from_preflow g flow f none) d
