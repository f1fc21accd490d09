-- Newton's iteration begins, goes on with a denser set that costs less, and ends with the densest set.
use Rattle.std.proofs.Common.{◌≡◌, ℕ, zero, suc, ◌<◌, List, [], ◌∷◌, length, replicate, refl, Bool, true, false, cond, not, arith, ap, sym, ◌∙◌, inl, inr}
use Rattle.std.specs.Prelude.{ℤ, ◌+ℤ◌, ◌-ℤ◌, ◌*ℤ◌, ◌≤ℤ◌, ◌<ℤ◌, pos, ◌⊎◌, nat_abs}
use Rattle.std.proofs.lemmas.Int.{ints, by_lt_z}
use Rattle.std.proofs.lemmas.Bool.{cases_Bool, both_ways}
use Rattle.std.proofs.lemmas.List.{length-replicate}
use Rattle.pf_model.specs.Fraction.{Fraction, IsParameter, IsAtMost, IsBelow}
use Rattle.pf_model.specs.Cut.{has, at_arc, capacity, IsLeast, IsSmallestLeast}
use Rattle.pf_model.specs.Network.{network_at}
use Rattle.pf_model.proofs.Sums.{sum_where_none}
use Rattle.pf_model.proofs.Balance.{inside}
use Rattle.pf_model.proofs.Integers.{mul_assoc, mul_comm, mul_add, mul_most, mul_less, mul_most_inverse}
use Rattle.pf_graph.specs.WeightedGraph.{WeightedGraph, IsWeightedGraph, cost_of, lies_in}
use Rattle.pf_dense.specs.Densest.{weight_inside, cost_within, HasPositiveCosts, HasDensity, IsNonempty, IsVertexSet, IsDensest}
use Rattle.pf_dense.specs.Reduction.{dense_net, side_of, outside_of}
use Rattle.pf_dense.specs.Newton.{deficit, IsStep, IsNewton}
use Rattle.pf_dense.proofs.OneAnswer.{costs_some, cost_low}
use Rattle.pf_dense.proofs.NetLemmas.{side_cut, side_capacity, side_at, cut_is_side, outside_full, at_cut, net_cut}
use Rattle.pf_model.proofs.Facts.{off_both}

turn : (a b : Bool) → (not a ≡ true → not b ≡ true) → b ≡ true → a ≡ true
turn true b h e = refl
turn false true h e = let f = h refl in cc
turn false false h e = cc

pub step_of_cut : (g : WeightedGraph) (x : Fraction) (side : List Bool) → IsWeightedGraph g → IsSmallestLeast (network_at (dense_net g) x) side → IsStep g x (outside_of g side)
step_of_cut g x side graph s =
    let net = network_at (dense_net g) x in
    let set = outside_of g side in
    let cut = net_cut g x side s.least.cut in
    let full = outside_full g side cut.full in
    let same = cut_is_side g side cut in
    let here = ap (capacity net) same ∙ side_capacity g x set graph full in
    record {
      full = full;
      least = λ other long.
          let there = side_capacity g x other graph long in
          let most = s.least.least (side_of other) (at_cut g x (side_of other) (side_cut g other long)) in
          omega (arith, ints, here, there, most);
      greatest = λ other long tie v held.
          let there = side_capacity g x other graph long in
          let least : IsLeast net (side_of other) = record {
            cut = at_cut g x (side_of other) (side_cut g other long);
            least = λ third c. let most = s.least.least third c in omega (arith, ints, here, there, most, tie);
          } in
          let low = inside other v held in
          let within = s.smallest (side_of other) least (suc v) in
          let a = side_at set v (omega (arith, low, long, full)) in
          let b = side_at other v low in
          turn (has set v) (has other v) (λ h. sym b ∙ within (ap (λ l. has l (suc v)) same ∙ a ∙ h)) held;
    }

-- a vertex, or none
pub all_off : (b : Bool) (set : List Bool) → b ≡ false → ((v : ℕ) → has set v ≡ false) → (v : ℕ) → has (b ∷ set) v ≡ false
all_off b set off none zero = off
all_off b set off none (suc v) = none v

some_or_none : (set : List Bool) → IsNonempty set ⊎ ((v : ℕ) → has set v ≡ false)
some_or_none [] = inr (λ v. refl)
some_or_none (b ∷ set) = elim (cases_Bool b) [
  | inl held ↦ inl (record { vertex = 0; held = held })
  | inr off ↦ elim (some_or_none set) [
    | inl some ↦ inl (record { vertex = suc some.vertex; held = some.held })
    | inr none ↦ inr (all_off b set off none)
  ]
]

off_step : (b : Bool) (x rest : ℤ) → b ≡ false → rest ≡ pos 0 → cond b x (pos 0) +ℤ rest ≡ pos 0
off_step true x rest e h = cc
off_step false x rest e h = omega (arith, ints, h)

pub cost_off : (costs : List ℤ) (set : List Bool) → ((v : ℕ) → has set v ≡ false) → cost_of costs set ≡ pos 0
cost_off [] set h = refl
cost_off (c ∷ costs) [] h = refl
cost_off (c ∷ costs) (b ∷ set) h = off_step b c _ (h 0) (cost_off costs set (λ v. h (suc v)))

pub weight_off : (g : WeightedGraph) (set : List Bool) → ((v : ℕ) → has set v ≡ false) → weight_inside g set ≡ pos 0
weight_off g set h = sum_where_none (lies_in set) g.ends g.weights (λ edge. off_both (has set edge.0) (has set edge.1) (h edge.0))

pub no_deficit : (p q c w : ℤ) → q *ℤ w ≡ p *ℤ c → (p *ℤ c) -ℤ (q *ℤ w) ≡ pos 0
no_deficit p q c w e = omega (arith, ints, e)

pub zero_deficit : (p q c w : ℤ) → c ≡ pos 0 → w ≡ pos 0 → (p *ℤ c) -ℤ (q *ℤ w) ≡ pos 0
zero_deficit p q c w e h = rw (e, h) (omega (arith, ints))

pub step_some : (g : WeightedGraph) (x : Fraction) (old set : List Bool) → IsVertexSet g old → HasDensity g x old → IsStep g x set → IsNonempty set
step_some g x old set vertices density s = elim (some_or_none set) [
  | inl some ↦ some
  | inr none ↦ absurd
      (let a = no_deficit x.p x.q (cost_within g old) (weight_inside g old) density in
      let b = zero_deficit x.p x.q (cost_within g set) (weight_inside g set) (cost_off g.costs set none) (weight_off g set none) in
      both_ways _ (none vertices.some.vertex) (s.greatest old vertices.full (a ∙ sym b) vertices.some.vertex vertices.some.held))
]

-- a set of the density y is at most as dense as x where y is at most x, and denser where y is above x
scaled_weight : (p q p' q' w c : ℤ) → q' *ℤ w ≡ p' *ℤ c → q' *ℤ (q *ℤ w) ≡ c *ℤ (p' *ℤ q)
scaled_weight p q p' q' w c same =
    sym (mul_assoc q' q w) ∙ ap (λ n. n *ℤ w) (mul_comm q' q) ∙ mul_assoc q q' w ∙ ap (λ n. q *ℤ n) same
    ∙ sym (mul_assoc q p' c) ∙ mul_comm (q *ℤ p') c ∙ ap (λ n. c *ℤ n) (mul_comm q p')

scaled_cost : (p q' c : ℤ) → q' *ℤ (p *ℤ c) ≡ c *ℤ (p *ℤ q')
scaled_cost p q' c = sym (mul_assoc q' p c) ∙ mul_comm (q' *ℤ p) c ∙ ap (λ n. c *ℤ n) (mul_comm q' p)

at_most_step : (p q p' q' w c : ℤ) → pos 1 ≤ℤ q' → pos 1 ≤ℤ c → q' *ℤ w ≡ p' *ℤ c → (p' *ℤ q) ≤ℤ (p *ℤ q') → (q *ℤ w) ≤ℤ (p *ℤ c)
at_most_step p q p' q' w c unit heavy same order =
    let a = mul_most c (p' *ℤ q) (p *ℤ q') (omega (arith, ints, heavy)) order in
    let e = scaled_weight p q p' q' w c same in
    let f = scaled_cost p q' c in
    mul_most_inverse q' (q *ℤ w) (p *ℤ c) (omega (arith, ints, unit)) (omega (arith, ints, a, e, f))

below_step : (p q p' q' w c : ℤ) → pos 1 ≤ℤ q' → pos 1 ≤ℤ c → q' *ℤ w ≡ p' *ℤ c → (p *ℤ q') <ℤ (p' *ℤ q) → (p *ℤ c) <ℤ (q *ℤ w)
below_step p q p' q' w c unit heavy same order =
    let a = mul_less c (p *ℤ q') (p' *ℤ q) (omega (arith, ints, heavy)) order in
    let e = scaled_weight p q p' q' w c same in
    let f = scaled_cost p q' c in
    by_lt_z (p *ℤ c) (q *ℤ w) (λ less. less)
    (λ more. absurd (let b = mul_most q' (q *ℤ w) (p *ℤ c) (omega (arith, ints, unit)) more in omega (arith, ints, a, b, e, f)))

-- the set lacks the least at x and is denser than that, so what is denser than the set costs less
costs_less : (p q p' q' w c v d : ℤ) → pos 1 ≤ℤ q → pos 1 ≤ℤ q' → pos 1 ≤ℤ c → q' *ℤ w ≡ p' *ℤ c → (p' *ℤ d) <ℤ (q' *ℤ v) →
    ((p *ℤ c) -ℤ (q *ℤ w)) ≤ℤ ((p *ℤ d) -ℤ (q *ℤ v)) → (p *ℤ c) <ℤ (q *ℤ w) → d <ℤ c
costs_less p q p' q' w c v d unit unit' heavy same denser least above =
    let a = mul_less c (p' *ℤ d) (q' *ℤ v) (omega (arith, ints, heavy)) denser in
    let e1 : c *ℤ (p' *ℤ d) ≡ q' *ℤ (w *ℤ d) =
    sym (mul_assoc c p' d) ∙ ap (λ n. n *ℤ d) (mul_comm c p' ∙ sym same) ∙ mul_assoc q' w d in
    let e2 : c *ℤ (q' *ℤ v) ≡ q' *ℤ (v *ℤ c) = mul_comm c (q' *ℤ v) ∙ mul_assoc q' v c in
    let across : (w *ℤ d) <ℤ (v *ℤ c) = by_lt_z (w *ℤ d) (v *ℤ c) (λ less. less)
    (λ more. absurd (let b = mul_most q' (v *ℤ c) (w *ℤ d) (omega (arith, ints, unit')) more in omega (arith, ints, a, b, e1, e2))) in
    let s2 = mul_less q (w *ℤ d) (v *ℤ c) (omega (arith, ints, unit)) across in
    let gap : ℤ = (q *ℤ w) -ℤ (p *ℤ c) in
    let s3 = mul_most c (q *ℤ v) ((p *ℤ d) +ℤ gap) (omega (arith, ints, heavy)) (omega (arith, ints, least)) in
    let m = mul_add c (p *ℤ d) gap in
    let f1 : c *ℤ (q *ℤ v) ≡ q *ℤ (v *ℤ c) = mul_comm c (q *ℤ v) ∙ mul_assoc q v c in
    let f2 : c *ℤ (p *ℤ d) ≡ d *ℤ (p *ℤ c) =
    sym (mul_assoc c p d) ∙ mul_comm (c *ℤ p) d ∙ ap (λ n. d *ℤ n) (mul_comm c p) in
    let f3 : q *ℤ (w *ℤ d) ≡ d *ℤ (q *ℤ w) = sym (mul_assoc q w d) ∙ mul_comm (q *ℤ w) d in
    let whole : q *ℤ w ≡ gap +ℤ (p *ℤ c) = omega (arith, ints) in
    let f4 = ap (λ n. d *ℤ n) whole ∙ mul_add d gap (p *ℤ c) in
    by_lt_z d c (λ less. less)
    (λ more. absurd
    (let t = mul_most gap c d (omega (arith, ints, above)) more in
    let u = mul_comm gap c in
    let u' = mul_comm gap d in
    omega (arith, ints, s2, s3, m, f1, f2, f3, f4, t, u, u')))

-- one step more
pub newton_smaller : (g : WeightedGraph) (x y : Fraction) (old set : List Bool) → IsWeightedGraph g → HasPositiveCosts g → IsNewton g x old → IsVertexSet g set →
    IsParameter y → HasDensity g y set → IsBelow x y → cost_within g set <ℤ cost_within g old
newton_smaller g x y old set graph positive n vertices unit density order =
    let above = below_step x.p x.q y.p y.q (weight_inside g set) (cost_within g set) unit (costs_some g set graph positive vertices) density order in
    n.fewer set vertices (omega (arith, ints, above))

pub newton_goes_on : (g : WeightedGraph) (x y : Fraction) (old set : List Bool) → IsWeightedGraph g → HasPositiveCosts g → IsNewton g x old → IsStep g x set → IsVertexSet g set →
    IsParameter y → HasDensity g y set → IsBelow x y → IsNewton g y set
newton_goes_on g x y old set graph positive n s vertices unit density order =
    let heavy = costs_some g set graph positive vertices in
    let above = below_step x.p x.q y.p y.q (weight_inside g set) (cost_within g set) unit heavy density order in
    record {
      parameter = unit;
      vertices = vertices;
      density = density;
      fewer = λ other o denser.
          costs_less x.p x.q y.p y.q (weight_inside g set) (cost_within g set) (weight_inside g other) (cost_within g other) n.parameter unit heavy density
          (omega (arith, ints, denser)) (s.least other o.full) above;
    }

pub newton_ends : (g : WeightedGraph) (x y : Fraction) (old set : List Bool) → IsWeightedGraph g → HasPositiveCosts g → IsNewton g x old → IsStep g x set → IsVertexSet g set →
    IsParameter y → HasDensity g y set → IsAtMost y x → IsDensest g x set
newton_ends g x y old set graph positive n s vertices unit density order =
    let heavy = costs_some g set graph positive vertices in
    let low = at_most_step x.p x.q y.p y.q (weight_inside g set) (cost_within g set) unit heavy density order in
    let before = no_deficit x.p x.q (cost_within g old) (weight_inside g old) n.density in
    let most = s.least old n.vertices.full in
    let here : x.q *ℤ weight_inside g set ≡ x.p *ℤ cost_within g set = omega (arith, ints, low, before, most) in
    let none = no_deficit x.p x.q (cost_within g set) (weight_inside g set) here in
    record {
      parameter = n.parameter;
      vertices = vertices;
      density = here;
      greatest = λ other o. let h = s.least other o.full in omega (arith, ints, h, none);
      holds = λ other o tie. s.greatest other o.full (no_deficit x.p x.q (cost_within g other) (weight_inside g other) tie ∙ sym none);
    }

-- all vertices
most_cost_step : (b : Bool) (c x y : ℤ) → pos 1 ≤ℤ c → x ≤ℤ y → (cond b c (pos 0) +ℤ x) ≤ℤ (c +ℤ y)
most_cost_step true c x y h l = omega (arith, ints, l)
most_cost_step false c x y h l = omega (arith, ints, h, l)

cost_most : (costs : List ℤ) (set : List Bool) → ((v : ℕ) → v < length costs → pos 1 ≤ℤ at_arc costs v) → cost_of costs set ≤ℤ cost_of costs (replicate (length costs) true)
cost_most [] set h = omega (arith, ints)
cost_most (c ∷ costs) [] h =
    let low = cost_low costs (replicate (length costs) true) (λ v low. h (suc v) (omega (arith, low))) in
    let here = h 0 (omega arith) in
    omega (arith, ints, low, here)
cost_most (c ∷ costs) (b ∷ set) h =
    most_cost_step b c _ _ (h 0 (omega arith)) (cost_most costs set (λ v low. h (suc v) (omega (arith, low))))

all_or_less : (costs : List ℤ) (set : List Bool) → length set ≡ length costs → ((v : ℕ) → v < length costs → pos 1 ≤ℤ at_arc costs v) →
    (set ≡ replicate (length costs) true) ⊎ (cost_of costs set <ℤ cost_of costs (replicate (length costs) true))
all_or_less [] [] full h = inl refl
all_or_less [] (b ∷ set) full h = absurd (omega arith)
all_or_less (c ∷ costs) [] full h = absurd (omega arith)
all_or_less (c ∷ costs) (true ∷ set) full h = elim (all_or_less costs set (omega arith) (λ v low. h (suc v) (omega (arith, low)))) [
  | inl same ↦ inl (ap (λ l. true ∷ l) same)
  | inr less ↦ inr (omega (arith, ints, less))
]
all_or_less (c ∷ costs) (false ∷ set) full h =
    let here = h 0 (omega arith) in
    let most = cost_most costs set (λ v low. h (suc v) (omega (arith, low))) in
    inr (omega (arith, ints, here, most))

pub all_vertices : (g : WeightedGraph) (set : List Bool) → IsWeightedGraph g → set ≡ replicate g.nodes true → IsVertexSet g set
all_vertices g set graph same = record {
  full = ap length same ∙ length-replicate g.nodes true;
  some = record { vertex = 0; held = ap (λ l. has l 0) same ∙ first_of g.nodes graph.some };
}
  where
    first_of : (n : ℕ) → 0 < n → has (replicate n true) 0 ≡ true
    first_of zero low = absurd (omega arith)
    first_of (suc n) low = refl

pub newton_begins : (g : WeightedGraph) (x : Fraction) (set : List Bool) → IsWeightedGraph g → HasPositiveCosts g → set ≡ replicate g.nodes true → IsParameter x → HasDensity g x set →
    IsNewton g x set
newton_begins g x set graph positive same unit density =
    let wide = graph.costs_full in
    record {
      parameter = unit;
      vertices = all_vertices g set graph same;
      density = density;
      fewer = λ other o denser.
          let full = o.full in
          let whole : set ≡ replicate (length g.costs) true = same ∙ ap (λ n. replicate n true) (sym wide) in
          elim (all_or_less g.costs other (omega (arith, full, wide)) (λ v low. positive.low v (omega (arith, low, wide)))) [
            | inl all ↦ absurd
                (let e = ap (deficit g x) (all ∙ sym whole) in
                let none = no_deficit x.p x.q (cost_within g set) (weight_inside g set) density in
                omega (arith, ints, denser, e, none))
            | inr less ↦ rw whole less
          ];
    }

-- the measure
pub measure_falls : (a b : ℤ) → pos 0 ≤ℤ a → a <ℤ b → nat_abs a < nat_abs b
measure_falls a b low less = omega (arith, ints, low, less)
