-- Tests that compute whether lists certify a curve, for networks that are written out.
use Rattle.std.proofs.Common.{◌≡◌, ℕ, zero, suc, ◌+◌, ◌-◌, ◌<◌, ◌≤◌, List, [], ◌∷◌, length, set, refl, Bool, true, false, not, ◌&&◌, eqb, arith, ap, ◌∙◌, inl, inr, subst}
use Rattle.std.specs.Prelude.{ℤ, ◌<ℤ◌, pos, int_le, int_lt}
use Rattle.std.specs.Ordering.{int_eq}
use Rattle.std.proofs.lemmas.Int.{ints}
use Rattle.std.proofs.lemmas.Bool.{and_parts, eqb-true, cases_lt}
use Rattle.std.proofs.lemmas.Bool.Decides.{Decides-int_eq}
use Rattle.std.proofs.lemmas.List.{length-set}
use Rattle.pf_model.specs.Fraction.{Fraction, IsEqual, is_below}
use Rattle.pf_model.specs.Cut.{FlowNetwork, has, at_arc, tail_at, head_at, capacity}
use Rattle.pf_model.specs.Flow.{value}
use Rattle.pf_model.specs.Residual.{IsResidual, Reaches, IsReach}
use Rattle.pf_model.specs.Network.{Network, IsNetworkCut, network_at, cut_b}
use Rattle.pf_model.specs.Curve.{CertifiesCurve, own_point, point_at, cut_at, flow_at}
use Rattle.pf_model.proofs.Search.{has-set, has-set_new}
use Rattle.pf_model.proofs.Start.{only_source_side}
use Rattle.pf_model.proofs.Exists.{IsReached, NoneAt, none_leaves, source_reached, reach_when_closed}
use Rattle.pf_model.proofs.FlowTest.{flow_test, flow_from_test}
use Rattle.pf_model.proofs.Lowest.{below_test}
use Rattle.pf_model.proofs.Affine.{le_told}

-- a test of each number below k
abbrev pub all_below : (ℕ → Bool) → ℕ → Bool
all_below test zero = true
all_below test (suc k) = test k && all_below test k

pub all_told : (test : ℕ → Bool) (k : ℕ) → all_below test k ≡ true → (i : ℕ) → i < k → test i ≡ true
all_told test zero h i low = absurd (omega (arith, low))
all_told test (suc k) h i low =
    let parts = and_parts (test k) (all_below test k) h in
    elim (cases_lt i k) [
      | inl less ↦ all_told test k parts.1 i less
      | inr last ↦ (let e : k ≡ i = omega (arith, low, last) in subst (λ n. test n ≡ true) e parts.0)
    ]

pub less_told : (x y : ℤ) → int_lt x y ≡ true → x <ℤ y
less_told x y h = omega (arith, ints, h)

less_tells : (x y : ℤ) → x <ℤ y → int_lt x y ≡ true
less_tells x y h = grind (arith, ints)

-- what the source reaches: the arcs are gone through once for each node
abbrev pub mark_if : Bool → ℕ → List Bool → List Bool
mark_if true v side = set side v true
mark_if false v side = side

abbrev pub spread : FlowNetwork → List ℤ → ℕ → List Bool → List Bool
spread g flow zero side = side
spread g flow (suc i) side =
    let before = spread g flow i side in
    let on = mark_if (has before (tail_at g i) && int_lt (at_arc flow i) (at_arc g.capacities i)) (head_at g i) before in
    mark_if (has on (head_at g i) && int_lt (pos 0) (at_arc flow i)) (tail_at g i) on

abbrev pub rounds : FlowNetwork → List ℤ → ℕ → List Bool
rounds g flow zero = only_source_side g
rounds g flow (suc k) = spread g flow (length g.ends) (rounds g flow k)

mark_reached : (g : FlowNetwork) (flow : List ℤ) (side : List Bool) (v : ℕ) → IsReached g flow side → (here : Bool) →
    (here ≡ true → Reaches g flow g.source v) → IsReached g flow (mark_if here v side)
mark_reached g flow side v r false h = r
mark_reached g flow side v r true h = record {
  full = length-set side v true ∙ r.full;
  source = has-set side v g.source r.source;
  reached = λ w held. elim (has-set_new side v w held) [
    | inl new ↦ rw new (h refl)
    | inr old ↦ r.reached w old
  ];
}

one_step : (g : FlowNetwork) (flow : List ℤ) (v w : ℕ) → Reaches g flow g.source v → IsResidual g flow v w → Reaches g flow g.source w
one_step g flow v w walk r = (suc walk.0, (v, walk.1, r))

on_reached : (g : FlowNetwork) (flow : List ℤ) (side : List Bool) (i : ℕ) → IsReached g flow side → i < length g.ends →
    (has side (tail_at g i) && int_lt (at_arc flow i) (at_arc g.capacities i)) ≡ true → Reaches g flow g.source (head_at g i)
on_reached g flow side i r low h =
    let parts = and_parts (has side (tail_at g i)) (int_lt (at_arc flow i) (at_arc g.capacities i)) h in
    one_step g flow (tail_at g i) (head_at g i) (r.reached (tail_at g i) parts.0)
    (record { arc = i; in_range = low; by = inl (record { from = refl; to = refl; room = less_told _ _ parts.1 }) })

back_reached : (g : FlowNetwork) (flow : List ℤ) (side : List Bool) (i : ℕ) → IsReached g flow side → i < length g.ends →
    (has side (head_at g i) && int_lt (pos 0) (at_arc flow i)) ≡ true → Reaches g flow g.source (tail_at g i)
back_reached g flow side i r low h =
    let parts = and_parts (has side (head_at g i)) (int_lt (pos 0) (at_arc flow i)) h in
    one_step g flow (head_at g i) (tail_at g i) (r.reached (head_at g i) parts.0)
    (record { arc = i; in_range = low; by = inr (record { from = refl; to = refl; room = less_told _ _ parts.1 }) })

spread_reached : (g : FlowNetwork) (flow : List ℤ) (side : List Bool) → IsReached g flow side → (i : ℕ) → i ≤ length g.ends →
    IsReached g flow (spread g flow i side)
spread_reached g flow side r zero low = r
spread_reached g flow side r (suc i) low =
    let before = spread_reached g flow side r i (omega (arith, low)) in
    let on =
    mark_reached g flow (spread g flow i side) (head_at g i) before _
    (on_reached g flow (spread g flow i side) i before (omega (arith, low))) in
    mark_reached g flow _ (tail_at g i) on _ (back_reached g flow _ i on (omega (arith, low)))

rounds_reached : (g : FlowNetwork) (flow : List ℤ) → g.source < g.nodes → (k : ℕ) → IsReached g flow (rounds g flow k)
rounds_reached g flow low zero = source_reached g flow low
rounds_reached g flow low (suc k) = spread_reached g flow (rounds g flow k) (rounds_reached g flow low k) (length g.ends) (omega arith)

abbrev pub none_test : FlowNetwork → List ℤ → List Bool → ℕ → Bool
none_test g flow side i =
    not (has side (tail_at g i) && (not (has side (head_at g i)) && int_lt (at_arc flow i) (at_arc g.capacities i)))
    && not (has side (head_at g i) && (not (has side (tail_at g i)) && int_lt (pos 0) (at_arc flow i)))

three_false : (x y z : Bool) → not (x && (not y && z)) ≡ true → x ≡ true → y ≡ false → z ≡ true → ⊥
three_false x y z h a b c = grind arith

none_told : (g : FlowNetwork) (flow : List ℤ) (side : List Bool) (i : ℕ) → none_test g flow side i ≡ true → NoneAt g flow side i
none_told g flow side i h =
    let parts = and_parts
    (not (has side (tail_at g i) && (not (has side (head_at g i)) && int_lt (at_arc flow i) (at_arc g.capacities i))))
    (not (has side (head_at g i) && (not (has side (tail_at g i)) && int_lt (pos 0) (at_arc flow i)))) h in
    record {
      on = λ a b c. three_false _ _ _ parts.0 a b (less_tells _ _ c);
      back = λ a b c. three_false _ _ _ parts.1 a b (less_tells _ _ c);
    }

-- the same truth values
abbrev pub alike : List Bool → List Bool → Bool
alike [] [] = true
alike [] (y ∷ ys) = false
alike (x ∷ xs) [] = false
alike (true ∷ xs) (y ∷ ys) = y && alike xs ys
alike (false ∷ xs) (y ∷ ys) = not y && alike xs ys

false_told : (y : Bool) → not y ≡ true → false ≡ y
false_told true h = cc
false_told false h = refl

true_told : (y : Bool) → y ≡ true → true ≡ y
true_told true h = refl
true_told false h = cc

alike_told : (xs ys : List Bool) → alike xs ys ≡ true → xs ≡ ys
alike_told [] [] h = refl
alike_told [] (y ∷ ys) h = cc
alike_told (x ∷ xs) [] h = cc
alike_told (true ∷ xs) (y ∷ ys) h =
    let parts = and_parts y (alike xs ys) h in
    ap (λ b. b ∷ xs) (true_told y parts.0) ∙ ap (λ l. y ∷ l) (alike_told xs ys parts.1)
alike_told (false ∷ xs) (y ∷ ys) h =
    let parts = and_parts (not y) (alike xs ys) h in
    ap (λ b. b ∷ xs) (false_told y parts.0) ∙ ap (λ l. y ∷ l) (alike_told xs ys parts.1)

abbrev pub reach_test : FlowNetwork → List ℤ → List Bool → Bool
reach_test g flow side = alike (rounds g flow g.nodes) side && all_below (none_test g flow side) (length g.ends)

pub reach_from_test : (g : FlowNetwork) (flow : List ℤ) (side : List Bool) → g.source < g.nodes → reach_test g flow side ≡ true → IsReach g flow side
reach_from_test g flow side low h =
    let parts = and_parts (alike (rounds g flow g.nodes) side) (all_below (none_test g flow side) (length g.ends)) h in
    reach_when_closed g flow side
    (subst (λ l. IsReached g flow l) (alike_told (rounds g flow g.nodes) side parts.0) (rounds_reached g flow low g.nodes))
    (none_leaves g flow side (λ i low. none_told g flow side i (all_told (none_test g flow side) (length g.ends) parts.1 i low)))

abbrev pub cut_test : Network → List Bool → Bool
cut_test net side = eqb (length side) net.nodes && (has side net.source && not (has side net.sink))

not_told : (x : Bool) → not x ≡ true → x ≡ false
not_told true h = cc
not_told false h = refl

cut_told : (net : Network) (side : List Bool) → cut_test net side ≡ true → IsNetworkCut net side
cut_told net side h =
    let parts = and_parts (eqb (length side) net.nodes) (has side net.source && not (has side net.sink)) h in
    let more = and_parts (has side net.source) (not (has side net.sink)) parts.1 in
    record { full = eqb-true (length side) net.nodes parts.0; with_source = more.0; without_sink = not_told (has side net.sink) more.1 }

abbrev pub flow_test_at : Network → List Fraction → List (List ℤ) → ℕ → Bool
flow_test_at net points flows j = flow_test (network_at net (point_at net points j)) (flow_at flows j)

abbrev pub meets_test : Network → List Fraction → List (List Bool) → List (List ℤ) → ℕ → ℕ → Bool
meets_test net points cuts flows j i =
    int_eq (value (network_at net (point_at net points j)) (flow_at flows j)) (capacity (network_at net (point_at net points j)) (cut_at cuts i))

abbrev pub reach_test_at : Network → List Fraction → List (List Bool) → List (List ℤ) → ℕ → Bool
reach_test_at net points cuts flows i =
    reach_test (network_at net (point_at net points (own_point net.sense i))) (flow_at flows (own_point net.sense i)) (cut_at cuts i)

abbrev pub slope_test : Network → List (List Bool) → ℕ → Bool
slope_test net cuts i = int_lt (cut_b net (cut_at cuts (i + 1))) (cut_b net (cut_at cuts i))

-- every field computes where the network and the lists are written out
pub record PassesTests (net : Network) (points : List Fraction) (cuts : List (List Bool)) (flows : List (List ℤ)) : Type 0 where
  pub source : net.source < net.nodes
  pub some : 0 < length cuts
  pub point_count : length points ≡ length cuts + 1
  pub flow_count : length flows ≡ length points
  pub parameters : all_below (λ i. int_le (pos 1) (point_at net points i).q) (length points) ≡ true
  pub low : IsEqual (point_at net points 0) net.low
  pub high : IsEqual (point_at net points (length cuts)) net.high
  pub rise : all_below (λ i. is_below (point_at net points i) (point_at net points (i + 1))) (length cuts) ≡ true
  pub flow_is : all_below (flow_test_at net points flows) (length points) ≡ true
  pub left : all_below (λ i. meets_test net points cuts flows i i) (length cuts) ≡ true
  pub right : all_below (λ i. meets_test net points cuts flows (i + 1) i) (length cuts) ≡ true
  pub reach : all_below (reach_test_at net points cuts flows) (length cuts) ≡ true
  pub cut : all_below (λ i. cut_test net (cut_at cuts i)) (length cuts) ≡ true
  pub slopes : all_below (slope_test net cuts) (length cuts - 1) ≡ true

pub certified_by_tests : (net : Network) (points : List Fraction) (cuts : List (List Bool)) (flows : List (List ℤ)) →
    PassesTests net points cuts flows → CertifiesCurve net points cuts flows
certified_by_tests net points cuts flows t = record {
  division = record {
    some = t.some;
    count = t.point_count;
    parameters = λ i low. le_told _ _ (all_told (λ i. int_le (pos 1) (point_at net points i).q) (length points) t.parameters i low);
    low = t.low;
    high = t.high;
    rise = λ i low.
        (below_test (point_at net points i) (point_at net points (i + 1))).0
        (all_told (λ i. is_below (point_at net points i) (point_at net points (i + 1))) (length cuts) t.rise i low);
  };
  count = t.flow_count;
  flow_is = λ j low.
      flow_from_test (network_at net (point_at net points j)) (flow_at flows j) (all_told (flow_test_at net points flows) (length points) t.flow_is j low);
  left = λ i low. (Decides-int_eq _ _).0 (all_told (λ i. meets_test net points cuts flows i i) (length cuts) t.left i low);
  right = λ i low. (Decides-int_eq _ _).0 (all_told (λ i. meets_test net points cuts flows (i + 1) i) (length cuts) t.right i low);
  reach = λ i low.
      reach_from_test (network_at net (point_at net points (own_point net.sense i))) (flow_at flows (own_point net.sense i)) (cut_at cuts i) t.source
      (all_told (reach_test_at net points cuts flows) (length cuts) t.reach i low);
  cut = λ i low. cut_told net (cut_at cuts i) (all_told (λ i. cut_test net (cut_at cuts i)) (length cuts) t.cut i low);
  slopes = λ i low. less_told _ _ (all_told (slope_test net cuts) (length cuts - 1) t.slopes i (omega (arith, low)));
}
