-- A flow in the network: what a part is charged comes from the source, and what a product charges goes to the sink.
use Rattle.std.proofs.Common.{◌≡◌, ◌≢◌, ℕ, zero, suc, ◌+◌, ◌^◌, ◌<◌, List, [], ◌∷◌, length, get_or, map, refl, Bool, true, false, cond, eqb, arith, ap, sym, ◌∙◌}
use Rattle.std.specs.Prelude.{ℤ, ◌+ℤ◌, ◌*ℤ◌, ◌≤ℤ◌, ◌<ℤ◌, pos, ◌==◌}
use Rattle.std.proofs.lemmas.Int.{ints}
use Rattle.std.proofs.lemmas.Bool.Decides.{nat_tests}
use Rattle.std.proofs.lemmas.List.{length-map}
use Rattle.pf_model.specs.Fraction.{Fraction, IsParameter}
use Rattle.pf_model.specs.Cut.{at_arc, sum_where}
use Rattle.pf_model.specs.Flow.{IsFlow, sum_out, sum_in}
use Rattle.pf_model.specs.Network.{ends_of, capacity_at, network_at}
use Rattle.pf_model.proofs.Integers.{mul_comm, mul_most}
use Rattle.pf_model.proofs.Sums.{sum_where_none, sum_where_same}
use Rattle.pf_select.specs.Problem.{SelectionProblem, IsSelectionProblem, IsBoundedProblem, product_at}
use Rattle.pf_select.specs.Certificate.{charged_by, charged_on, AreCharges}
use Rattle.pf_select.specs.Reduction.{product_node, sink_node, select_net, charges_of}
use Rattle.pf_select.proofs.Grouping.{same_at, sum_none, sum_one}
use Rattle.pf_select.proofs.NetArcs.{arcs_full, arc_part, arc_need, arc_product, capacity_is, sum_over, on_parts, on_products, at_parts, at_charges, at_products, length_parts, length_charges, length_products}

-- tests of nodes
apart_zero : (i : ℕ) → eqb 0 (suc i) ≡ false
apart_zero i = grind (arith, nat_tests)

same_suc : (i k : ℕ) → eqb (suc i) (suc k) ≡ eqb i k
same_suc i k = grind (arith, nat_tests)

turned : (i k : ℕ) → eqb (suc i) (suc k) ≡ eqb k i
turned i k = grind (arith, nat_tests)

apart : (i k : ℕ) → i ≢ k → eqb i k ≡ false
apart i k h = grind (arith, nat_tests)

shifted : (n i k : ℕ) → eqb (suc (n + i)) (suc (n + k)) ≡ eqb i k
shifted n i k = grind (arith, nat_tests)

shifted_turned : (n i k : ℕ) → eqb (suc (n + i)) (suc (n + k)) ≡ eqb k i
shifted_turned n i k = grind (arith, nat_tests)

pub none_at : (test : ℕ × ℕ → Bool) (needs : List (ℕ × ℕ)) (xs : List ℤ) → ((k : ℕ) → k < length needs → test (get_or needs k (0, 0)) ≡ false) →
    sum_where test needs xs ≡ pos 0
none_at test needs xs h = same_at test (λ need. false) needs xs h ∙ sum_where_none (λ need. false) needs xs (λ need. refl)

abbrev pub IsWide : SelectionProblem → List ℤ → Type 0
IsWide p flow = length flow ≡ length p.costs + (length p.needs + length p.gains)

abbrev pub ends : SelectionProblem → List (ℕ × ℕ)
ends p = map ends_of (select_net p).arcs

module _ (p : SelectionProblem) (flow : List ℤ) (problem : IsSelectionProblem p) (full : IsWide p flow) where
  part_in : (i : ℕ) → i < length p.costs → sum_in (ends p) flow (suc i) ≡ at_arc flow i
  part_in i low =
      let wide = length_parts p flow full in
      let deep = length_products p flow full in
      let all = sum_over p (λ arc. arc.1 == suc i) flow full in
      let first = sum_one (λ k. suc k == suc i) (on_parts p flow) i (omega (arith, low, wide)) (λ k less. turned k i) ∙ at_parts p flow i low in
      let second = none_at (λ need. suc (length p.costs + need.0) == suc i) p.needs (charges_of p flow)
      (λ k less. apart _ _ (λ e. absurd (omega (arith, e, low)))) in
      let third = sum_none (λ j. sink_node p == suc i) (on_products p flow) (λ j less. apart _ _ (λ e. absurd (omega (arith, e, low)))) in
      omega (arith, ints, all, first, second, third)

  part_out : (i : ℕ) → i < length p.costs → sum_out (ends p) flow (suc i) ≡ charged_on p (charges_of p flow) i
  part_out i low =
      let all = sum_over p (λ arc. arc.0 == suc i) flow full in
      let first = sum_none (λ k. 0 == suc i) (on_parts p flow) (λ k less. apart_zero i) in
      let second = sum_where_same (λ need. suc need.1 == suc i) (λ need. need.1 == i) p.needs (charges_of p flow) (λ need. same_suc need.1 i) in
      let third = sum_none (λ j. product_node p j == suc i) (on_products p flow) (λ j less. apart _ _ (λ e. absurd (omega (arith, e, low)))) in
      omega (arith, ints, all, first, second, third)

  product_in : (j : ℕ) → j < length p.gains → sum_in (ends p) flow (product_node p j) ≡ charged_by p (charges_of p flow) j
  product_in j low =
      let wide = length_parts p flow full in
      let all = sum_over p (λ arc. arc.1 == product_node p j) flow full in
      let first = sum_none (λ k. suc k == product_node p j) (on_parts p flow) (λ k less. apart _ _ (λ e. absurd (omega (arith, e, less, wide)))) in
      let second = sum_where_same (λ need. suc (length p.costs + need.0) == product_node p j) (λ need. need.0 == j) p.needs (charges_of p flow)
      (λ need. shifted (length p.costs) need.0 j) in
      let third = sum_none (λ k. sink_node p == product_node p j) (on_products p flow) (λ k less. apart _ _ (λ e. absurd (omega (arith, e, low)))) in
      omega (arith, ints, all, first, second, third)

  product_out : (j : ℕ) → j < length p.gains → sum_out (ends p) flow (product_node p j) ≡ at_arc flow (length p.costs + (length p.needs + j))
  product_out j low =
      let deep = length_products p flow full in
      let all = sum_over p (λ arc. arc.0 == product_node p j) flow full in
      let first = sum_none (λ k. 0 == product_node p j) (on_parts p flow) (λ k less. apart_zero (length p.costs + j)) in
      let second = none_at (λ need. suc need.1 == product_node p j) p.needs (charges_of p flow)
      (λ k less. apart _ _ (λ e. absurd (let h = problem.part k less in omega (arith, e, h)))) in
      let third = sum_one (λ k. product_node p k == product_node p j) (on_products p flow) j (omega (arith, low, deep))
      (λ k less. shifted_turned (length p.costs) k j) ∙ at_products p flow j in
      omega (arith, ints, all, first, second, third)

-- capacities
pub part_capacity_is : (p : SelectionProblem) (x : Fraction) (i : ℕ) → i < length p.costs →
    at_arc (map (capacity_at x) (select_net p).arcs) i ≡ x.p *ℤ at_arc p.costs i
part_capacity_is p x i low =
    let full = arcs_full p in
    let e = capacity_is p x i (omega (arith, full, low)) ∙ ap (capacity_at x) (arc_part p i low) in
    let none : pos 0 *ℤ x.q ≡ pos 0 = omega (arith, ints) in
    omega (arith, ints, e, none, mul_comm (at_arc p.costs i) x.p)

pub need_capacity_is : (p : SelectionProblem) (x : Fraction) (k : ℕ) → k < length p.needs →
    at_arc (map (capacity_at x) (select_net p).arcs) (length p.costs + k) ≡ pos (2 ^ 56) *ℤ x.q
need_capacity_is p x k low =
    let full = arcs_full p in
    let e = capacity_is p x (length p.costs + k) (omega (arith, full, low)) ∙ ap (capacity_at x) (arc_need p k low) in
    let none : pos 0 *ℤ x.p ≡ pos 0 = omega (arith, ints) in
    omega (arith, ints, e, none)

pub product_capacity_is : (p : SelectionProblem) (x : Fraction) (j : ℕ) → j < length p.gains →
    at_arc (map (capacity_at x) (select_net p).arcs) (length p.costs + (length p.needs + j)) ≡ x.q *ℤ at_arc p.gains j
product_capacity_is p x j low =
    let full = arcs_full p in
    let e = capacity_is p x (length p.costs + (length p.needs + j)) (omega (arith, full, low)) ∙ ap (capacity_at x) (arc_product p j low) in
    let none : pos 0 *ℤ x.p ≡ pos 0 = omega (arith, ints) in
    omega (arith, ints, e, none, mul_comm (at_arc p.gains j) x.q)

pub flow_wide : (p : SelectionProblem) (x : Fraction) (flow : List ℤ) → IsFlow (network_at (select_net p) x) flow → IsWide p flow
flow_wide p x flow f = f.within.full ∙ length-map (select_net p).arcs ends_of ∙ arcs_full p

-- what a part is charged, and what a product charges
pub part_balance : (p : SelectionProblem) (x : Fraction) (flow : List ℤ) (i : ℕ) → IsSelectionProblem p → IsFlow (network_at (select_net p) x) flow →
    i < length p.costs → charged_on p (charges_of p flow) i ≡ at_arc flow i
part_balance p x flow i problem f low =
    let full = flow_wide p x flow f in
    sym (part_out p flow problem full i low) ∙ f.kept (suc i) (omega (arith, low)) (λ e. absurd (omega (arith, e))) (λ e. absurd (omega (arith, e, low)))
    ∙ part_in p flow problem full i low

pub product_balance : (p : SelectionProblem) (x : Fraction) (flow : List ℤ) (j : ℕ) → IsSelectionProblem p → IsFlow (network_at (select_net p) x) flow →
    j < length p.gains → charged_by p (charges_of p flow) j ≡ at_arc flow (length p.costs + (length p.needs + j))
product_balance p x flow j problem f low =
    let full = flow_wide p x flow f in
    sym (product_in p flow problem full j low)
    ∙ sym (f.kept (product_node p j) (omega (arith, low)) (λ e. absurd (omega (arith, e))) (λ e. absurd (omega (arith, e, low))))
    ∙ product_out p flow problem full j low

pub charges_are : (p : SelectionProblem) (x : Fraction) (flow : List ℤ) → IsSelectionProblem p → IsFlow (network_at (select_net p) x) flow →
    AreCharges p x (charges_of p flow)
charges_are p x flow problem f =
    let full = flow_wide p x flow f in
    let ends_full = length-map (select_net p).arcs ends_of ∙ arcs_full p in
    record {
      full = length_charges p flow full;
      low = λ k low. let e = at_charges p flow k low in let h = f.within.low (length p.costs + k) (omega (arith, ends_full, low)) in omega (arith, ints, e, h);
      product_high = λ j low.
          let e = product_balance p x flow j problem f low in
          let h = f.within.high (length p.costs + (length p.needs + j)) (omega (arith, ends_full, low)) in
          let c = product_capacity_is p x j low in
          omega (arith, ints, e, h, c);
      part_high = λ i low.
          let e = part_balance p x flow i problem f low in
          let h = f.within.high i (omega (arith, ends_full, low)) in
          let c = part_capacity_is p x i low in
          omega (arith, ints, e, h, c);
    }

-- no arc of a need is full
one_step : (here : Bool) (x s : ℤ) → pos 0 ≤ℤ x → here ≡ true → pos 0 ≤ℤ s → x ≤ℤ (cond here x (pos 0) +ℤ s)
one_step true x s h e l = omega (arith, ints, l)
one_step false x s h e l = cc

low_step : (here : Bool) (x s : ℤ) → pos 0 ≤ℤ x → pos 0 ≤ℤ s → pos 0 ≤ℤ (cond here x (pos 0) +ℤ s)
low_step true x s h l = omega (arith, ints)
low_step false x s h l = omega (arith, ints)

more_step : (here : Bool) (x y s : ℤ) → pos 0 ≤ℤ x → y ≤ℤ s → y ≤ℤ (cond here x (pos 0) +ℤ s)
more_step true x y s h l = omega (arith, ints)
more_step false x y s h l = omega (arith, ints)

sum_low : (test : ℕ × ℕ → Bool) (needs : List (ℕ × ℕ)) (xs : List ℤ) → ((k : ℕ) → k < length xs → pos 0 ≤ℤ at_arc xs k) → pos 0 ≤ℤ sum_where test needs xs
sum_low test [] xs h = omega (arith, ints)
sum_low test (need ∷ needs) [] h = omega (arith, ints)
sum_low test (need ∷ needs) (x ∷ xs) h =
    low_step (test need) x _ (h 0 (omega arith)) (sum_low test needs xs (λ k low. h (suc k) (omega (arith, low))))

one_at_most : (test : ℕ × ℕ → Bool) (needs : List (ℕ × ℕ)) (xs : List ℤ) (k : ℕ) → ((k : ℕ) → k < length xs → pos 0 ≤ℤ at_arc xs k) →
    length xs ≡ length needs → k < length needs → test (get_or needs k (0, 0)) ≡ true → at_arc xs k ≤ℤ sum_where test needs xs
one_at_most test [] xs k h full low e = absurd (omega (arith, low))
one_at_most test (need ∷ needs) [] k h full low e = absurd (omega (arith, full))
one_at_most test (need ∷ needs) (x ∷ xs) zero h full low e =
    one_step (test need) x _ (h 0 (omega arith)) e (sum_low test needs xs (λ k less. h (suc k) (omega (arith, less))))
one_at_most test (need ∷ needs) (x ∷ xs) (suc k) h full low e =
    more_step (test need) x (at_arc xs k) _ (h 0 (omega arith))
    (one_at_most test needs xs k (λ k less. h (suc k) (omega (arith, less))) (omega (arith, full)) (omega (arith, low)) e)

pub need_open : (p : SelectionProblem) (x : Fraction) (flow : List ℤ) (k : ℕ) → IsBoundedProblem p → IsParameter x →
    IsFlow (network_at (select_net p) x) flow → k < length p.needs → at_arc flow (length p.costs + k) <ℤ (pos (2 ^ 56) *ℤ x.q)
need_open p x flow k b px f low =
    let c = charges_are p x flow b.problem f in
    let wide = c.full in
    let j = product_at p k in
    let there = b.problem.product k low in
    let same : (j == j) ≡ true = grind (arith, nat_tests) in
    let one = one_at_most (λ need. need.0 == j) p.needs (charges_of p flow) k (λ i less. c.low i (omega (arith, less, wide))) wide low same in
    let most = c.product_high j there in
    let gain = mul_most x.q (at_arc p.gains j) (pos 1000000) (omega (arith, ints, px)) (b.gain_high j there) in
    let e = at_charges p flow k low in
    omega (arith, ints, one, most, gain, e, px)
