-- Cuts of the network: which products are in them, and their capacities.
use Rattle.std.proofs.Common.{◌≡◌, ℕ, suc, ◌+◌, ◌<◌, List, [], ◌∷◌, ◌++◌, length, get_or, take, drop, map, refl, Bool, true, false, cond, not, ◌&&◌, arith, ap, sym, ◌∙◌, inl, inr, zero-add}
use Rattle.std.specs.Prelude.{ℤ, ◌+ℤ◌, ◌-ℤ◌, ◌*ℤ◌, pos}
use Rattle.std.proofs.lemmas.Int.{ints}
use Rattle.std.proofs.lemmas.Bool.{cases_Bool, both_ways}
use Rattle.std.proofs.lemmas.List.{length-map, length-take-le, length-drop, get_or-map, get_or-take, get_or-drop}
use Rattle.pf_model.specs.declared.AffineArc.{AffineArc}
use Rattle.pf_model.specs.Fraction.{Fraction, IsParameter}
use Rattle.pf_model.specs.Cut.{has, leaves, sum_where, capacity}
use Rattle.pf_model.specs.Flow.{IsFlow}
use Rattle.pf_model.specs.Residual.{IsReach}
use Rattle.pf_model.specs.Network.{IsNetworkCut, ends_of, capacity_at, network_at}
use Rattle.pf_model.proofs.Integers.{mul_add, mul_comm}
use Rattle.pf_select.specs.Problem.{SelectionProblem, IsBoundedProblem, is_gained, sum_of, gain_of, cost_of, worth, product_at, part_at}
use Rattle.pf_select.specs.Reduction.{need_arc, part_arcs, product_arcs, product_node, sink_node, whole_gain, select_net, selection_of}
use Rattle.pf_select.proofs.Grouping.{sum_same}
use Rattle.pf_select.proofs.Worths.{gained_holds, missing, lost, gains_split}
use Rattle.pf_select.proofs.NetSides.{IsShut, side_with, side_part, side_product, side_sink, reach_inside, needs_stay, and_parts}
use Rattle.pf_model.proofs.Facts.{add_before, need_step, none_before, not_false, not_true}
use Rattle.pf_model.proofs.Unique.{same_truth}

-- the parts outside a side
pub length_selection : (p : SelectionProblem) (side : List Bool) → length side ≡ suc (sink_node p) → length (selection_of p side) ≡ length p.costs
length_selection p side full =
    let e = length-drop 1 side in
    length-map (take (length p.costs) (drop 1 side)) not ∙ length-take-le (length p.costs) (drop 1 side) (omega (arith, full, e))

pub has_selection : (p : SelectionProblem) (side : List Bool) (i : ℕ) → length side ≡ suc (sink_node p) → i < length p.costs →
    has (selection_of p side) i ≡ not (has side (suc i))
has_selection p side i full low =
    let e = length-drop 1 side in
    let wide = length-take-le (length p.costs) (drop 1 side) (omega (arith, full, e)) in
    let one : 1 + i ≡ suc i = omega arith in
    get_or-map not (take (length p.costs) (drop 1 side)) i false false (omega (arith, wide, low))
    ∙ ap not (get_or-take (length p.costs) (drop 1 side) i false low ∙ get_or-drop 1 side i false ∙ ap (has side) one)

-- the products of a cut that the source reaches are those that the parts outside it do not gain
module _ (p : SelectionProblem) (x : Fraction) (flow : List ℤ) (side : List Bool) (b : IsBoundedProblem p) (px : IsParameter x)
    (f : IsFlow (network_at (select_net p) x) flow) (r : IsReach (network_at (select_net p) x) flow side) (c : IsNetworkCut (select_net p) side)
    (s : IsShut p x flow side) where
  abbrev set : List Bool
  set = selection_of p side

  lost_held : (j : ℕ) → j < length p.gains → lost p set j ≡ true → has side (product_node p j) ≡ true
  lost_held j low e =
      let m = missing p.needs set j (not_true (is_gained p.needs set j) e) in
      let out = sym (has_selection p side (part_at p m.need) c.full (b.problem.part m.need m.there)) ∙ m.out in
      let held : has side (suc (part_at p m.need)) ≡ true = elim (cases_Bool (has side (suc (part_at p m.need)))) [
        | inl h ↦ h
        | inr off ↦ absurd (both_ways _ out (not_false _ off))
      ] in
      ap (λ n. has side (product_node p n)) (sym m.product) ∙ needs_stay p x flow side b px f r c s m.need m.there held

  abbrev held_parts : ℕ → Bool
  held_parts i = has side (suc i)

  abbrev lost_products : ℕ → Bool
  lost_products j = has side (product_node p j) && lost p set j

  lost_shut : IsShut p x flow (side_with p held_parts lost_products)
  lost_shut = record {
    parts = λ i low out. s.parts i low (sym (side_part p held_parts lost_products i low) ∙ out);
    full_needs = λ k low h out.
        let u = b.problem.product k low in
        let v = b.problem.part k low in
        let held = sym (side_part p held_parts lost_products (part_at p k) v) ∙ h in
        let stays = needs_stay p x flow side b px f r c s k low held in
        let off = has_selection p side (part_at p k) c.full v ∙ ap not held in
        let gone : lost p set (product_at p k) ≡ true = elim (cases_Bool (is_gained p.needs set (product_at p k))) [
          | inl e ↦ absurd (both_ways _ off (gained_holds p.needs set (product_at p k) e k low refl))
          | inr e ↦ not_false _ e
        ] in
        let both : lost_products (product_at p k) ≡ true = rw (stays, gone) refl in
        absurd (both_ways _ out (side_product p held_parts lost_products (product_at p k) u ∙ both));
    empty_needs = λ k low h out.
        let u = b.problem.product k low in
        let v = b.problem.part k low in
        s.empty_needs k low
        (and_parts (has side (product_node p (product_at p k))) (lost p set (product_at p k)) (sym (side_product p held_parts lost_products (product_at p k) u) ∙ h)).0
        (sym (side_part p held_parts lost_products (part_at p k) v) ∙ out);
    products = λ j low h.
        s.products j low (and_parts (has side (product_node p j)) (lost p set j) (sym (side_product p held_parts lost_products j low) ∙ h)).0;
  }

  held_lost : (j : ℕ) → j < length p.gains → has side (product_node p j) ≡ true → lost p set j ≡ true
  held_lost j low h =
      let e = reach_inside p x flow side (side_with p held_parts lost_products) r refl (side_sink p held_parts lost_products) lost_shut
      (product_node p j) (omega (arith, low)) h in
      (and_parts (has side (product_node p j)) (lost p set j) (sym (side_product p held_parts lost_products j low) ∙ e)).1

  pub products_lost : (j : ℕ) → j < length p.gains → has side (product_node p j) ≡ lost p (selection_of p side) j
  products_lost j low = same_truth (has side (product_node p j)) (lost p set j) (held_lost j low) (lost_held j low)

  pub needs_uncrossed : (k : ℕ) → k < length p.needs → has side (suc (part_at p k)) ≡ true → has side (product_node p (product_at p k)) ≡ true
  needs_uncrossed = needs_stay p x flow side b px f r c s

-- capacities

abbrev beside : Fraction → List Bool → List AffineArc → ℤ
beside x side arcs = sum_where (leaves side) (map ends_of arcs) (map (capacity_at x) arcs)

beside_append : (x : Fraction) (side : List Bool) (xs ys : List AffineArc) → beside x side (xs ++ ys) ≡ beside x side xs +ℤ beside x side ys
beside_append x side [] ys = none_before _
beside_append x side (arc ∷ xs) ys =
    add_before (cond (leaves side (ends_of arc)) (capacity_at x arc) (pos 0)) _ _ _ (beside_append x side xs ys)

part_step : (held out : Bool) (p q cost rest sum : ℤ) → held ≡ true → rest ≡ p *ℤ sum →
    cond (held && not out) ((pos 0 *ℤ q) +ℤ (cost *ℤ p)) (pos 0) +ℤ rest ≡ p *ℤ (cond (not out) cost (pos 0) +ℤ sum)
part_step true true p q cost rest sum e h =
    let m = mul_add p (pos 0) sum in
    let none : p *ℤ pos 0 ≡ pos 0 = omega (arith, ints) in
    omega (arith, ints, m, none, h)
part_step true false p q cost rest sum e h =
    let m = mul_add p cost sum in
    let none : pos 0 *ℤ q ≡ pos 0 = omega (arith, ints) in
    omega (arith, ints, m, none, h, mul_comm cost p)
part_step false out p q cost rest sum e h = cc

beside_parts : (x : Fraction) (side : List Bool) (k : ℕ) (costs : List ℤ) → has side 0 ≡ true →
    beside x side (part_arcs k costs) ≡ x.p *ℤ sum_of (λ i. not (has side (suc (k + i)))) costs
beside_parts x side k [] source = omega (arith, ints)
beside_parts x side k (cost ∷ costs) source =
    let none : k ≡ k + 0 = omega arith in
    let one_more : (i : ℕ) → suc k + i ≡ k + suc i = λ i. omega arith in
    let rest = beside_parts x side (suc k) costs source
    ∙ ap (λ n. x.p *ℤ n) (sum_same (λ i. not (has side (suc (suc k + i)))) (λ i. not (has side (suc (k + suc i)))) costs
    (λ i low. ap (λ n. not (has side (suc n))) (one_more i))) in
    part_step (has side 0) (has side (suc k)) x.p x.q cost _ (sum_of (λ i. not (has side (suc (k + suc i)))) costs) source rest
    ∙ ap (λ n. x.p *ℤ (cond (not (has side (suc n))) cost (pos 0) +ℤ sum_of (λ i. not (has side (suc (k + suc i)))) costs)) none

product_step : (held out : Bool) (p q gain rest sum : ℤ) → out ≡ false → rest ≡ q *ℤ sum →
    cond (held && not out) ((gain *ℤ q) +ℤ (pos 0 *ℤ p)) (pos 0) +ℤ rest ≡ q *ℤ (cond held gain (pos 0) +ℤ sum)
product_step true false p q gain rest sum e h =
    let m = mul_add q gain sum in
    let none : pos 0 *ℤ p ≡ pos 0 = omega (arith, ints) in
    omega (arith, ints, m, none, h, mul_comm gain q)
product_step false false p q gain rest sum e h =
    let m = mul_add q (pos 0) sum in
    let none : q *ℤ pos 0 ≡ pos 0 = omega (arith, ints) in
    omega (arith, ints, m, none, h)
product_step held true p q gain rest sum e h = cc

beside_products : (x : Fraction) (side : List Bool) (sink parts k : ℕ) (gains : List ℤ) → has side sink ≡ false →
    beside x side (product_arcs sink parts k gains) ≡ x.q *ℤ sum_of (λ j. has side (suc (parts + (k + j)))) gains
beside_products x side sink parts k [] out = omega (arith, ints)
beside_products x side sink parts k (gain ∷ gains) out =
    let none : k ≡ k + 0 = omega arith in
    let one_more : (j : ℕ) → suc k + j ≡ k + suc j = λ j. omega arith in
    let rest = beside_products x side sink parts (suc k) gains out
    ∙ ap (λ n. x.q *ℤ n) (sum_same (λ j. has side (suc (parts + (suc k + j)))) (λ j. has side (suc (parts + (k + suc j)))) gains
    (λ j low. ap (λ n. has side (suc (parts + n))) (one_more j))) in
    product_step (has side (suc (parts + k))) (has side sink) x.p x.q gain _ (sum_of (λ j. has side (suc (parts + (k + suc j)))) gains) out rest
    ∙ ap (λ n. x.q *ℤ (cond (has side (suc (parts + n))) gain (pos 0) +ℤ sum_of (λ j. has side (suc (parts + (k + suc j)))) gains)) none

abbrev IsUncrossed : ℕ → List (ℕ × ℕ) → List Bool → Type 0
IsUncrossed parts needs side =
    (k : ℕ) → k < length needs → has side (suc (get_or needs k (0, 0)).1) ≡ true → has side (suc (parts + (get_or needs k (0, 0)).0)) ≡ true

beside_needs : (x : Fraction) (side : List Bool) (parts : ℕ) (needs : List (ℕ × ℕ)) → IsUncrossed parts needs side →
    beside x side (map (need_arc parts) needs) ≡ pos 0
beside_needs x side parts [] h = refl
beside_needs x side parts (need ∷ needs) h =
    need_step (has side (suc need.1)) (has side (suc (parts + need.0))) (capacity_at x (need_arc parts need)) _ (h 0 (omega arith))
    (beside_needs x side parts needs (λ k low. h (suc k) (omega (arith, low))))

-- of a cut that crosses no arc of a need
pub capacity_of_side : (p : SelectionProblem) (x : Fraction) (side : List Bool) → has side 0 ≡ true → has side (sink_node p) ≡ false →
    IsUncrossed (length p.costs) p.needs side →
    capacity (network_at (select_net p) x) side
    ≡ (x.p *ℤ sum_of (λ i. not (has side (suc i))) p.costs) +ℤ (x.q *ℤ sum_of (λ j. has side (product_node p j)) p.gains)
capacity_of_side p x side source sink free =
    let n = length p.costs in
    let a = beside_append x side (part_arcs 0 p.costs) (map (need_arc n) p.needs ++ product_arcs (sink_node p) n 0 p.gains) in
    let b = beside_append x side (map (need_arc n) p.needs) (product_arcs (sink_node p) n 0 p.gains) in
    let first = beside_parts x side 0 p.costs source
    ∙ ap (λ k. x.p *ℤ k) (sum_same (λ i. not (has side (suc (0 + i)))) (λ i. not (has side (suc i))) p.costs
    (λ i low. ap (λ k. not (has side (suc k))) (zero-add i))) in
    let second = beside_needs x side n p.needs free in
    let third = beside_products x side (sink_node p) n 0 p.gains sink
    ∙ ap (λ k. x.q *ℤ k) (sum_same (λ j. has side (suc (n + (0 + j)))) (λ j. has side (product_node p j)) p.gains
    (λ j low. ap (λ k. has side (suc (n + k))) (zero-add j))) in
    omega (arith, ints, a, b, first, second, third)

worth_step : (q p gain lost cost whole capacity : ℤ) → whole ≡ gain +ℤ lost → capacity ≡ (p *ℤ cost) +ℤ (q *ℤ lost) →
    capacity ≡ (q *ℤ whole) -ℤ ((q *ℤ gain) -ℤ (p *ℤ cost))
worth_step q p gain lost cost whole capacity e h =
    let m = ap (λ n. q *ℤ n) e ∙ mul_add q gain lost in
    omega (arith, ints, m, h)

-- the capacity of a cut of the products that are not gained is all gains less the worth
pub capacity_is_short : (p : SelectionProblem) (x : Fraction) (side : List Bool) → IsNetworkCut (select_net p) side →
    ((k : ℕ) → k < length p.needs → has side (suc (part_at p k)) ≡ true → has side (product_node p (product_at p k)) ≡ true) →
    ((j : ℕ) → j < length p.gains → has side (product_node p j) ≡ lost p (selection_of p side) j) →
    capacity (network_at (select_net p) x) side ≡ (x.q *ℤ whole_gain p) -ℤ worth p x (selection_of p side)
capacity_is_short p x side c free same =
    let set = selection_of p side in
    let cost = sum_same (λ i. not (has side (suc i))) (has set) p.costs (λ i low. sym (has_selection p side i c.full low)) in
    let gone = sum_same (λ j. has side (product_node p j)) (lost p set) p.gains same in
    worth_step x.q x.p (gain_of p set) (sum_of (lost p set) p.gains) (cost_of p set) (whole_gain p) (capacity (network_at (select_net p) x) side)
    (gains_split (is_gained p.needs set) p.gains)
    (capacity_of_side p x side c.with_source c.without_sink free ∙ ap (λ n. (x.p *ℤ n) +ℤ (x.q *ℤ sum_of (λ j. has side (product_node p j)) p.gains)) cost
    ∙ ap (λ n. (x.p *ℤ cost_of p set) +ℤ (x.q *ℤ n)) gone)
