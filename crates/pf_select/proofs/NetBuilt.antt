-- The network of a bounded problem is monotone and within its limits.
use Rattle.std.proofs.Common.{◌≡◌, ℕ, suc, ◌+◌, ◌*◌, ◌^◌, ◌<◌, List, [], ◌∷◌, length, get_or, refl, true, false, arith, sym, subst}
use Rattle.std.specs.Prelude.{ℤ, ◌+ℤ◌, ◌*ℤ◌, ◌≤ℤ◌, pos, int_le, ◌==◌, All}
use Rattle.std.proofs.lemmas.Int.{ints}
use Rattle.std.proofs.lemmas.Bool.Decides.{nat_tests}
use Rattle.std.proofs.lemmas.List.{get_or_default}
use Rattle.pf_model.specs.declared.AffineArc.{AffineArc}
use Rattle.pf_model.specs.declared.Sense.TheVariants.{Rising}
use Rattle.pf_model.specs.Cut.{at_arc}
use Rattle.pf_model.specs.Network.{IsMonotoneArc, keeps_slope}
use Rattle.pf_model.proofs.Affine.{no_arc}
use Rattle.pf_model.proofs.Integers.{mul_nonneg}
use Rattle.pf_net.specs.Limits.{IsSmallArc, IsBuilt}
use Rattle.pf_select.specs.Problem.{SelectionProblem, IsBoundedProblem, sum_of}
use Rattle.pf_select.specs.Reduction.{part_arc, need_arc, product_arc, sink_node, whole_gain, select_net}
use Rattle.pf_select.proofs.Soundness.{sum_low}
use Rattle.pf_select.proofs.NetArcs.{arcs_full, arc_of, arc_part, arc_need, arc_product, each_arc}

-- the total gain
most_step : (x s : ℤ) (n : ℕ) → x ≤ℤ pos 1000000 → s ≤ℤ pos (n * 1000000) → (x +ℤ s) ≤ℤ pos (suc n * 1000000)
most_step x s n h l = let e : suc n * 1000000 ≡ n * 1000000 + 1000000 = grind arith in omega (arith, ints, h, l, e)

sum_high : (xs : List ℤ) → ((i : ℕ) → i < length xs → at_arc xs i ≤ℤ pos 1000000) → sum_of (λ i. true) xs ≤ℤ pos (length xs * 1000000)
sum_high [] h = omega (arith, ints)
sum_high (x ∷ xs) h = most_step x (sum_of (λ i. true) xs) (length xs) (h 0 (omega arith)) (sum_high xs (λ i low. h (suc i) (omega (arith, low))))

pub gain_high : (p : SelectionProblem) → IsBoundedProblem p → whole_gain p ≤ℤ pos 5000000000
gain_high p b =
    let most = sum_high p.gains b.gain_high in
    let few = b.few_products in
    omega (arith, ints, most, few)

pub gain_low : (p : SelectionProblem) → IsBoundedProblem p → pos 0 ≤ℤ whole_gain p
gain_low p b = sum_low (λ j. true) p.gains b.problem.gainful

-- slopes
part_slope : (n i : ℕ) (cost : ℤ) → i < n → pos 1 ≤ℤ cost → keeps_slope Rising 0 (suc n) (part_arc i cost) ≡ true
part_slope n i cost low h =
    let a : (suc i == 0) ≡ false = grind (arith, nat_tests) in
    let b : (suc i == suc n) ≡ false = grind (arith, nat_tests) in
    let d : int_le (pos 0) cost ≡ true = grind (arith, ints) in
    rw (a, b) d

need_slope : (n parts : ℕ) (need : ℕ × ℕ) → parts + need.0 < n → keeps_slope Rising 0 (suc n) (need_arc parts need) ≡ true
need_slope n parts need low =
    let a : (suc need.1 == 0) ≡ false = grind (arith, nat_tests) in
    let b : (suc (parts + need.0) == suc n) ≡ false = grind (arith, nat_tests) in
    rw (a, b) refl

product_slope : (n parts j : ℕ) (gain : ℤ) → parts + j < n → keeps_slope Rising 0 (suc n) (product_arc (suc n) parts j gain) ≡ true
product_slope n parts j gain low =
    let a : (suc (parts + j) == 0) ≡ false = grind (arith, nat_tests) in
    let b : (suc (parts + j) == suc n) ≡ false = grind (arith, nat_tests) in
    let d : (suc n == suc n) ≡ true = grind (arith, nat_tests) in
    rw (a, d, b) refl

part_capacity : (cost gain : ℤ) → pos 1 ≤ℤ cost → pos 0 ≤ℤ gain → pos 0 ≤ℤ ((pos 0 *ℤ pos 1) +ℤ (cost *ℤ (gain +ℤ pos 1)))
part_capacity cost gain h l =
    let more = mul_nonneg cost (gain +ℤ pos 1) (omega (arith, ints, h)) (omega (arith, ints, l)) in
    omega (arith, ints, more)

flat_capacity : (a p : ℤ) → pos 0 ≤ℤ a → pos 0 ≤ℤ ((a *ℤ pos 1) +ℤ (pos 0 *ℤ p))
flat_capacity a p h =
    let none : pos 0 *ℤ p ≡ pos 0 = omega (arith, ints) in
    let one : a *ℤ pos 1 ≡ a = omega (arith, ints) in
    omega (arith, ints, h, none, one)

part_low : (cost : ℤ) → pos 0 ≤ℤ ((pos 0 *ℤ pos 1) +ℤ (cost *ℤ pos 0))
part_low cost = let none : cost *ℤ pos 0 ≡ pos 0 = omega (arith, ints) in omega (arith, ints, none)

part_monotone : (p : SelectionProblem) (i : ℕ) → IsBoundedProblem p → i < length p.costs → IsMonotoneArc (select_net p) (part_arc i (at_arc p.costs i))
part_monotone p i b low = record {
  tail = omega arith;
  head = omega (arith, low);
  slope = part_slope (length p.costs + length p.gains) i (at_arc p.costs i) (omega (arith, low)) (b.problem.costly i low);
  low = part_low (at_arc p.costs i);
  high = part_capacity (at_arc p.costs i) (whole_gain p) (b.problem.costly i low) (gain_low p b);
}

need_monotone : (p : SelectionProblem) (k : ℕ) → IsBoundedProblem p → k < length p.needs →
    IsMonotoneArc (select_net p) (need_arc (length p.costs) (get_or p.needs k (0, 0)))
need_monotone p k b low =
    let u = b.problem.product k low in
    let v = b.problem.part k low in
    record {
      tail = omega (arith, v);
      head = omega (arith, u);
      slope = need_slope (length p.costs + length p.gains) (length p.costs) (get_or p.needs k (0, 0)) (omega (arith, u));
      low = omega (arith, ints);
      high = flat_capacity (pos (2 ^ 56)) (whole_gain p +ℤ pos 1) (omega (arith, ints));
    }

product_monotone : (p : SelectionProblem) (j : ℕ) → IsBoundedProblem p → j < length p.gains →
    IsMonotoneArc (select_net p) (product_arc (sink_node p) (length p.costs) j (at_arc p.gains j))
product_monotone p j b low =
    let gain = b.problem.gainful j low in
    record {
      tail = omega (arith, low);
      head = omega arith;
      slope = product_slope (length p.costs + length p.gains) (length p.costs) j (at_arc p.gains j) (omega (arith, low));
      low = flat_capacity (at_arc p.gains j) (pos 0) (omega (arith, ints, gain));
      high = flat_capacity (at_arc p.gains j) (whole_gain p +ℤ pos 1) (omega (arith, ints, gain));
    }

part_small : (p : SelectionProblem) (i : ℕ) → IsBoundedProblem p → i < length p.costs → IsSmallArc (part_arc i (at_arc p.costs i))
part_small p i b low =
    let l = b.problem.costly i low in
    let h = b.cost_high i low in
    record { a_low = omega (arith, ints); a_high = omega (arith, ints); b_low = omega (arith, ints, l); b_high = omega (arith, ints, h) }

need_small : (parts : ℕ) (need : ℕ × ℕ) → IsSmallArc (need_arc parts need)
need_small parts need = record { a_low = omega (arith, ints); a_high = omega (arith, ints); b_low = omega (arith, ints); b_high = omega (arith, ints) }

product_small : (p : SelectionProblem) (j : ℕ) → IsBoundedProblem p → j < length p.gains →
    IsSmallArc (product_arc (sink_node p) (length p.costs) j (at_arc p.gains j))
product_small p j b low =
    let l = b.problem.gainful j low in
    let h = b.gain_high j low in
    record { a_low = omega (arith, ints, l); a_high = omega (arith, ints, h); b_low = omega (arith, ints); b_high = omega (arith, ints) }

arcs_each : (p : SelectionProblem) (P : AffineArc → Type 0) → ((i : ℕ) → i < length p.costs → P (part_arc i (at_arc p.costs i))) →
    ((k : ℕ) → k < length p.needs → P (need_arc (length p.costs) (get_or p.needs k (0, 0)))) →
    ((j : ℕ) → j < length p.gains → P (product_arc (sink_node p) (length p.costs) j (at_arc p.gains j))) → All P (select_net p).arcs
arcs_each p P parts needs products = λ k d low.
    subst P (get_or_default (select_net p).arcs k no_arc d low)
    (each_arc p (λ i. P (arc_of p i)) (λ i less. subst P (sym (arc_part p i less)) (parts i less))
    (λ i less. subst P (sym (arc_need p i less)) (needs i less)) (λ j less. subst P (sym (arc_product p j less)) (products j less)) k low)

pub net_built : (p : SelectionProblem) → IsBoundedProblem p → IsBuilt (select_net p)
net_built p b =
    let parts = b.few_parts in
    let products = b.few_products in
    let needs = b.few_needs in
    let all = arcs_full p in
    let low = gain_low p b in
    let high = gain_high p b in
    record {
      monotone = record {
        source = omega arith;
        sink = omega arith;
        apart = λ e. absurd (omega (arith, e));
        low = omega (arith, ints);
        high = omega (arith, ints);
        interval = omega (arith, ints, low);
        each = arcs_each p (IsMonotoneArc (select_net p)) (λ i less. part_monotone p i b less) (λ k less. need_monotone p k b less)
            (λ j less. product_monotone p j b less);
      };
      limits = record {
        nodes = omega (arith, parts, products);
        arcs = omega (arith, all, parts, products, needs);
        each = arcs_each p IsSmallArc (λ i less. part_small p i b less) (λ k less. need_small (length p.costs) (get_or p.needs k (0, 0)))
            (λ j less. product_small p j b less);
        low = record { low = omega (arith, ints); high = omega (arith, ints) };
        high = record { low = omega (arith, ints, low); high = omega (arith, ints, high) };
      };
    }
