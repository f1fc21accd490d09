-- The network of items within their limits is monotone and within its own limits.
use Rattle.std.proofs.Common.{◌≡◌, ℕ, suc, ◌+◌, ◌<◌, ◌≤◌, List, [], ◌∷◌, ◌++◌, length, map, refl, true, false, ap, ◌∙◌, add-one, arith}
use Rattle.std.specs.Prelude.{ℤ, pos, neg_ℤ, ◌≤ℤ◌, int_le, ◌==◌, All}
use Rattle.std.proofs.lemmas.Int.{ints}
use Rattle.std.proofs.lemmas.Bool.Decides.{nat_tests}
use Rattle.std.proofs.lemmas.List.{get_or_default}
use Rattle.std.proofs.lemmas.List.Elements.{All-nil, All-cons, All-append, All-head, All-tail}
use Rattle.pf_model.specs.declared.AffineArc.{AffineArc}
use Rattle.pf_model.specs.declared.Sense.TheVariants.{Rising}
use Rattle.pf_model.specs.Cut.{at_arc}
use Rattle.pf_model.specs.Fraction.{Fraction}
use Rattle.pf_model.specs.Network.{IsMonotone, IsMonotoneArc, keeps_slope}
use Rattle.pf_net.specs.Limits.{IsSmallArc, IsWithinLimits, IsBuilt, rising}
use Rattle.pf_closure.specs.Problem.{ClosureProblem, IsBoundedProblem}
use Rattle.pf_closure.specs.Reduction.{closure_net, item_arcs, need_arc, source_arc, sink_arc, sink_node}
use Rattle.pf_closure.proofs.ArcLemmas.{arcs_full}

-- the arcs of items and of needs
source_slope : (n i : ℕ) (w : ℤ) → i < n → pos 1 ≤ℤ w → keeps_slope Rising 0 (suc n) (source_arc i w) ≡ true
source_slope n i w low h =
    let a : (suc i == 0) ≡ false = grind (arith, nat_tests) in
    let b : (suc i == suc n) ≡ false = grind (arith, nat_tests) in
    let d : int_le (pos 0) w ≡ true = grind (arith, ints) in
    rw (a, b) d

sink_slope : (n i : ℕ) (c w : ℤ) → i < n → keeps_slope Rising 0 (suc n) (sink_arc (suc n) i c w) ≡ true
sink_slope n i c w low =
    let a : (suc i == 0) ≡ false = grind (arith, nat_tests) in
    let b : (suc i == suc n) ≡ false = grind (arith, nat_tests) in
    let d : (suc n == suc n) ≡ true = grind (arith, nat_tests) in
    rw (a, d, b) refl

need_slope : (n : ℕ) (need : ℕ × ℕ) → need.1 < n → keeps_slope Rising 0 (suc n) (need_arc need) ≡ true
need_slope n need low =
    let a : (suc need.0 == 0) ≡ false = grind (arith, nat_tests) in
    let b : (suc need.1 == suc n) ≡ false = grind (arith, nat_tests) in
    rw (a, b) refl

source_monotone : (p : ClosureProblem) (i : ℕ) (w : ℤ) → i < length p.costs → pos 1 ≤ℤ w → IsMonotoneArc (closure_net p) (source_arc i w)
source_monotone p i w low h = record {
  tail = omega arith;
  head = omega (arith, low);
  slope = source_slope (length p.costs) i w low h;
  low = omega (arith, ints, h);
  high = omega (arith, ints, h);
}

sink_monotone : (p : ClosureProblem) (i : ℕ) (c w : ℤ) → i < length p.costs → neg_ℤ (pos 1000000) ≤ℤ c → pos 1 ≤ℤ w →
    IsMonotoneArc (closure_net p) (sink_arc (sink_node p) i c w)
sink_monotone p i c w low l h = record {
  tail = omega (arith, low);
  head = omega arith;
  slope = sink_slope (length p.costs) i c w low;
  low = omega (arith, ints, l, h);
  high = omega (arith, ints, l, h);
}

need_monotone : (p : ClosureProblem) (need : ℕ × ℕ) → need.0 < length p.costs → need.1 < length p.costs → IsMonotoneArc (closure_net p) (need_arc need)
need_monotone p need u v = record {
  tail = omega (arith, u);
  head = omega (arith, v);
  slope = need_slope (length p.costs) need v;
  low = omega (arith, ints);
  high = omega (arith, ints);
}

source_small : (i : ℕ) (w : ℤ) → pos 1 ≤ℤ w → w ≤ℤ pos 1000000 → IsSmallArc (source_arc i w)
source_small i w h m = record {
  a_low = omega (arith, ints, h, m);
  a_high = omega (arith, ints, h, m);
  b_low = omega (arith, ints, h, m);
  b_high = omega (arith, ints, h, m);
}

sink_small : (sink i : ℕ) (c w : ℤ) → neg_ℤ (pos 1000000) ≤ℤ c → c ≤ℤ pos 1000000 → pos 1 ≤ℤ w → w ≤ℤ pos 1000000 → IsSmallArc (sink_arc sink i c w)
sink_small sink i c w l u h m = record {
  a_low = omega (arith, ints, l, u, h, m);
  a_high = omega (arith, ints, l, u, h, m);
  b_low = omega (arith, ints);
  b_high = omega (arith, ints);
}

need_small : (need : ℕ × ℕ) → IsSmallArc (need_arc need)
need_small need = record {
  a_low = omega (arith, ints);
  a_high = omega (arith, ints);
  b_low = omega (arith, ints);
  b_high = omega (arith, ints);
}

-- what holds of the numbers of items from one on
record AreInLimits (costs weights : List ℤ) : Type 0 where
  low : (k : ℕ) → k < length costs → neg_ℤ (pos 1000000) ≤ℤ at_arc costs k
  high : (k : ℕ) → k < length costs → at_arc costs k ≤ℤ pos 1000000
  heavy : (k : ℕ) → k < length costs → pos 1 ≤ℤ at_arc weights k
  light : (k : ℕ) → k < length costs → at_arc weights k ≤ℤ pos 1000000

later : (c w : ℤ) (costs weights : List ℤ) → AreInLimits (c ∷ costs) (w ∷ weights) → AreInLimits costs weights
later c w costs weights h = record {
  low = λ k less. h.low (suc k) (omega (arith, less));
  high = λ k less. h.high (suc k) (omega (arith, less));
  heavy = λ k less. h.heavy (suc k) (omega (arith, less));
  light = λ k less. h.light (suc k) (omega (arith, less));
}

items_each : (P : AffineArc → Type 0) (sink i n : ℕ) (costs weights : List ℤ) → i + length costs ≤ n → AreInLimits costs weights →
    ((j : ℕ) (w : ℤ) → j < n → pos 1 ≤ℤ w → w ≤ℤ pos 1000000 → P (source_arc j w)) →
    ((j : ℕ) (c w : ℤ) → j < n → neg_ℤ (pos 1000000) ≤ℤ c → c ≤ℤ pos 1000000 → pos 1 ≤ℤ w → w ≤ℤ pos 1000000 → P (sink_arc sink j c w)) →
    All P (item_arcs sink i costs weights)
items_each P sink i n [] weights few h first second = All-nil P
items_each P sink i n (c ∷ costs) [] few h first second = All-nil P
items_each P sink i n (c ∷ costs) (w ∷ weights) few h first second =
    let heavy = h.heavy 0 (omega arith) in
    let light = h.light 0 (omega arith) in
    All-cons P (source_arc i w) (sink_arc sink i c w ∷ item_arcs sink (suc i) costs weights) (first i w (omega (arith, few)) heavy light)
    (All-cons P (sink_arc sink i c w) (item_arcs sink (suc i) costs weights) (second i c w (omega (arith, few)) (h.low 0 (omega arith)) (h.high 0 (omega arith)) heavy light)
    (items_each P sink (suc i) n costs weights (omega (arith, few)) (later c w costs weights h) first second))

needs_each : (P : AffineArc → Type 0) (n : ℕ) (needs : List (ℕ × ℕ)) → All (λ need. (need.0 < n) × (need.1 < n)) needs →
    ((need : ℕ × ℕ) → need.0 < n → need.1 < n → P (need_arc need)) → All P (map need_arc needs)
needs_each P n [] each h = All-nil P
needs_each P n (need ∷ needs) each h =
    let here = All-head (λ need. (need.0 < n) × (need.1 < n)) need needs each in
    All-cons P (need_arc need) (map need_arc needs) (h need here.0 here.1) (needs_each P n needs (All-tail (λ need. (need.0 < n) × (need.1 < n)) need needs each) h)

needs_inside : (p : ClosureProblem) → IsBoundedProblem p → All (λ need. (need.0 < length p.costs) × (need.1 < length p.costs)) p.needs
needs_inside p b = λ k d low. rw (get_or_default p.needs k d (0, 0) low) (b.problem.needing k low, b.problem.needed k low)

-- each arc of the network
arcs_each : (P : AffineArc → Type 0) (p : ClosureProblem) → IsBoundedProblem p →
    ((j : ℕ) (w : ℤ) → j < length p.costs → pos 1 ≤ℤ w → w ≤ℤ pos 1000000 → P (source_arc j w)) →
    ((j : ℕ) (c w : ℤ) → j < length p.costs → neg_ℤ (pos 1000000) ≤ℤ c → c ≤ℤ pos 1000000 → pos 1 ≤ℤ w → w ≤ℤ pos 1000000 → P (sink_arc (sink_node p) j c w)) →
    ((need : ℕ × ℕ) → need.0 < length p.costs → need.1 < length p.costs → P (need_arc need)) → All P (closure_net p).arcs
arcs_each P p b first second third =
    All-append P (item_arcs (sink_node p) 0 p.costs p.weights) (map need_arc p.needs)
    (items_each P (sink_node p) 0 (length p.costs) p.costs p.weights (omega arith)
    (record { low = b.cost_low; high = b.cost_high; heavy = b.problem.heavy; light = b.weight_high }) first second)
    (needs_each P (length p.costs) p.needs (needs_inside p b) third)

pub net_monotone : (p : ClosureProblem) → IsBoundedProblem p → IsMonotone (closure_net p)
net_monotone p b = record {
  source = omega arith;
  sink = omega arith;
  apart = λ e. absurd (omega (arith, e));
  low = omega (arith, ints);
  high = omega (arith, ints);
  interval = omega (arith, ints);
  each = arcs_each (IsMonotoneArc (closure_net p)) p b (λ j w low h m. source_monotone p j w low h)
      (λ j c w low l u h m. sink_monotone p j c w low l h) (λ need u v. need_monotone p need u v);
}

net_limits : (p : ClosureProblem) → IsBoundedProblem p → IsWithinLimits (closure_net p)
net_limits p b =
    let items = b.few_items in
    let needs = b.few_needs in
    let all = arcs_full (sink_node p) 0 p.costs p.weights p.needs b.problem.full in
    record {
      nodes = omega (arith, items);
      arcs = omega (arith, items, needs, all);
      each = arcs_each IsSmallArc p b (λ j w low h m. source_small j w h m) (λ j c w low l u h m. sink_small (sink_node p) j c w l u h m) (λ need u v. need_small need);
      low = record { low = omega (arith, ints); high = omega (arith, ints) };
      high = record { low = omega (arith, ints); high = omega (arith, ints) };
    }

pub net_built : (p : ClosureProblem) → IsBoundedProblem p → IsBuilt (closure_net p)
net_built p b = record { monotone = net_monotone p b; limits = net_limits p b }

-- and it is made of these parts
same_parts : (n n' s s' : ℕ) (l l' h h' : Fraction) (xs xs' : List AffineArc) → n ≡ n' → s ≡ s' → l ≡ l' → h ≡ h' → xs ≡ xs' →
    rising n 0 s l h xs ≡ rising n' 0 s' l' h' xs'
same_parts n n' s s' l l' h h' xs xs' a b c d e = rw (a, b, c, d, e) refl

pub same_net : (p : ClosureProblem) (sink : ℕ) (low high : Fraction) (items arcs : List AffineArc) → sink ≡ length p.costs + 1 →
    low ≡ (closure_net p).low → high ≡ (closure_net p).high → items ≡ item_arcs sink 0 p.costs p.weights → arcs ≡ items ++ map need_arc p.needs →
    rising (sink + 1) 0 sink low high arcs ≡ closure_net p
same_net p sink low high items arcs count l h first second =
    let s : sink ≡ sink_node p = count ∙ add-one (length p.costs) in
    let n : sink + 1 ≡ suc (sink_node p) = add-one sink ∙ ap suc s in
    let a : arcs ≡ (closure_net p).arcs = second ∙ ap (λ l. l ++ map need_arc p.needs) (first ∙ ap (λ k. item_arcs k 0 p.costs p.weights) s) in
    same_parts (sink + 1) (suc (sink_node p)) sink (sink_node p) low (closure_net p).low high (closure_net p).high arcs (closure_net p).arcs n s l h a
