-- The network of a bounded sharing is monotone and within its limits.
use Rattle.std.proofs.Common.{◌≡◌, ◌≢◌, ℕ, ◌<◌, length, get_or, refl, Bool, true, false, not, ◌&&◌, arith, ap, sym, ◌∙◌, inl, inr, subst}
use Rattle.std.specs.Prelude.{ℤ, ◌+ℤ◌, ◌*ℤ◌, ◌≤ℤ◌, pos, int_le, ◌==◌, if◌then◌else◌, All}
use Rattle.std.proofs.lemmas.Int.{ints}
use Rattle.std.proofs.lemmas.Bool.{cases_eq}
use Rattle.std.proofs.lemmas.Bool.Decides.{nat_tests}
use Rattle.std.proofs.lemmas.List.{get_or_default}
use Rattle.pf_model.specs.declared.AffineArc.{AffineArc}
use Rattle.pf_model.specs.declared.Sense.TheVariants.{Rising}
use Rattle.pf_model.specs.Cut.{at_arc}
use Rattle.pf_model.specs.Network.{IsMonotoneArc, keeps_slope}
use Rattle.pf_model.proofs.Affine.{no_arc}
use Rattle.pf_model.proofs.Integers.{mul_nonneg}
use Rattle.pf_net.specs.Limits.{IsSmallArc, IsBuilt}
use Rattle.pf_share.specs.Problem.{ShareProblem, IsShareProblem, IsBoundedSharing, tail_of, head_of}
use Rattle.pf_share.specs.Reduction.{flow_arc, source_arc, share_net}
use Rattle.pf_share.proofs.NetArcs.{arcs_full, arc_of, arc_flow, arc_source, each_arc}

-- slopes
flat_by : (x y : Bool) → (if x then true else (if y then true else true)) ≡ true
flat_by true y = refl
flat_by false true = refl
flat_by false false = refl

flat_slope : (s t u v : ℕ) (a : ℤ) → keeps_slope Rising s t (record { tail = u; head = v; a = a; b = pos 0 }) ≡ true
flat_slope s t u v a = flat_by ((u == s) && not (v == s) && not (v == t)) ((v == t) && not (u == t) && not (u == s))

rising_slope : (s t v : ℕ) (w : ℤ) → v ≢ s → v ≢ t → pos 0 ≤ℤ w → keeps_slope Rising s t (source_arc s v w) ≡ true
rising_slope s t v w other apart h =
    let a : (s == s) ≡ true = grind (arith, nat_tests) in
    let b : (v == s) ≡ false = grind (arith, nat_tests) in
    let c : (v == t) ≡ false = grind (arith, nat_tests) in
    let d : int_le (pos 0) w ≡ true = grind (arith, ints) in
    rw (a, b, c) d

flat_capacity : (a k : ℤ) → pos 0 ≤ℤ a → pos 0 ≤ℤ ((a *ℤ pos 1) +ℤ (pos 0 *ℤ k))
flat_capacity a k h =
    let none : pos 0 *ℤ k ≡ pos 0 = omega (arith, ints) in
    let one : a *ℤ pos 1 ≡ a = omega (arith, ints) in
    omega (arith, ints, h, none, one)

fed_low : (w : ℤ) → pos 0 ≤ℤ ((pos 0 *ℤ pos 1) +ℤ (w *ℤ pos 0))
fed_low w = let none : w *ℤ pos 0 ≡ pos 0 = omega (arith, ints) in omega (arith, ints, none)

fed_high : (w : ℤ) → pos 0 ≤ℤ w → pos 0 ≤ℤ ((pos 0 *ℤ pos 1) +ℤ (w *ℤ pos 10000000000001))
fed_high w h = let more = mul_nonneg w (pos 10000000000001) h (omega (arith, ints)) in omega (arith, ints, more)

flow_monotone : (p : ShareProblem) (i : ℕ) → IsShareProblem p → i < length p.ends →
    IsMonotoneArc (share_net p) (flow_arc (get_or p.ends i (0, 0)) (at_arc p.capacities i))
flow_monotone p i h low =
    let tail = h.tails i low in
    let head = h.heads i low in
    record {
      tail = omega (arith, tail);
      head = omega (arith, head);
      slope = flat_slope p.nodes p.sink (tail_of p i) (head_of p i) (at_arc p.capacities i);
      low = flat_capacity (at_arc p.capacities i) (pos 0) (h.capacity_low i low);
      high = flat_capacity (at_arc p.capacities i) (pos 10000000000001) (h.capacity_low i low);
    }

source_slope : (p : ShareProblem) (v : ℕ) → IsShareProblem p → v < p.nodes →
    keeps_slope Rising p.nodes p.sink (source_arc p.nodes v (at_arc p.weights v)) ≡ true
source_slope p v h low = elim (cases_eq v p.sink) [
  | inl same ↦
      let none : at_arc p.weights v ≡ pos 0 = ap (at_arc p.weights) same ∙ h.sink_weight in
      rw none (flat_slope p.nodes p.sink p.nodes v (pos 0))
  | inr other ↦
      let apart : v ≢ p.nodes = λ e. absurd (omega (arith, e, low)) in
      rising_slope p.nodes p.sink v (at_arc p.weights v) apart other (h.weight_low v low)
]

source_monotone : (p : ShareProblem) (v : ℕ) → IsShareProblem p → v < p.nodes →
    IsMonotoneArc (share_net p) (source_arc p.nodes v (at_arc p.weights v))
source_monotone p v h low = record {
  tail = omega arith;
  head = omega (arith, low);
  slope = source_slope p v h low;
  low = fed_low (at_arc p.weights v);
  high = fed_high (at_arc p.weights v) (h.weight_low v low);
}

flow_small : (p : ShareProblem) (i : ℕ) → IsBoundedSharing p → i < length p.ends → IsSmallArc (flow_arc (get_or p.ends i (0, 0)) (at_arc p.capacities i))
flow_small p i b low =
    let l = b.problem.capacity_low i low in
    let h = b.capacity_high i low in
    record { a_low = omega (arith, ints, l); a_high = omega (arith, ints, h); b_low = omega (arith, ints); b_high = omega (arith, ints) }

source_small : (p : ShareProblem) (v : ℕ) → IsBoundedSharing p → v < p.nodes → IsSmallArc (source_arc p.nodes v (at_arc p.weights v))
source_small p v b low =
    let l = b.problem.weight_low v low in
    let h = b.weight_high v low in
    record { a_low = omega (arith, ints); a_high = omega (arith, ints); b_low = omega (arith, ints, l); b_high = omega (arith, ints, h) }

arcs_each : (p : ShareProblem) (P : AffineArc → Type 0) → IsShareProblem p →
    ((i : ℕ) → i < length p.ends → P (flow_arc (get_or p.ends i (0, 0)) (at_arc p.capacities i))) →
    ((v : ℕ) → v < p.nodes → P (source_arc p.nodes v (at_arc p.weights v))) → All P (share_net p).arcs
arcs_each p P h flows sources = λ k d low.
    subst P (get_or_default (share_net p).arcs k no_arc d low)
    (each_arc p (λ i. P (arc_of p i)) h (λ i less. subst P (sym (arc_flow p i h less)) (flows i less))
    (λ v less. subst P (sym (arc_source p v h less)) (sources v less)) k low)

pub net_built : (p : ShareProblem) → IsBoundedSharing p → IsBuilt (share_net p)
net_built p b =
    let h = b.problem in
    let nodes = b.few_nodes in
    let arcs = b.few_arcs in
    let all = arcs_full p h in
    let sink = h.sink in
    record {
      monotone = record {
        source = omega arith;
        sink = omega (arith, sink);
        apart = λ e. absurd (omega (arith, e, sink));
        low = omega (arith, ints);
        high = omega (arith, ints);
        interval = omega (arith, ints);
        each = arcs_each p (IsMonotoneArc (share_net p)) h (λ i less. flow_monotone p i h less) (λ v less. source_monotone p v h less);
      };
      limits = record {
        nodes = omega (arith, nodes);
        arcs = omega (arith, all, nodes, arcs);
        each = arcs_each p IsSmallArc h (λ i less. flow_small p i b less) (λ v less. source_small p v b less);
        low = record { low = omega (arith, ints); high = omega (arith, ints) };
        high = record { low = omega (arith, ints); high = omega (arith, ints) };
      };
    }
