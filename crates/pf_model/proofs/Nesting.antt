-- Cuts of a monotone network that contain each other.
use Rattle.std.proofs.Common.{◌≡◌, ℕ, suc, ◌<◌, List, [], ◌∷◌, length, get_or, Bool, true, false, cond, not, ◌&&◌, arith, ap, refl, inl, inr}
use Rattle.std.specs.Prelude.{ℤ, ◌≤ℤ◌, pos, map, ◌⊎◌}
use Rattle.std.proofs.lemmas.Int.{ints}
use Rattle.pf_model.specs.declared.AffineArc.{AffineArc}
use Rattle.pf_model.specs.declared.Sense.TheVariants.{Rising, Falling}
use Rattle.pf_model.specs.Fraction.{Fraction, IsAtMost}
use Rattle.pf_model.specs.Cut.{IsLeast, IsSmallestLeast, IsContained, sum_where, has, leaves}
use Rattle.pf_model.specs.Network.{Network, IsNetworkCut, IsMonotone, IsInInterval, network_at, ends_of, cut_b}
use Rattle.pf_model.specs.Mirror.{negative, other_sense, mirror}
use Rattle.pf_model.proofs.Affine.{no_arc, arc_at, Rises, rises, nested}
use Rattle.pf_model.proofs.Mirror.{at_mirror, at_most_turned, monotone_turned, interval_turned, cut_turned, slope_turned}

-- one arc: leaving a larger side weighs no more
slope_of_arc : (a b a' b' : Bool) (slope : ℤ) → (a ≡ true → a' ≡ true) → (b ≡ true → b' ≡ true) →
    ((a ≡ true) × (pos 0 ≤ℤ slope)) ⊎ (((b' ≡ false) × (slope ≤ℤ pos 0)) ⊎ (slope ≡ pos 0)) →
    cond (a' && not b') slope (pos 0) ≤ℤ cond (a && not b) slope (pos 0)
slope_of_arc a b a' b' slope h k rule = grind (arith, ints)

rule_of_arc : (first second : List Bool) (s t : ℕ) (arc : AffineArc) → has first s ≡ true → has second t ≡ false → Rises s t arc →
    ((has first arc.tail ≡ true) × (pos 0 ≤ℤ arc.b)) ⊎ (((has second arc.head ≡ false) × (arc.b ≤ℤ pos 0)) ⊎ (arc.b ≡ pos 0))
rule_of_arc first second s t arc with_source without_sink rule = elim rule [
  | inl out ↦ inl (rw out.0 with_source, out.1)
  | inr other ↦ elim other [
    | inl into ↦ inr (inl (rw into.0 without_sink, into.1))
    | inr flat ↦ inr (inr flat)
  ]
]

slopes_of_lists : (first second : List Bool) (s t : ℕ) → IsContained first second → has first s ≡ true → has second t ≡ false →
    (arcs : List AffineArc) → ((i : ℕ) → i < length arcs → Rises s t (get_or arcs i no_arc)) →
    sum_where (leaves second) (map ends_of arcs) (map (λ arc. arc.b) arcs) ≤ℤ sum_where (leaves first) (map ends_of arcs) (map (λ arc. arc.b) arcs)
slopes_of_lists first second s t h with_source without_sink [] rule = omega (arith, ints)
slopes_of_lists first second s t h with_source without_sink (arc ∷ arcs) rule =
    let here =
    slope_of_arc (has first arc.tail) (has first arc.head) (has second arc.tail) (has second arc.head) arc.b (h arc.tail) (h arc.head)
    (rule_of_arc first second s t arc with_source without_sink (rule 0 (omega arith))) in
    let rest = slopes_of_lists first second s t h with_source without_sink arcs (λ i low. rule (suc i) (omega arith)) in
    omega (arith, ints, here, rest)

pub rising_slopes : (net : Network) (first second : List Bool) → IsMonotone net → net.sense ≡ Rising → IsNetworkCut net first → IsNetworkCut net second →
    IsContained first second → cut_b net second ≤ℤ cut_b net first
rising_slopes net first second m rising a b h =
    slopes_of_lists first second net.source net.sink h a.with_source b.without_sink net.arcs
    (λ i low. rises net.source net.sink (arc_at net i) (rw rising at (m.each i no_arc low).slope))

-- a falling network through its mirror
pub falling_slopes : (net : Network) (first second : List Bool) → IsMonotone net → net.sense ≡ Falling → IsNetworkCut net first → IsNetworkCut net second →
    IsContained first second → cut_b net first ≤ℤ cut_b net second
falling_slopes net first second m falling a b h =
    let other = rising_slopes (mirror net) first second (monotone_turned net m) (ap other_sense falling) (cut_turned net first a) (cut_turned net second b) h in
    omega (arith, ints, other, slope_turned net first, slope_turned net second)

pub nested_falling : (net : Network) (x y : Fraction) (first second : List Bool) → IsMonotone net → net.sense ≡ Falling → IsInInterval net x → IsInInterval net y →
    IsAtMost x y → IsLeast (network_at net x) first → IsSmallestLeast (network_at net y) second → IsContained second first
nested_falling net x y first second m falling inside within order a b =
    nested (mirror net) (negative y) (negative x) second first (monotone_turned net m) (ap other_sense falling)
    (interval_turned net y within) (interval_turned net x inside) (at_most_turned x y order)
    (at_mirror (λ g. IsSmallestLeast g second) net y (negative y) refl b) (at_mirror (λ g. IsLeast g first) net x (negative x) refl a)
