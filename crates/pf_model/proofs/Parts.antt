-- Cuts that are least part by part, each the smallest least cut somewhere, are a curve.
use Rattle.std.proofs.Common.{◌≡◌, ℕ, zero, suc, ◌+◌, ◌<◌, List, length, Bool, arith, ap, inl, inr, add-one}
use Rattle.std.proofs.lemmas.Int.{ints}
use Rattle.std.proofs.lemmas.Bool.{cases_lt}
use Rattle.pf_model.specs.declared.Sense.TheVariants.{Rising, Falling}
use Rattle.pf_model.specs.Fraction.{Fraction, IsParameter, IsBelow, IsAtMost}
use Rattle.pf_model.specs.Cut.{FlowNetwork, IsLeast, IsSmallestLeast, IsContained}
use Rattle.pf_model.specs.Network.{Network, IsMonotone, network_at, cut_b}
use Rattle.pf_model.specs.Curve.{IsCurve, own_point, point_at, cut_at}
use Rattle.pf_model.specs.CurveLaws.{IsSmallestSomewhere, HasLeastParts}
use Rattle.pf_model.proofs.Affine.{proper_at, nested}
use Rattle.pf_model.proofs.Nesting.{nested_falling}
use Rattle.pf_model.proofs.Exists.{greatest_exists}
use Rattle.pf_model.proofs.Certificate.{at_most_reflexive, at_most_trans, least_between, point_is_parameter, point_inside, nests_at}
use Rattle.pf_model.proofs.Unique.{below_or_at_most, same_slope}
use Rattle.pf_model.proofs.Whole.{sense_cases}

-- a least cut that is contained in a smallest one is smallest too
smallest_by : (g : FlowNetwork) (side small : List Bool) → IsLeast g side → IsSmallestLeast g small → IsContained side small → IsSmallestLeast g side
smallest_by g side small l s h = record { least = l; smallest = λ other o v held. s.smallest other o v (h v held) }

-- the part's cut cannot be least beyond the point that ends the part
same_slope_after : (net : Network) (r k z : Fraction) (side next : List Bool) → IsParameter r → IsParameter k → IsParameter z → IsBelow r k → IsBelow r z →
    IsLeast (network_at net r) side → IsLeast (network_at net k) side →
    ((x : Fraction) → IsParameter x → IsAtMost r x → IsAtMost x z → IsLeast (network_at net x) next) → cut_b net side ≡ cut_b net next
same_slope_after net r k z side next pr pk pz before_k before_z here there other = elim (below_or_at_most k z) [
  | inl less ↦
      same_slope net r k side next pr pk before_k here (other r pr (at_most_reflexive r) (omega (arith, ints, before_z)))
      there (other k pk (omega (arith, ints, before_k)) (omega (arith, ints, less)))
  | inr most ↦
      same_slope net r z side next pr pz before_z here (other r pr (at_most_reflexive r) (omega (arith, ints, before_z)))
      (least_between net r z k side pr pz pk (omega (arith, ints, before_z)) most here there)
      (other z pz (omega (arith, ints, before_z)) (at_most_reflexive z))
]

same_slope_before : (net : Network) (l k z : Fraction) (side last : List Bool) → IsParameter l → IsParameter k → IsParameter z → IsBelow k l → IsBelow z l →
    IsLeast (network_at net l) side → IsLeast (network_at net k) side →
    ((x : Fraction) → IsParameter x → IsAtMost z x → IsAtMost x l → IsLeast (network_at net x) last) → cut_b net side ≡ cut_b net last
same_slope_before net l k z side last pl pk pz after_k after_z here there other = elim (below_or_at_most z k) [
  | inl less ↦
      same_slope net k l side last pk pl after_k there (other k pk (omega (arith, ints, less)) (omega (arith, ints, after_k)))
      here (other l pl (omega (arith, ints, after_z)) (at_most_reflexive l))
  | inr most ↦
      same_slope net z l side last pz pl after_z
      (least_between net k z l side pk pz pl most (omega (arith, ints, after_z)) there here)
      (other z pz (at_most_reflexive z) (omega (arith, ints, after_z)))
      here (other l pl (omega (arith, ints, after_z)) (at_most_reflexive l))
]

-- the cut of part i is least at both ends of the part
least_left : (net : Network) (points : List Fraction) (cuts : List (List Bool)) → HasLeastParts net points cuts → (i : ℕ) → i < length cuts →
    IsLeast (network_at net (point_at net points i)) (cut_at cuts i)
least_left net points cuts h i low =
    let rise = h.division.rise i low in
    h.least i low (point_at net points i) (point_is_parameter net points cuts h.division i (omega (arith, low)))
    (at_most_reflexive (point_at net points i)) (omega (arith, ints, rise))

least_right : (net : Network) (points : List Fraction) (cuts : List (List Bool)) → HasLeastParts net points cuts → (i : ℕ) → i < length cuts →
    IsLeast (network_at net (point_at net points (i + 1))) (cut_at cuts i)
least_right net points cuts h i low =
    let rise = h.division.rise i low in
    h.least i low (point_at net points (i + 1)) (point_is_parameter net points cuts h.division (i + 1) (omega (arith, low)))
    (omega (arith, ints, rise)) (at_most_reflexive (point_at net points (i + 1)))

-- the parameter at which it is the smallest least cut is not after the part in a rising network
not_behind : (net : Network) (points : List Fraction) (cuts : List (List Bool)) → IsMonotone net → HasLeastParts net points cuts → (i : ℕ) → i < length cuts →
    (s : IsSmallestSomewhere net (cut_at cuts i)) → IsBelow (point_at net points (i + 1)) s.at → ⊥
not_behind net points cuts m h i low s less =
    let r = point_at net points (i + 1) in
    let pr = point_is_parameter net points cuts h.division (i + 1) (omega (arith, low)) in
    let pk = s.inside.parameter in
    elim (cases_lt (i + 1) (length cuts)) [
      | inl more ↦
          let pz = point_is_parameter net points cuts h.division (i + 1 + 1) (omega (arith, more)) in
          let falls = h.slopes i more in
          let same = same_slope_after net r s.at (point_at net points (i + 1 + 1)) (cut_at cuts i) (cut_at cuts (i + 1)) pr pk pz less (h.division.rise (i + 1) more)
          (least_right net points cuts h i low) s.smallest.least (h.least (i + 1) more) in
          omega (arith, ints, same, falls)
      | inr last ↦
          let at_end : i + 1 ≡ length cuts = omega (arith, low, last) in
          let high = h.division.high in
          let back : IsAtMost net.high r = rw at_end (omega (arith, ints, high)) in
          let most = at_most_trans s.at net.high r pk m.high pr s.inside.high back in
          omega (arith, ints, less, most)
    ]

-- nor before it in a falling one
not_before : (net : Network) (points : List Fraction) (cuts : List (List Bool)) → IsMonotone net → HasLeastParts net points cuts → (i : ℕ) → i < length cuts →
    (s : IsSmallestSomewhere net (cut_at cuts i)) → IsBelow s.at (point_at net points i) → ⊥
not_before net points cuts m h zero low s less =
    let l = point_at net points 0 in
    let pl = point_is_parameter net points cuts h.division 0 (omega arith) in
    let start = h.division.low in
    let most = at_most_trans l net.low s.at pl m.low s.inside.parameter (omega (arith, ints, start)) s.inside.low in
    omega (arith, ints, less, most)
not_before net points cuts m h (suc i) low s less =
    let pl = point_is_parameter net points cuts h.division (suc i) (omega (arith, low)) in
    let pz = point_is_parameter net points cuts h.division i (omega (arith, low)) in
    let here : i < length cuts = omega (arith, low) in
    let falls = rw add-one at (h.slopes i (omega (arith, low))) in
    let rise = rw add-one at (h.division.rise i here) in
    let same = same_slope_before net (point_at net points (suc i)) s.at (point_at net points i) (cut_at cuts (suc i)) (cut_at cuts i) pl s.inside.parameter pz less rise
    (least_left net points cuts h (suc i) low) s.smallest.least (rw add-one at (h.least i here)) in
    omega (arith, ints, same, falls)

smallest_rising : (net : Network) (points : List Fraction) (cuts : List (List Bool)) → IsMonotone net → net.sense ≡ Rising → HasLeastParts net points cuts →
    (i : ℕ) → i < length cuts → IsSmallestLeast (network_at net (point_at net points (i + 1))) (cut_at cuts i)
smallest_rising net points cuts m rising h i low =
    let r = point_at net points (i + 1) in
    let within = point_inside net points cuts m h.division (i + 1) (omega (arith, low)) in
    let s = h.somewhere i low in
    let best = greatest_exists (network_at net r) (proper_at net r m within) in
    smallest_by (network_at net r) (cut_at cuts i) best.side (least_right net points cuts h i low) best.smallest
    (elim (below_or_at_most r s.at) [
      | inl less ↦ absurd (not_behind net points cuts m h i low s less)
      | inr most ↦ nested net s.at r (cut_at cuts i) best.side m rising s.inside within most s.smallest best.smallest.least
    ])

smallest_falling : (net : Network) (points : List Fraction) (cuts : List (List Bool)) → IsMonotone net → net.sense ≡ Falling → HasLeastParts net points cuts →
    (i : ℕ) → i < length cuts → IsSmallestLeast (network_at net (point_at net points i)) (cut_at cuts i)
smallest_falling net points cuts m falling h i low =
    let l = point_at net points i in
    let within = point_inside net points cuts m h.division i (omega (arith, low)) in
    let s = h.somewhere i low in
    let best = greatest_exists (network_at net l) (proper_at net l m within) in
    smallest_by (network_at net l) (cut_at cuts i) best.side (least_left net points cuts h i low) best.smallest
    (elim (below_or_at_most s.at l) [
      | inl less ↦ absurd (not_before net points cuts m h i low s less)
      | inr most ↦ nested_falling net l s.at best.side (cut_at cuts i) m falling within s.inside most best.smallest.least s.smallest
    ])

smallest_own : (net : Network) (points : List Fraction) (cuts : List (List Bool)) → IsMonotone net → HasLeastParts net points cuts →
    (i : ℕ) → i < length cuts → IsSmallestLeast (network_at net (point_at net points (own_point net.sense i))) (cut_at cuts i)
smallest_own net points cuts m h i low = elim (sense_cases net.sense) [
  | inl rising ↦ rw (rising, own_point) (smallest_rising net points cuts m rising h i low)
  | inr falling ↦ rw (falling, own_point) (smallest_falling net points cuts m falling h i low)
]

pub curve_from_parts : (net : Network) (points : List Fraction) (cuts : List (List Bool)) → IsMonotone net → HasLeastParts net points cuts →
    IsCurve net points cuts
curve_from_parts net points cuts m h = record {
  division = h.division;
  least = h.least;
  smallest = smallest_own net points cuts m h;
  slopes = h.slopes;
  nested = λ i low.
      nests_at net.sense net points i (cut_at cuts i) (cut_at cuts (i + 1))
      (smallest_own net points cuts m h i (omega (arith, low))) (smallest_own net points cuts m h (i + 1) low)
      (least_right net points cuts h i (omega (arith, low))) (least_left net points cuts h (i + 1) low);
  different = λ i low same.
      let falls = h.slopes i low in
      let e = ap (cut_b net) same in
      absurd (omega (arith, ints, falls, e));
}
