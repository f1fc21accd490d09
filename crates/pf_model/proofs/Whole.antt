-- A curve covers the interval, has no more cuts than there are nodes besides the sink, and its points in lowest terms are one list.
use Rattle.std.proofs.Common.{◌≡◌, ℕ, zero, suc, ◌+◌, ◌-◌, ◌<◌, List, [], ◌∷◌, length, get_or, refl, Bool, true, false, cond, arith, ap, inl, inr, add-one}
use Rattle.std.specs.Prelude.{◌⊎◌, reverse}
use Rattle.std.proofs.lemmas.Int.{ints}
use Rattle.std.proofs.lemmas.List.{length-reverse}
use Rattle.pf_model.specs.declared.Sense.{Sense}
use Rattle.pf_model.specs.declared.Sense.TheVariants.{Rising, Falling}
use Rattle.pf_model.specs.Fraction.{Fraction, IsAtMost}
use Rattle.pf_model.specs.Cut.{IsContained, has, size}
use Rattle.pf_model.specs.Network.{Network, IsMonotone, IsInInterval}
use Rattle.pf_model.specs.Curve.{IsCurve, point_at, cut_at}
use Rattle.pf_model.specs.CurveLaws.{IsCovered, AreLowest}
use Rattle.pf_model.specs.Mirror.{other_sense, mirror, turned_points}
use Rattle.pf_model.proofs.Search.{size_less}
use Rattle.pf_model.proofs.Certificate.{at_most_trans, point_is_parameter}
use Rattle.pf_model.proofs.Unique.{below_or_at_most, curve_unique}
use Rattle.pf_model.proofs.Lowest.{same_fraction}
use Rattle.pf_model.proofs.Mirror.{monotone_turned}
use Rattle.pf_model.proofs.Turned.{curve_turned}

-- from a point that is not after x to the high end
covered_from : (net : Network) (points : List Fraction) (cuts : List (List Bool)) (x : Fraction) → IsMonotone net → IsCurve net points cuts →
    IsInInterval net x → (k i : ℕ) → i + k ≡ length cuts → 0 < k → IsAtMost (point_at net points i) x → IsCovered net points cuts x
covered_from net points cuts x m c h zero i e some after = absurd (omega (arith, some))
covered_from net points cuts x m c h (suc zero) i e some after =
    let px = h.parameter in
    let py = point_is_parameter net points cuts c.division (i + 1) (omega (arith, e)) in
    let last : i + 1 ≡ length cuts = omega (arith, e) in
    let high = c.division.high in
    let at_end : IsAtMost net.high (point_at net points (i + 1)) = rw last (omega (arith, ints, high)) in
    let before = at_most_trans x net.high (point_at net points (i + 1)) px m.high py h.high at_end in
    record {
      part = i;
      in_range = omega (arith, e);
      after = after;
      before = before;
      least = c.least i (omega (arith, e)) x px after before;
    }
covered_from net points cuts x m c h (suc (suc k)) i e some after = elim (below_or_at_most (point_at net points (i + 1)) x) [
  | inl less ↦ covered_from net points cuts x m c h (suc k) (i + 1) (omega (arith, e)) (omega arith) (omega (arith, ints, less))
  | inr before ↦ record {
    part = i;
    in_range = omega (arith, e);
    after = after;
    before = before;
    least = c.least i (omega (arith, e)) x h.parameter after before;
  }
]

pub covered : (net : Network) (points : List Fraction) (cuts : List (List Bool)) (x : Fraction) → IsMonotone net → IsCurve net points cuts →
    IsInInterval net x → IsCovered net points cuts x
covered net points cuts x m c h =
    let low = c.division.low in
    let start = point_is_parameter net points cuts c.division 0 (omega arith) in
    covered_from net points cuts x m c h (length cuts) 0 (omega arith) c.division.some
    (at_most_trans (point_at net points 0) net.low x start m.low h.parameter (omega (arith, ints, low)) h.low)

-- a side that is contained in another one is that side, or has fewer nodes
same_or_less : (x y : Bool) (xs ys : List Bool) → (x ≡ true → y ≡ true) → ((xs ≡ ys) ⊎ (size xs < size ys)) →
    ((x ∷ xs ≡ y ∷ ys) ⊎ (size (x ∷ xs) < size (y ∷ ys)))
same_or_less true true xs ys h (inl same) = inl (ap (λ l. true ∷ l) same)
same_or_less true true xs ys h (inr less) = inr (omega (arith, less))
same_or_less false false xs ys h (inl same) = inl (ap (λ l. false ∷ l) same)
same_or_less false false xs ys h (inr less) = inr (omega (arith, less))
same_or_less false true xs ys h (inl same) = inr (let e = ap size same in omega (arith, e))
same_or_less false true xs ys h (inr less) = inr (omega (arith, less))
same_or_less true false xs ys h rest = absurd (let e = h refl in cc)

pub contained_less : (xs ys : List Bool) → length xs ≡ length ys → IsContained xs ys → (xs ≡ ys) ⊎ (size xs < size ys)
contained_less [] [] e h = inl refl
contained_less [] (y ∷ ys) e h = absurd (omega (arith, e))
contained_less (x ∷ xs) [] e h = absurd (omega (arith, e))
contained_less (x ∷ xs) (y ∷ ys) e h =
    same_or_less x y xs ys (h 0) (contained_less xs ys (omega (arith, e)) (λ v. h (suc v)))

some_step : (x : Bool) (n : ℕ) → x ≡ true → 0 < cond x 1 0 + n
some_step true n h = omega arith
some_step false n h = cc

size_some : (xs : List Bool) (v : ℕ) → has xs v ≡ true → 0 < size xs
size_some [] v h = cc
size_some (x ∷ xs) zero h = some_step x (size xs) h
size_some (x ∷ xs) (suc v) h = let rest = size_some xs v h in omega (arith, rest)

-- in a rising network cut i has more than i nodes
large : (net : Network) (points : List Fraction) (cuts : List (List Bool)) → net.sense ≡ Rising → IsCurve net points cuts → (i : ℕ) → i < length cuts →
    i < size (cut_at cuts i)
large net points cuts rising c zero low = size_some (cut_at cuts 0) net.source (c.smallest 0 low).least.cut.with_source
large net points cuts rising c (suc i) low =
    let before = large net points cuts rising c i (omega (arith, low)) in
    let first = (c.smallest i (omega (arith, low))).least.cut.full in
    let second = (c.smallest (suc i) low).least.cut.full in
    let nested : IsContained (cut_at cuts i) (cut_at cuts (suc i)) = rw add-one at (rw rising at (c.nested i (omega (arith, low)))) in
    elim (contained_less (cut_at cuts i) (cut_at cuts (suc i)) (omega (arith, first, second)) nested) [
      | inl same ↦ absurd (c.different i (omega (arith, low)) (rw add-one same))
      | inr less ↦ omega (arith, before, less)
    ]

short_rising : (net : Network) (points : List Fraction) (cuts : List (List Bool)) → IsMonotone net → net.sense ≡ Rising → IsCurve net points cuts →
    length cuts < net.nodes
short_rising net points cuts m rising c =
    let some = c.division.some in
    let last = length cuts - 1 in
    let low : last < length cuts = omega (arith, some) in
    let cut = (c.smallest last low).least.cut in
    let full = cut.full in
    let sink = m.sink in
    let many = large net points cuts rising c last low in
    let few = size_less (cut_at cuts last) net.sink (omega (arith, full, sink)) cut.without_sink in
    omega (arith, some, many, few, full)

pub sense_cases : (sense : Sense) → (sense ≡ Rising) ⊎ (sense ≡ Falling)
sense_cases Rising = inl refl
sense_cases Falling = inr refl

pub curve_is_short : (net : Network) (points : List Fraction) (cuts : List (List Bool)) → IsMonotone net → IsCurve net points cuts →
    length cuts < net.nodes
curve_is_short net points cuts m c = elim (sense_cases net.sense) [
  | inl rising ↦ short_rising net points cuts m rising c
  | inr falling ↦
      let turned_short = short_rising (mirror net) (turned_points points) (reverse cuts) (monotone_turned net m) (ap other_sense falling) (curve_turned net points cuts c) in
      omega (arith, turned_short, length-reverse cuts)
]

-- one list of points in lowest terms
same_points : {X : Type 0} (d : X) (xs ys : List X) → length xs ≡ length ys → ((i : ℕ) → i < length xs → get_or xs i d ≡ get_or ys i d) → xs ≡ ys
same_points d [] [] e h = refl
same_points d [] (y ∷ ys) e h = absurd (omega (arith, e))
same_points d (x ∷ xs) [] e h = absurd (omega (arith, e))
same_points d (x ∷ xs) (y ∷ ys) e h =
    let first : x ≡ y = h 0 (omega arith) in
    let rest = same_points d xs ys (omega (arith, e)) (λ i low. h (suc i) (omega (arith, low))) in
    rw (first, rest) refl

pub same_lowest_points : (net : Network) (points points' : List Fraction) (cuts cuts' : List (List Bool)) → IsMonotone net →
    IsCurve net points cuts → IsCurve net points' cuts' → AreLowest net points → AreLowest net points' → points ≡ points'
same_lowest_points net points points' cuts cuts' m c d l l' =
    let same = curve_unique net points points' cuts cuts' m c d in
    let e = c.division.count in
    let f = d.division.count in
    let g = ap length same.same_cuts in
    same_points net.low points points' (omega (arith, e, f, g))
    (λ i low.
    same_fraction (point_at net points i) (point_at net points' i)
    (c.division.parameters i low) (d.division.parameters i (omega (arith, low, e, f, g)))
    (l i low) (l' i (omega (arith, low, e, f, g))) (same.same_points i (omega (arith, low, e))))
