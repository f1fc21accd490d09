-- The lower envelope of the lines of all cuts, each part with a cut that has its line and is the smallest least cut somewhere, is the curve.
use Rattle.std.proofs.Common.{◌≡◌, ℕ, zero, suc, ◌+◌, ◌<◌, ◌≤◌, List, [], ◌∷◌, length, get_or, map, Bool, add-one, refl, arith, ap, sym, ◌∙◌, subst}
use Rattle.std.specs.Prelude.{ℤ, All}
use Rattle.std.proofs.lemmas.Int.{ints}
use Rattle.std.proofs.lemmas.List.{length-map, get_or-map, get_or_default}
use Rattle.pf_model.specs.declared.Sense.TheVariants.{Rising}
use Rattle.pf_model.specs.Fraction.{Fraction, IsParameter, IsBelow}
use Rattle.pf_model.specs.Line.{AffineLine, value_at}
use Rattle.pf_model.specs.Cut.{IsLeast}
use Rattle.pf_model.specs.Network.{Network, IsMonotone, IsInInterval, IsNetworkCut, network_at, line_of}
use Rattle.pf_model.specs.Answer.{IsFractionShape, IsCurveShape}
use Rattle.pf_model.specs.Curve.{IsCurve, point_at, cut_at}
use Rattle.pf_model.specs.CurveLaws.{HasLeastParts}
use Rattle.pf_model.proofs.Affine.{capacity_of_line}
use Rattle.pf_model.proofs.Certificate.{point_inside, at_most_reflexive}
use Rattle.pf_model.proofs.Parts.{curve_from_parts}
use Rattle.pf_envelope.specs.Envelope.{Segment, IsLowerEnvelope, IsLeastAt, left_end, segment_at, no_segment}
use Rattle.pf_curve.specs.Cuts.{IsCutFound, IsLineOfCut, IsServed}
use Rattle.pf_curve.specs.Flows.{AreGreatest}

-- the cut at i was found at some parameter, with this line
pub record IsFoundAt (net : Network) (line : AffineLine) (side : List Bool) : Type 0 where
  pub at : Fraction
  pub found : IsCutFound net at line side

-- points and cuts that belong to the segments of an envelope
pub record Fits (net : Network) (segments : List Segment) (points : List Fraction) (cuts : List (List Bool)) : Type 0 where
  pub count : length cuts ≡ length segments
  pub point_count : length points ≡ length segments + 1
  pub first : point_at net points 0 ≡ net.low
  pub right : (i : ℕ) → i < length segments → point_at net points (i + 1) ≡ (segment_at segments i).right
  pub found : (i : ℕ) → i < length segments → IsFoundAt net (segment_at segments i).line (cut_at cuts i)

left_is : (net : Network) (segments : List Segment) (points : List Fraction) (cuts : List (List Bool)) → Fits net segments points cuts →
    (i : ℕ) → i ≤ length segments → point_at net points i ≡ left_end net.low segments i
left_is net segments points cuts f zero low = f.first
left_is net segments points cuts f (suc i) low = sym (ap (λ n. point_at net points n) (add-one i)) ∙ f.right i (omega arith)

none_is_high : (net : Network) (segments : List Segment) → IsMonotone net → left_end net.low segments (length segments) ≡ net.high → length segments ≡ 0 → ⊥
none_is_high net [] m e h =
    let interval = m.interval in
    let P : Fraction → Type 0 = λ x. IsBelow net.low x in
    let same = subst P (sym e) interval in
    omega (arith, ints, same)
none_is_high net (segment ∷ segments) m e h = absurd (omega arith)

some_segments : (net : Network) (segments : List Segment) → IsMonotone net → left_end net.low segments (length segments) ≡ net.high → 0 < length segments
some_segments net [] m e = absurd (none_is_high net [] m e refl)
some_segments net (segment ∷ segments) m e = omega arith

-- the line of a least cut is least
pub least_line : (net : Network) (x : Fraction) (line : AffineLine) (side : List Bool) → IsLeast (network_at net x) side → line ≡ line_of net side →
    IsLeastAt (IsLineOfCut net) line x
least_line net x line side l e other o =
    let cut = o.cut in
    let most = l.least o.side (record { full = cut.full; with_source = cut.with_source; without_sink = cut.without_sink }) in
    let mine = ap (λ (l : AffineLine). value_at l x) e in
    let theirs = ap (λ (l : AffineLine). value_at l x) o.line_is in
    let here = capacity_of_line net x side in
    let there = capacity_of_line net x o.side in
    omega (arith, ints, most, mine, theirs, here, there)

-- a cut whose line is least at a parameter is least there
least_cut : (net : Network) (x : Fraction) (line : AffineLine) (side : List Bool) → IsNetworkCut net side → line ≡ line_of net side →
    IsLeastAt (IsLineOfCut net) line x → IsLeast (network_at net x) side
least_cut net x line side c e h = record {
  cut = record { full = c.full; with_source = c.with_source; without_sink = c.without_sink };
  least = λ other o.
      let cut : IsNetworkCut net other = record { full = o.full; with_source = o.with_source; without_sink = o.without_sink } in
      let most = h (line_of net other) (record { side = other; cut = cut; line_is = refl }) in
      let mine = ap (λ (l : AffineLine). value_at l x) e in
      let here = capacity_of_line net x side in
      let there = capacity_of_line net x other in
      omega (arith, ints, most, mine, here, there);
}

cut_found : (net : Network) (x : Fraction) (line : AffineLine) (side : List Bool) → IsCutFound net x line side → IsNetworkCut net side
cut_found net x line side f =
    let cut = f.smallest.least.cut in
    record { full = cut.full; with_source = cut.with_source; without_sink = cut.without_sink }

parameter_of : (net : Network) (segments : List Segment) (points : List Fraction) (cuts : List (List Bool)) → IsMonotone net →
    IsLowerEnvelope (IsLineOfCut net) net.low net.high segments → Fits net segments points cuts →
    (i : ℕ) → i < length points → IsParameter (point_at net points i)
parameter_of net segments points cuts m env f zero low = rw f.first m.low
parameter_of net segments points cuts m env f (suc i) low =
    let here : i < length segments = omega (arith, low, f.point_count) in
    let e = sym (ap (λ n. point_at net points n) (add-one i)) ∙ f.right i here in
    let P : Fraction → Type 0 = λ x. IsParameter x in
    subst P (sym e) (env.parameters i here)

pub least_parts : (net : Network) (segments : List Segment) (points : List Fraction) (cuts : List (List Bool)) → IsMonotone net →
    IsLowerEnvelope (IsLineOfCut net) net.low net.high segments → Fits net segments points cuts → HasLeastParts net points cuts
least_parts net segments points cuts m env f =
    let left = left_is net segments points cuts f in
    let count = f.count in
    record {
      division = record {
        some = let h = some_segments net segments m env.covers in omega (arith, h, count);
        count = f.point_count ∙ ap (λ n. n + 1) (sym count);
        parameters = parameter_of net segments points cuts m env f;
        low = rw f.first refl;
        high = let e = ap (λ n. point_at net points n) count ∙ left (length segments) (omega arith) ∙ env.covers in rw e refl;
        rise = λ i low.
            let here : i < length segments = omega (arith, low, count) in
            rw (left i (omega arith), f.right i here) (env.rise i here);
      };
      least = λ i low x px h k.
          let here : i < length segments = omega (arith, low, count) in
          let found = f.found i here in
          let h' = rw (left i (omega arith)) at h in
          let k' = rw (f.right i here) at k in
          least_cut net x (segment_at segments i).line (cut_at cuts i) (cut_found net found.at (segment_at segments i).line (cut_at cuts i) found.found) found.found.line_is
          (env.least i here x px h' k');
      somewhere = λ i low.
          let here : i < length segments = omega (arith, low, count) in
          let found = f.found i here in
          record { at = found.at; inside = found.found.inside; smallest = found.found.smallest };
      slopes = λ i low.
          let here : i + 1 < length segments = omega (arith, low, count) in
          let falls = env.slopes_fall i here in
          let first = ap (λ (l : AffineLine). l.b) (f.found i (omega arith)).found.line_is in
          let second = ap (λ (l : AffineLine). l.b) (f.found (i + 1) here).found.line_is in
          omega (arith, ints, falls, first, second);
    }

pub envelope_is_curve : (net : Network) (segments : List Segment) (points : List Fraction) (cuts : List (List Bool)) → IsMonotone net →
    IsLowerEnvelope (IsLineOfCut net) net.low net.high segments → Fits net segments points cuts → IsCurve net points cuts
envelope_is_curve net segments points cuts m env f = curve_from_parts net points cuts m (least_parts net segments points cuts m env f)

right_at : {A : Type 0} (net : Network) (right : A → Fraction) (line : A → AffineLine) (parts : List A) (i : ℕ) → i < length parts →
    point_at net (net.low ∷ map right parts) (i + 1) ≡ (segment_at (map (λ p. record { right = right p; line = line p }) parts) i).right
right_at net right line [] i low = absurd (omega arith)
right_at {A} net right line (p ∷ parts) i low =
    let segment : A → Segment = λ q. record { right = right q; line = line q } in
    let first = get_or-map right (p ∷ parts) i p net.low low in
    let second = get_or-map segment (p ∷ parts) i p no_segment low in
    rw add-one (first ∙ sym (ap (λ (x : Segment). x.right) second))

found_at : {A : Type 0} (net : Network) (right at : A → Fraction) (line : A → AffineLine) (side : A → List Bool) (parts : List A) →
    All (λ p. IsCutFound net (at p) (line p) (side p)) parts → (i : ℕ) → i < length parts →
    IsFoundAt net (segment_at (map (λ p. record { right = right p; line = line p }) parts) i).line (cut_at (map side parts) i)
found_at net right at line side [] each i low = absurd (omega arith)
found_at {A} net right at line side (p ∷ parts) each i low =
    let segment : A → Segment = λ q. record { right = right q; line = line q } in
    let here = get_or (p ∷ parts) i p in
    let first = ap (λ (x : Segment). x.line) (get_or-map segment (p ∷ parts) i p no_segment low) in
    let second = get_or-map side (p ∷ parts) i p [] low in
    record { at = at here; found = rw (first, second) (each i p low) }

-- the segments, points and cuts of one list of parts
pub fit : {A : Type 0} (net : Network) (right at : A → Fraction) (line : A → AffineLine) (side : A → List Bool) (parts : List A) →
    All (λ p. IsCutFound net (at p) (line p) (side p)) parts →
    Fits net (map (λ p. record { right = right p; line = line p }) parts) (net.low ∷ map right parts) (map side parts)
fit {A} net right at line side parts each =
    let segment : A → Segment = λ p. record { right = right p; line = line p } in
    let segments = length-map parts segment in
    record {
      count = length-map parts side ∙ sym segments;
      point_count = ap suc (length-map parts right ∙ sym segments) ∙ sym (add-one (length (map segment parts)));
      first = refl;
      right = λ i low. right_at net right line parts i (omega (arith, low, segments));
      found = λ i low. found_at net right at line side parts each i (omega (arith, low, segments));
    }

-- the same, as the code calls it: the parts were found in the network `found`, which is this one
pub curve_of_parts : {A : Type 0} (net found : Network) (right at : A → Fraction) (line : A → AffineLine) (side : A → List Bool) (parts listed : List A) (lo hi lo' : Fraction)
    (points : List Fraction) (cuts : List (List Bool)) → IsMonotone net → found ≡ net → lo ≡ net.low → hi ≡ net.high → lo' ≡ net.low → listed ≡ parts →
    All (λ p. IsCutFound found (at p) (line p) (side p)) parts →
    IsLowerEnvelope (IsLineOfCut found) lo hi (map (λ p. record { right = right p; line = line p }) parts) →
    points ≡ lo' ∷ map right listed → cuts ≡ map side parts → IsCurve net points cuts
curve_of_parts {A} net found right at line side parts listed lo hi lo' points cuts m is_found is_lo is_hi is_lo' is_listed each env is_points is_cuts =
    let segment : A → Segment = λ p. record { right = right p; line = line p } in
    let parts_found : All (λ p. IsCutFound net (at p) (line p) (side p)) parts = rw is_found at each in
    let here : IsLowerEnvelope (IsLineOfCut net) net.low net.high (map segment parts) = rw (is_found, is_lo, is_hi) at env in
    let e : points ≡ net.low ∷ map right parts = is_points ∙ rw (is_lo', is_listed) refl in
    rw (e, is_cuts) (envelope_is_curve net (map segment parts) (net.low ∷ map right parts) (map side parts) m here (fit net right at line side parts parts_found))

pub all_inside : (net : Network) (points : List Fraction) (cuts : List (List Bool)) → IsMonotone net → IsCurve net points cuts → All (IsInInterval net) points
all_inside net points cuts m c = λ i d low.
    let here = point_inside net points cuts m c.division i (omega (arith, low, c.division.count)) in
    let P : Fraction → Type 0 = λ x. IsInInterval net x in
    subst P (get_or_default points i net.low d low) here

-- the same, as the code calls it
pub points_inside : (net found : Network) (points got : List Fraction) (cuts : List (List Bool)) → IsMonotone net → IsCurve net points cuts → found ≡ net → got ≡ points →
    All (IsInInterval found) got
points_inside net found points got cuts m curve is_net is_points = rw (is_net, is_points) (all_inside net points cuts m curve)

pub all_cuts : (net : Network) (points : List Fraction) (cuts : List (List Bool)) → IsCurve net points cuts → All (IsNetworkCut net) cuts
all_cuts net points cuts c = λ i d low.
    let cut = (c.smallest i low).least.cut in
    let here : IsNetworkCut net (cut_at cuts i) = record { full = cut.full; with_source = cut.with_source; without_sink = cut.without_sink } in
    let P : List Bool → Type 0 = λ x. IsNetworkCut net x in
    subst P (get_or_default cuts i [] d low) here

pub shape_of_curve : (net : Network) (points : List Fraction) (cuts : List (List Bool)) (flows : List (List ℤ)) → IsCurve net points cuts → All IsFractionShape points →
    AreGreatest net points flows → IsCurveShape net (record { points = points; cuts = cuts; flows = flows })
shape_of_curve net points cuts flows c shape best = record {
  some = c.division.some;
  count = c.division.count;
  flow_count = best.count;
  points = shape;
  cuts = all_cuts net points cuts c;
  flows = best.shape;
}

pub end_served : (net : Network) (x : Fraction) → IsMonotone net → net.sense ≡ Rising → x ≡ net.low → IsServed net x
end_served net x m rising e = record {
  rising = rising;
  inside = record { parameter = rw e m.low; low = rw e (at_most_reflexive net.low); high = let interval = m.interval in rw e (omega (arith, ints, interval)) };
  low = m.low;
  high = m.high;
}

pub high_end_served : (net : Network) (x : Fraction) → IsMonotone net → net.sense ≡ Rising → x ≡ net.high → IsServed net x
high_end_served net x m rising e = record {
  rising = rising;
  inside = record { parameter = rw e m.high; low = let interval = m.interval in rw e (omega (arith, ints, interval)); high = rw e (at_most_reflexive net.high) };
  low = m.low;
  high = m.high;
}
