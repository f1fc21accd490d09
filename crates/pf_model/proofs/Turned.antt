-- A curve and its certificate, seen from the other end of the interval.
use Rattle.std.proofs.Common.{◌≡◌, ℕ, ◌+◌, ◌-◌, List, [], length, get_or, Bool, arith, ap, sym, ◌∙◌, subst}
use Rattle.std.specs.Prelude.{ℤ, map, reverse}
use Rattle.std.proofs.lemmas.Int.{ints}
use Rattle.std.proofs.lemmas.List.{length-map, get_or-map, length-reverse, get_or-reverse}
use Rattle.pf_model.specs.declared.Sense.{Sense}
use Rattle.pf_model.specs.declared.Sense.TheVariants.{Rising, Falling}
use Rattle.pf_model.specs.Fraction.{Fraction, IsParameter, IsBelow, IsAtMost, IsEqual}
use Rattle.pf_model.specs.Cut.{FlowNetwork, IsLeast, IsSmallestLeast, capacity}
use Rattle.pf_model.specs.Flow.{IsFlow, value}
use Rattle.pf_model.specs.Residual.{IsReach}
use Rattle.pf_model.specs.Network.{Network, IsNetworkCut, network_at, cut_b}
use Rattle.pf_model.specs.Curve.{IsDivision, IsCurve, CertifiesCurve, SlopesFall, Nests, own_point, IsPoint, point_at, cut_at, flow_at}
use Rattle.pf_model.specs.Mirror.{negative, other_sense, mirror, turned_points}
use Rattle.pf_model.proofs.Mirror.{negated_twice, below_turned, at_most_turned, equal_turned, at_mirror, slope_turned, cut_turned, point_turned, mirror_twice}

-- places in a list that was turned round
pub place_turned : {X : Type 0} (xs : List X) (d : X) (i j : ℕ) → i + j + 1 ≡ length xs → get_or (reverse xs) i d ≡ get_or xs j d
place_turned xs d i j e =
    get_or-reverse xs i d (omega (arith, e)) ∙ ap (λ k. get_or xs k d) (let f : length xs - 1 - i ≡ j = omega (arith, e) in f)

place_of_point : (net : Network) (points : List Fraction) (i j : ℕ) → i + j + 1 ≡ length points →
    point_at (mirror net) (turned_points points) i ≡ negative (point_at net points j)
place_of_point net points i j e =
    place_turned (map negative points) (negative net.high) i j (omega (arith, e, length-map points negative))
    ∙ get_or-map negative points j net.low (negative net.high) (omega (arith, e))

-- the order of points
below_by : (x y x' y' : Fraction) → x' ≡ negative y → y' ≡ negative x → IsBelow x y → IsBelow x' y'
below_by x y x' y' e f h =
    subst (λ z. IsBelow z y') (sym e) (subst (λ z. IsBelow (negative y) z) (sym f) (below_turned x y h))

after_turned : (x y y' : Fraction) → y' ≡ negative y → IsAtMost x y' → IsAtMost y (negative x)
after_turned x y y' e h =
    subst (λ z. IsAtMost z (negative x)) (negated_twice y) (at_most_turned x (negative y) (subst (λ z. IsAtMost x z) e h))

before_turned : (x y y' : Fraction) → y' ≡ negative y → IsAtMost y' x → IsAtMost (negative x) y
before_turned x y y' e h =
    subst (λ z. IsAtMost (negative x) z) (negated_twice y) (at_most_turned (negative y) x (subst (λ z. IsAtMost z x) e h))

division_turned : (net : Network) (points : List Fraction) (cuts : List (List Bool)) → IsDivision net points cuts →
    IsDivision (mirror net) (turned_points points) (reverse cuts)
division_turned net points cuts d =
    let k = length cuts in
    let count = d.count in
    let long = length-reverse cuts in
    let wide : length (turned_points points) ≡ length points = length-reverse (map negative points) ∙ length-map points negative in
    record {
      some = let h = d.some in omega (arith, h, long);
      count = omega (arith, wide, count, long);
      parameters = λ i low.
          let e = place_of_point net points i (k - i) (omega (arith, low, wide, count)) in
          subst IsParameter (sym e) (d.parameters (k - i) (omega (arith, count)));
      low =
          let e = place_of_point net points 0 k (omega (arith, count)) in
          subst (λ z. IsEqual z (negative net.high)) (sym e) (equal_turned (point_at net points k) net.high d.high);
      high =
          let e = place_of_point net points (length (reverse cuts)) 0 (omega (arith, count, long)) in
          subst (λ z. IsEqual z (negative net.low)) (sym e) (equal_turned (point_at net points 0) net.low d.low);
      rise = λ i low.
          let j = k - (i + 1) in
          let e = place_of_point net points i (j + 1) (omega (arith, low, count, long)) in
          let f = place_of_point net points (i + 1) j (omega (arith, low, count, long)) in
          below_by (point_at net points j) (point_at net points (j + 1)) _ _ e f (d.rise j (omega (arith, low, long)));
    }

-- cut i of the one is cut j of the other, and so are their own points
own_place : (sense : Sense) (net : Network) (points : List Fraction) (i j : ℕ) → i + j + 2 ≡ length points →
    point_at (mirror net) (turned_points points) (own_point (other_sense sense) i) ≡ negative (point_at net points (own_point sense j))
own_place Rising net points i j e = place_of_point net points i (j + 1) (omega (arith, e))
own_place Falling net points i j e = place_of_point net points (i + 1) j (omega (arith, e))

own_flow : (sense : Sense) (flows : List (List ℤ)) (i j : ℕ) → i + j + 2 ≡ length flows →
    flow_at (reverse flows) (own_point (other_sense sense) i) ≡ flow_at flows (own_point sense j)
own_flow Rising flows i j e = place_turned flows [] i (j + 1) (omega (arith, e))
own_flow Falling flows i j e = place_turned flows [] (i + 1) j (omega (arith, e))

slopes_turned : (net : Network) (cuts : List (List Bool)) → SlopesFall net cuts → SlopesFall (mirror net) (reverse cuts)
slopes_turned net cuts falls i low =
    let long = length-reverse cuts in
    let j = length cuts - (i + 2) in
    let e = ap (cut_b (mirror net)) (place_turned cuts [] (i + 1) j (omega (arith, low, long))) in
    let f = ap (cut_b (mirror net)) (place_turned cuts [] i (j + 1) (omega (arith, low, long))) in
    let h = falls j (omega (arith, low, long)) in
    omega (arith, ints, e, f, h, slope_turned net (cut_at cuts j), slope_turned net (cut_at cuts (j + 1)))

nests_turned : (sense : Sense) (a b a' b' : List Bool) → a' ≡ b → b' ≡ a → Nests sense a b → Nests (other_sense sense) a' b'
nests_turned Rising a b a' b' e f h = λ v held. rw e (h v (rw f at held))
nests_turned Falling a b a' b' e f h = λ v held. rw f (h v (rw e at held))

pub curve_turned : (net : Network) (points : List Fraction) (cuts : List (List Bool)) → IsCurve net points cuts →
    IsCurve (mirror net) (turned_points points) (reverse cuts)
curve_turned net points cuts c =
    let k = length cuts in
    let count = c.division.count in
    let long = length-reverse cuts in
    record {
      division = division_turned net points cuts c.division;
      least = λ i low x px h after.
          let j = k - (i + 1) in
          let side = cut_at cuts j in
          let s = place_turned cuts [] i j (omega (arith, low, long)) in
          let e = place_of_point net points i (j + 1) (omega (arith, low, count, long)) in
          let f = place_of_point net points (i + 1) j (omega (arith, low, count, long)) in
          let here = c.least j (omega (arith, low, long)) (negative x) px
          (after_turned x (point_at net points j) _ f after) (before_turned x (point_at net points (j + 1)) _ e h) in
          subst (λ z. IsLeast (network_at (mirror net) x) z) (sym s)
          (at_mirror (λ g. IsLeast g side) net (negative x) x (sym (negated_twice x)) here);
      smallest = λ i low.
          let j = k - (i + 1) in
          let side = cut_at cuts j in
          let s = place_turned cuts [] i j (omega (arith, low, long)) in
          let e = own_place net.sense net points i j (omega (arith, low, count, long)) in
          subst (λ z. IsSmallestLeast (network_at (mirror net) (point_at (mirror net) (turned_points points) (own_point (other_sense net.sense) i))) z) (sym s)
          (at_mirror (λ g. IsSmallestLeast g side) net (point_at net points (own_point net.sense j)) _ e (c.smallest j (omega (arith, low, long))));
      slopes = slopes_turned net cuts c.slopes;
      nested = λ i low.
          let j = k - (i + 2) in
          nests_turned net.sense (cut_at cuts j) (cut_at cuts (j + 1)) _ _
          (place_turned cuts [] i (j + 1) (omega (arith, low, long))) (place_turned cuts [] (i + 1) j (omega (arith, low, long)))
          (c.nested j (omega (arith, low, long)));
      different = λ i low same.
          let j = k - (i + 2) in
          let e = place_turned cuts [] i (j + 1) (omega (arith, low, long)) in
          let f = place_turned cuts [] (i + 1) j (omega (arith, low, long)) in
          c.different j (omega (arith, low, long)) (sym f ∙ sym same ∙ e);
    }

meets_turned : (net : Network) (x x' : Fraction) (flow flow' : List ℤ) (side side' : List Bool) → x' ≡ negative x → flow' ≡ flow → side' ≡ side →
    value (network_at net x) flow ≡ capacity (network_at net x) side →
    value (network_at (mirror net) x') flow' ≡ capacity (network_at (mirror net) x') side'
meets_turned net x x' flow flow' side side' e f s h =
    ap (value (network_at (mirror net) x')) f
    ∙ at_mirror (λ g. value g flow ≡ capacity g side) net x x' e h
    ∙ ap (capacity (network_at (mirror net) x')) (sym s)

pub certificate_turned : (net : Network) (points : List Fraction) (cuts : List (List Bool)) (flows : List (List ℤ)) →
    CertifiesCurve net points cuts flows → CertifiesCurve (mirror net) (turned_points points) (reverse cuts) (reverse flows)
certificate_turned net points cuts flows c =
    let k = length cuts in
    let count = c.division.count in
    let many = c.count in
    let long = length-reverse cuts in
    let wide : length (turned_points points) ≡ length points = length-reverse (map negative points) ∙ length-map points negative in
    record {
      division = division_turned net points cuts c.division;
      count = omega (arith, many, wide, length-reverse flows);
      flow_is = λ i low.
          let j = k - i in
          let e = place_of_point net points i j (omega (arith, low, wide, count)) in
          let f = place_turned flows [] i j (omega (arith, low, wide, count, many)) in
          subst (λ z. IsFlow (network_at (mirror net) (point_at (mirror net) (turned_points points) i)) z) (sym f)
          (at_mirror (λ g. IsFlow g (flow_at flows j)) net (point_at net points j) _ e (c.flow_is j (omega (arith, count))));
      left = λ i low.
          let j = k - (i + 1) in
          meets_turned net (point_at net points (j + 1)) _ (flow_at flows (j + 1)) _ (cut_at cuts j) _
          (place_of_point net points i (j + 1) (omega (arith, low, count, long))) (place_turned flows [] i (j + 1) (omega (arith, low, count, long, many)))
          (place_turned cuts [] i j (omega (arith, low, long))) (c.right j (omega (arith, low, long)));
      right = λ i low.
          let j = k - (i + 1) in
          meets_turned net (point_at net points j) _ (flow_at flows j) _ (cut_at cuts j) _
          (place_of_point net points (i + 1) j (omega (arith, low, count, long))) (place_turned flows [] (i + 1) j (omega (arith, low, count, long, many)))
          (place_turned cuts [] i j (omega (arith, low, long))) (c.left j (omega (arith, low, long)));
      reach = λ i low.
          let j = k - (i + 1) in
          let side = cut_at cuts j in
          let flow = flow_at flows (own_point net.sense j) in
          let e = own_place net.sense net points i j (omega (arith, low, count, long)) in
          let f = own_flow net.sense flows i j (omega (arith, low, count, long, many)) in
          let s = place_turned cuts [] i j (omega (arith, low, long)) in
          let g : FlowNetwork = network_at (mirror net) (point_at (mirror net) (turned_points points) (own_point (other_sense net.sense) i)) in
          subst (λ z. IsReach g z (cut_at (reverse cuts) i)) (sym f)
          (subst (λ z. IsReach g flow z) (sym s)
          (at_mirror (λ g. IsReach g flow side) net (point_at net points (own_point net.sense j)) _ e (c.reach j (omega (arith, low, long)))));
      cut = λ i low.
          let j = k - (i + 1) in
          let s = place_turned cuts [] i j (omega (arith, low, long)) in
          subst (IsNetworkCut (mirror net)) (sym s) (cut_turned net (cut_at cuts j) (c.cut j (omega (arith, low, long))));
      slopes = slopes_turned net cuts c.slopes;
    }

-- from the mirror back to the network
pub point_back : (net : Network) (x : Fraction) (side : List Bool) (flow : List ℤ) → IsPoint (mirror net) x side flow →
    IsPoint net (negative x) side flow
point_back net x side flow p = subst (λ n. IsPoint n (negative x) side flow) (mirror_twice net) (point_turned (mirror net) x side flow p)

pub curve_back : (net : Network) (points : List Fraction) (cuts : List (List Bool)) → IsCurve (mirror net) points cuts →
    IsCurve net (turned_points points) (reverse cuts)
curve_back net points cuts c =
    subst (λ n. IsCurve n (turned_points points) (reverse cuts)) (mirror_twice net) (curve_turned (mirror net) points cuts c)

pub certificate_back : (net : Network) (points : List Fraction) (cuts : List (List Bool)) (flows : List (List ℤ)) →
    CertifiesCurve (mirror net) points cuts flows → CertifiesCurve net (turned_points points) (reverse cuts) (reverse flows)
certificate_back net points cuts flows c =
    subst (λ n. CertifiesCurve n (turned_points points) (reverse cuts) (reverse flows)) (mirror_twice net) (certificate_turned (mirror net) points cuts flows c)
