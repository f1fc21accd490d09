-- The smallest least cut at a parameter, and how long it is kept.
use Rattle.std.proofs.Common.{◌≡◌, ◌≢◌, ℕ, zero, suc, ◌+◌, ◌<◌, ◌≤◌, List, [], ◌∷◌, length, get_or, take, Bool, true, false, cond, arith, ap, sym, ◌∙◌, refl, add-one, subst}
use Rattle.std.specs.Prelude.{ℤ}
use Rattle.std.proofs.lemmas.Int.{ints}
use Rattle.pf_model.specs.declared.Sense.TheVariants.{Rising}
use Rattle.pf_model.specs.Fraction.{Fraction, IsAtMost, IsEqual, IsLowest, IsBoundedFraction, lowest}
use Rattle.pf_model.specs.Line.{IsBoundedLine, value_at}
use Rattle.pf_model.specs.Cut.{IsCut, IsLeast, IsSmallestLeast, IsLeastValue, capacity, size}
use Rattle.pf_model.specs.Flow.{IsGreatest, IsWithin, value}
use Rattle.pf_model.specs.Digraph.{Digraph, network_of}
use Rattle.pf_model.specs.Network.{Network, IsInInterval, IsNetworkCut, network_at, line_of}
use Rattle.pf_model.specs.Answer.{Row, IsRowShape}
use Rattle.pf_model.proofs.Affine.{capacity_of_line, nested, proper_at}
use Rattle.pf_model.proofs.Certificate.{least_between}
use Rattle.pf_model.proofs.Lowest.{lowest_is}
use Rattle.pf_model.proofs.Duality.{least_from_meeting}
use Rattle.pf_model.proofs.Exists.{reach_exists}
use Rattle.pf_model.proofs.Search.{size-le-length}
use Rattle.pf_model.proofs.Simple.{smallest_of_greatest, value_of_greatest}
use Rattle.pf_model.proofs.Unique.{smallest_at_equal}
use Rattle.pf_frame.specs.Numbers.{IsBounded, IsSized}
use Rattle.pf_frame.proofs.FlowTest.{sized_of_bounded}
use Rattle.pf_net.specs.Limits.{IsBuilt, digraph_of}
use Rattle.pf_rat.proofs.Products.{line_value}
use Rattle.pf_sweep.specs.declared.sweep.KeptCut.{KeptCut}
use Rattle.pf_sweep.specs.Parameters.{of_units}
use Rattle.pf_sweep.specs.Swept.{IsKept}
use Rattle.pf_sweep.specs.Moving.{caps_of}
use Rattle.pf_sweep.specs.Rows.{IsRightRow}
use Rattle.pf_sweep.proofs.Onward.{wanted_bounded}

-- a greatest flow is within the capacities that the code has written, whichever nodes are the source and the sink
pub within_found : (net : Network) (unit p : ℤ) (frame : Digraph) (s : ℕ) (caps flow : List ℤ) → frame ≡ digraph_of net → caps ≡ caps_of net unit p →
    IsGreatest (network_at net (of_units unit p)) flow → IsWithin (network_of frame caps s s) flow
within_found net unit p frame s caps flow e f best =
    let within = best.flow_is.within in
    rw (e, f) (record { full = within.full; low = within.low; high = within.high })

pub caps_found : (net : Network) (unit p : ℤ) (frame : Digraph) (caps : List ℤ) → frame ≡ digraph_of net → caps ≡ caps_of net unit p → IsBuilt net → IsInInterval net (of_units unit p) →
    IsBoundedFraction (of_units unit p) → IsBounded frame caps
caps_found net unit p frame caps e f b inside bounds = rw (e, f) (wanted_bounded net unit p b inside bounds)

-- what was found is the smallest least cut
pub found : (net : Network) (unit p : ℤ) (frame : Digraph) (s : ℕ) (caps flow : List ℤ) (side : List Bool) → IsBuilt net → frame ≡ digraph_of net → s ≡ net.source → caps ≡ caps_of net unit p →
    IsGreatest (network_at net (of_units unit p)) flow →
    ((t : ℕ) → t < frame.nodes → s ≢ t → IsGreatest (network_of frame caps s t) flow → IsSmallestLeast (network_of frame caps s t) side) →
    IsSmallestLeast (network_at net (of_units unit p)) side
found net unit p frame s caps flow side b e f g best h =
    let m = b.monotone in
    let h' = rw (e, f, g) at h in
    h' net.sink m.sink m.apart best

pub network_cut : (net : Network) (unit p : ℤ) (side : List Bool) → IsSmallestLeast (network_at net (of_units unit p)) side → IsNetworkCut net side
network_cut net unit p side s = let c = s.least.cut in record { full = c.full; with_source = c.with_source; without_sink = c.without_sink }

pub kept_new : (net : Network) (x : Fraction) (side : List Bool) (cut : KeptCut) → net.sense ≡ Rising → IsInInterval net x → IsSmallestLeast (network_at net x) side → cut.side.items ≡ side →
    cut.line ≡ line_of net cut.side.items → cut.size ≡ size cut.side.items → IsKept net x cut
kept_new net x side cut rising inside s same e f = record {
  rising = rising;
  from = x;
  inside = inside;
  before = omega (arith, ints);
  smallest = subst (IsSmallestLeast (network_at net x)) (sym same) s;
  line_is = e;
  size_is = f;
}

-- a kept cut whose line is the value of a greatest flow is the smallest least cut
pub kept_least : (net : Network) (unit p : ℤ) (flow : List ℤ) (kept : KeptCut) → IsBuilt net → IsInInterval net (of_units unit p) →
    IsGreatest (network_at net (of_units unit p)) flow → IsKept net (of_units unit p) kept → value_at kept.line (of_units unit p) ≡ value (network_at net (of_units unit p)) flow →
    IsSmallestLeast (network_at net (of_units unit p)) kept.side.items
kept_least net unit p flow kept b inside best k told =
    let x : Fraction = of_units unit p in
    let side : List Bool = kept.side.items in
    let c = k.smallest.least.cut in
    let cut : IsCut (network_at net x) side = record { full = c.full; with_source = c.with_source; without_sink = c.without_sink } in
    let e : value (network_at net x) flow ≡ capacity (network_at net x) side =
    sym told ∙ ap (λ l. value_at l x) k.line_is ∙ sym (capacity_of_line net x side) in
    record {
      least = least_from_meeting (network_at net x) flow side best.flow_is cut e;
      smallest = λ other o. nested net k.from x side other b.monotone k.rising k.inside inside k.before k.smallest o;
    }

-- a kept cut whose line is the least value at a later parameter is the smallest least cut at all up to there
pub kept_between : (net : Network) (x high : Fraction) (kept : KeptCut) (least : ℤ) → IsBuilt net → IsInInterval net x → IsInInterval net high → IsAtMost x high → IsKept net x kept →
    IsLeastValue (network_at net high) least → value_at kept.line high ≡ least → IsSmallestLeast (network_at net x) kept.side.items
kept_between net x high kept least b inside far below k v told =
    let side : List Bool = kept.side.items in
    let c = k.smallest.least.cut in
    let cut : IsCut (network_at net high) side = record { full = c.full; with_source = c.with_source; without_sink = c.without_sink } in
    let e : least ≡ capacity (network_at net high) side = sym told ∙ ap (λ l. value_at l high) k.line_is ∙ sym (capacity_of_line net high side) in
    let f = v.value_is in
    let there : IsLeast (network_at net high) side = record { cut = cut; least = λ other o. let m = v.least.least other o in omega (arith, ints, e, f, m) } in
    record {
      least = least_between net k.from x high side k.inside.parameter inside.parameter far.parameter k.before below k.smallest.least there;
      smallest = λ other o. nested net k.from x side other b.monotone k.rising k.inside inside k.before k.smallest o;
    }

-- the value of a greatest flow is the least value
pub least_value : (net : Network) (unit p : ℤ) (flow : List ℤ) (sum : ℤ) → IsBuilt net → IsInInterval net (of_units unit p) → IsGreatest (network_at net (of_units unit p)) flow →
    sum ≡ value (network_at net (of_units unit p)) flow → IsLeastValue (network_at net (of_units unit p)) sum
least_value net unit p flow sum b inside best e =
    let x : Fraction = of_units unit p in
    let proper = proper_at net x b.monotone inside in
    let r = reach_exists (network_at net x) flow proper in
    record {
      side = r.0;
      least = (smallest_of_greatest (network_at net x) flow r.0 proper best r.1).least;
      value_is = e ∙ value_of_greatest (network_at net x) flow r.0 proper best r.1;
    }

pub flow_sized : (net : Network) (unit p : ℤ) (frame : Digraph) (flow : List ℤ) → frame ≡ digraph_of net → IsBuilt net → IsInInterval net (of_units unit p) → IsBoundedFraction (of_units unit p) →
    IsGreatest (network_at net (of_units unit p)) flow → IsSized frame flow
flow_sized net unit p frame flow e b inside bounds best =
    let w = best.flow_is.within in
    let caps = wanted_bounded net unit p b inside bounds in
    let bounded : IsBounded (digraph_of net) flow = record {
      full = w.full;
      low = w.low;
      high = λ i low. let h = w.high i low in let m = caps.high i low in omega (arith, ints, h, m);
    } in
    rw e (sized_of_bounded (digraph_of net) flow bounded)

-- ---- the row

abbrev row_made : Fraction → ℤ → ℕ → Row
row_made at value count = record { at = at; value = value; size = count }

row_shape : (net : Network) (x at : Fraction) (value : ℤ) (cut : KeptCut) → IsBuilt net → IsSmallestLeast (network_at net x) cut.side.items → IsBoundedFraction at → IsLowest at → IsBoundedLine cut.line →
    value ≡ value_at cut.line at → cut.size ≡ size cut.side.items → IsRowShape (row_made at value cut.size)
row_shape net x at value cut b s bounds low line_bounds e f =
    let v = line_value cut.line at line_bounds bounds in
    let first = v.0 in
    let second = v.1 in
    let most = size-le-length cut.side.items in
    let full = s.least.cut.full in
    let few = b.limits.nodes in
    record {
      at = record { bounds = bounds; lowest = low };
      value = record { low = omega (arith, ints, e, first, second); high = omega (arith, ints, e, first, second) };
      size = omega (arith, f, most, full, few);
    }

pub row_right : (net : Network) (x at : Fraction) (value : ℤ) (cut : KeptCut) → IsBuilt net → IsInInterval net x → IsKept net x cut → IsSmallestLeast (network_at net x) cut.side.items → at ≡ lowest x →
    IsBoundedFraction at → IsBoundedLine cut.line → value ≡ value_at cut.line at → IsRightRow net (lowest x) (row_made at value cut.size)
row_right net x at value cut b inside k s is bounds line_bounds e =
    let side : List Bool = cut.side.items in
    let low = lowest_is x inside.parameter in
    let equal : IsEqual at x = subst (λ y. IsEqual y x) (sym is) low.equal in
    let here = smallest_at_equal net x at side inside.parameter bounds.parameter (omega (arith, ints, equal)) (omega (arith, ints, equal)) s in
    record {
      shape = row_shape net x at value cut b s bounds (subst IsLowest (sym is) low.lowest) line_bounds e k.size_is;
      parameter = is;
      value = record { side = side; least = here.least; value_is = e ∙ ap (λ l. value_at l at) k.line_is ∙ sym (capacity_of_line net at side) };
      size = record { side = side; least = here; count_is = k.size_is };
    }

-- ---- the number of nodes

size_after : (side : List Bool) (i : ℕ) → i < length side → size (take (suc i) side) ≡ size (take i side) + cond (get_or side i false) 1 0
size_after [] i low = absurd (omega (arith, low))
size_after (true ∷ side) zero low = refl
size_after (false ∷ side) zero low = refl
size_after (b ∷ side) (suc i) low = let rest = size_after side i (omega (arith, low)) in omega (arith, rest)

pub size_next : (side : List Bool) (i : ℕ) → i < length side → size (take (i + 1) side) ≡ size (take i side) + cond (get_or side i false) 1 0
size_next side i low = rw add-one (size_after side i low)

pub size_most : (side : List Bool) (i : ℕ) → size (take i side) ≤ i
size_most [] zero = omega arith
size_most [] (suc i) = omega arith
size_most (b ∷ side) zero = omega arith
size_most (true ∷ side) (suc i) = let rest = size_most side i in omega (arith, rest)
size_most (false ∷ side) (suc i) = let rest = size_most side i in omega (arith, rest)

pub size_whole : (side : List Bool) (i : ℕ) → length side ≤ i → size (take i side) ≡ size side
size_whole [] zero all = refl
size_whole [] (suc i) all = refl
size_whole (b ∷ side) zero all = absurd (omega (arith, all))
size_whole (b ∷ side) (suc i) all = let rest = size_whole side i (omega (arith, all)) in omega (arith, rest)
