-- The smallest least cut between two others, through the part of the network between them.
use Rattle.std.proofs.Common.{◌≡◌, List, Bool, arith, sym, subst}
use Rattle.std.specs.Prelude.{◌+ℤ◌, ◌*ℤ◌, pos}
use Rattle.std.proofs.lemmas.Int.{ints}
use Rattle.pf_model.specs.declared.Sense.TheVariants.{Rising}
use Rattle.pf_model.specs.Fraction.{Fraction, IsParameter, IsAtMost}
use Rattle.pf_model.specs.Line.{AffineLine}
use Rattle.pf_model.specs.Cut.{IsSmallestLeast, leaves, capacity}
use Rattle.pf_model.specs.Network.{Network, IsInInterval, IsNetworkCut, network_at}
use Rattle.pf_model.proofs.Certificate.{at_most_trans}
use Rattle.pf_net.specs.Limits.{IsBuilt}
use Rattle.pf_piece.specs.Piece.{Between, AreNested, IsLift, piece_of, core_of}
use Rattle.pf_piece.specs.Laws.{AreEndsAt}
use Rattle.pf_piece.specs.Cores.{IsCoreOf}
use Rattle.pf_piece.proofs.Smallest.{ends_are_nested, smallest_lifts, smallest_here, core_has_smallest}
use Rattle.pf_curve.specs.Cuts.{IsCutFound, IsServed}

abbrev pub whole : Network → List Bool → List Bool → Between
whole net small large = record { net = net; small = small; large = large }

-- the core has the network's interval
pub inside_core : (part : Between) (core : Network) (x : Fraction) → IsCoreOf part core → IsInInterval part.net x → IsInInterval core x
inside_core part core x c h =
    let P : Fraction → Type 0 = λ low. IsAtMost low x in
    let Q : Fraction → Type 0 = λ high. IsAtMost x high in
    record { parameter = h.parameter; low = subst P (sym c.low) h.low; high = subst Q (sym c.high) h.high }

-- whatever the order of its arcs, each cut has the same capacity
same_capacity : (part : Between) (core : Network) (x : Fraction) (side : List Bool) → IsCoreOf part core →
    capacity (network_at core x) side ≡ capacity (network_at (core_of part) x) side
same_capacity part core x side c = c.sums (leaves side) (λ a b. (a *ℤ x.q) +ℤ (b *ℤ x.p))

pub found_in : (part : Between) (core : Network) (x : Fraction) (side : List Bool) → IsCoreOf part core → IsSmallestLeast (network_at core x) side →
    IsSmallestLeast (network_at (piece_of part) x) side
found_in part core x side c s =
    core_has_smallest part x side
    (smallest_here (network_at (core_of part) x) (network_at core x) (pos 0) side
    (record {
      nodes = sym c.nodes;
      source = sym c.source;
      sink = sym c.sink;
      by = λ cut k. let same = same_capacity part core x cut c in omega (arith, ints, same);
    }) s)

pub cut_of : (net : Network) (x : Fraction) (side : List Bool) → IsSmallestLeast (network_at net x) side → IsNetworkCut net side
cut_of net x side s =
    let cut = s.least.cut in
    record { full = cut.full; with_source = cut.with_source; without_sink = cut.without_sink }

-- the lift of what was found in the piece
pub smallest_found : (part : Between) (net : Network) (x : Fraction) (side lifted : List Bool) → IsBuilt net → net ≡ part.net → part.net.sense ≡ Rising → AreEndsAt part x →
    IsSmallestLeast (network_at (piece_of part) x) side → IsLift part side lifted → IsSmallestLeast (network_at part.net x) lifted
smallest_found part net x side lifted b e rising ends s lift =
    let built = subst IsBuilt e b in
    smallest_lifts part x side lifted built.monotone (ends_are_nested part x built.monotone rising ends) ends s lift

pub nested_ends : (net : Network) (small large : List Bool) (x : Fraction) → IsBuilt net → net.sense ≡ Rising → AreEndsAt (whole net small large) x →
    AreNested net small large
nested_ends net small large x b rising ends = ends_are_nested (whole net small large) x b.monotone rising ends

-- two neighbours found at either side of a parameter
pub ends_between : (net : Network) (x left right l r : Fraction) (line line' : AffineLine) (small large : List Bool) → IsParameter x →
    IsServed net left → IsServed net right → IsCutFound net l line small → IsCutFound net r line' large → l ≡ left → r ≡ right →
    IsAtMost left x → IsAtMost x right → AreEndsAt (whole net small large) x
ends_between net x left right l r line line' small large p served served' found found' e f order order' =
    let P : Fraction → Type 0 = λ y. IsSmallestLeast (network_at net y) small in
    let Q : Fraction → Type 0 = λ y. IsSmallestLeast (network_at net y) large in
    record {
      left = left;
      right = right;
      left_inside = served.inside;
      right_inside = served'.inside;
      parameter = p;
      from_left = order;
      to_right = order';
      small_least = subst P e found.smallest;
      large_least = subst Q f found'.smallest;
    }

-- a parameter between two at which the cuts can be asked for lies in the interval
pub served_inside : (net : Network) (x left right : Fraction) → IsParameter x → IsServed net left → IsServed net right → IsAtMost left x → IsAtMost x right →
    IsInInterval net x
served_inside net x left right p served served' order order' = record {
  parameter = p;
  low = at_most_trans net.low left x served.low served.inside.parameter p served.inside.low order;
  high = at_most_trans x right net.high p served'.inside.parameter served'.high order' served'.inside.high;
}

pub ends_here : (net net' : Network) (x : Fraction) (small small' large large' : List Bool) → net' ≡ net → small' ≡ small → large' ≡ large →
    AreEndsAt (whole net small large) x → AreEndsAt (whole net' small' large') x
ends_here net net' x small small' large large' e f g h = rw (e, f, g) h
