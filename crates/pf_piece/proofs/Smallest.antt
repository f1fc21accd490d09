-- The smallest least cut of a piece between two smallest least cuts is the network's.
use Rattle.std.proofs.Common.{◌≡◌, List, Bool, map, refl, arith, ap, sym, ◌∙◌, inl, inr, subst}
use Rattle.std.specs.Prelude.{ℤ, ◌+ℤ◌}
use Rattle.std.proofs.lemmas.Int.{ints}
use Rattle.pf_model.specs.declared.Sense.TheVariants.{Rising, Falling}
use Rattle.pf_model.specs.Fraction.{Fraction}
use Rattle.pf_model.specs.Cut.{FlowNetwork, IsCut, IsLeast, IsSmallestLeast, IsContained, sum_where, has, capacity}
use Rattle.pf_model.specs.Network.{Network, IsMonotone, IsInInterval, IsNetworkCut, network_at, capacity_at, ends_of}
use Rattle.pf_model.proofs.Affine.{nested, proper_at}
use Rattle.pf_model.proofs.Certificate.{at_most_trans, cut_at_point, least_between}
use Rattle.pf_model.proofs.Exists.{greatest_exists}
use Rattle.pf_model.proofs.Nesting.{nested_falling}
use Rattle.pf_model.proofs.Unique.{same_sides}
use Rattle.pf_model.proofs.Whole.{sense_cases}
use Rattle.pf_piece.specs.Piece.{Between, AreNested, IsLift, place, piece_of, core_of}
use Rattle.pf_piece.specs.Laws.{AreEndsAt, IsCutBetween}
use Rattle.pf_piece.proofs.Lifts.{across, capacity_lifts, core_lists, lift_each, lift_is_between}
use Rattle.pf_piece.proofs.Choice.{between_is_lift}

network_cut : (net : Network) (x : Fraction) (side : List Bool) → IsCut (network_at net x) side → IsNetworkCut net side
network_cut net x side c = record { full = c.full; with_source = c.with_source; without_sink = c.without_sink }

inside_at : (part : Between) (x : Fraction) → IsMonotone part.net → AreEndsAt part x → IsInInterval part.net x
inside_at part x m ends = record {
  parameter = ends.parameter;
  low = at_most_trans part.net.low ends.left x m.low ends.left_inside.parameter ends.parameter ends.left_inside.low ends.from_left;
  high = at_most_trans x ends.right part.net.high ends.parameter ends.right_inside.parameter m.high ends.to_right ends.right_inside.high;
}

pub ends_are_nested : (part : Between) (x : Fraction) → IsMonotone part.net → part.net.sense ≡ Rising → AreEndsAt part x →
    AreNested part.net part.small part.large
ends_are_nested part x m rising ends =
    let order = at_most_trans ends.left x ends.right ends.left_inside.parameter ends.parameter ends.right_inside.parameter ends.from_left ends.to_right in
    record {
      small_cut = network_cut part.net ends.left part.small ends.small_least.least.cut;
      large_cut = network_cut part.net ends.right part.large ends.large_least.least.cut;
      contained = nested part.net ends.left ends.right part.small part.large m rising ends.left_inside ends.right_inside order ends.small_least ends.large_least.least;
    }

-- in a falling network the cut at the greater parameter is contained in the other, so nested ones are equal
pub falling_ends_are_equal : (part : Between) (x : Fraction) → IsMonotone part.net → part.net.sense ≡ Falling → AreNested part.net part.small part.large →
    AreEndsAt part x → part.small ≡ part.large
falling_ends_are_equal part x m falling nests ends =
    let order = at_most_trans ends.left x ends.right ends.left_inside.parameter ends.parameter ends.right_inside.parameter ends.from_left ends.to_right in
    same_sides part.small part.large (nests.small_cut.full ∙ sym nests.large_cut.full) nests.contained
    (nested_falling part.net ends.left ends.right part.small part.large m falling ends.left_inside ends.right_inside order ends.small_least.least ends.large_least)

-- the smallest least cut at x lies between the two sides
between_rising : (part : Between) (x : Fraction) (side : List Bool) → IsMonotone part.net → part.net.sense ≡ Rising → AreEndsAt part x →
    IsSmallestLeast (network_at part.net x) side → IsCutBetween part side
between_rising part x side m rising ends best =
    let here = inside_at part x m ends in
    record {
      cut = network_cut part.net x side best.least.cut;
      above = nested part.net ends.left x part.small side m rising ends.left_inside here ends.from_left ends.small_least best.least;
      below = nested part.net x ends.right side part.large m rising here ends.right_inside ends.to_right best ends.large_least.least;
    }

-- in a falling network it is the one side that both are
between_falling : (part : Between) (x : Fraction) (side : List Bool) → IsMonotone part.net → part.net.sense ≡ Falling → AreNested part.net part.small part.large →
    AreEndsAt part x → IsSmallestLeast (network_at part.net x) side → IsCutBetween part side
between_falling part x side m falling nests ends best =
    let here = inside_at part x m ends in
    let same = falling_ends_are_equal part x m falling nests ends in
    let P : List Bool → Type 0 = λ cut. IsLeast (network_at part.net ends.left) cut in
    let large_least = least_between part.net ends.left x ends.right part.large ends.left_inside.parameter ends.parameter ends.right_inside.parameter ends.from_left ends.to_right
    (subst P same ends.small_least.least) ends.large_least.least in
    let above = nested_falling part.net x ends.right side part.large m falling here ends.right_inside ends.to_right best.least ends.large_least in
    record {
      cut = network_cut part.net x side best.least.cut;
      above = λ v e. above v (ap (λ cut. has cut v) (sym same) ∙ e);
      below = best.smallest part.large large_least;
    }

smallest_between : (part : Between) (x : Fraction) (side : List Bool) → IsMonotone part.net → AreNested part.net part.small part.large → AreEndsAt part x →
    IsSmallestLeast (network_at part.net x) side → IsCutBetween part side
smallest_between part x side m nests ends best = elim (sense_cases part.net.sense) [
  | inl rising ↦ between_rising part x side m rising ends best
  | inr falling ↦ between_falling part x side m falling nests ends best
]

pub smallest_lifts : (part : Between) (x : Fraction) (side whole : List Bool) → IsMonotone part.net → AreNested part.net part.small part.large → AreEndsAt part x →
    IsSmallestLeast (network_at (piece_of part) x) side → IsLift part side whole → IsSmallestLeast (network_at part.net x) whole
smallest_lifts part x side whole m nests ends s lift =
    let solved = greatest_exists (network_at part.net x) (proper_at part.net x m (inside_at part x m ends)) in
    let best = solved.smallest in
    let one = between_is_lift part solved.side nests (smallest_between part x solved.side m nests ends best) in
    let cut = network_cut (piece_of part) x side s.least.cut in
    let mine = capacity_lifts part x side whole nests cut lift in
    let theirs = capacity_lifts part x one.side solved.side nests one.cut one.lift in
    let whole_cut = cut_at_point part.net x whole (lift_is_between part side whole nests cut lift).cut in
    let less = best.least.least whole whole_cut in
    let one_least : IsLeast (network_at (piece_of part) x) one.side = record {
      cut = cut_at_point (piece_of part) x one.side one.cut;
      least = λ other o. let h = s.least.least other o in omega (arith, ints, h, mine, theirs, less);
    } in
    let smaller = s.smallest one.side one_least in
    let most = s.least.least one.side one_least.cut in
    let mine_each = lift_each part side whole nests cut lift in
    let theirs_each = lift_each part one.side solved.side nests one.cut one.lift in
    let contained : IsContained whole solved.side = λ v e.
    theirs_each v ∙ smaller (place part.small part.large v) (sym (mine_each v) ∙ e) in
    record {
      least = record {
        cut = whole_cut;
        least = λ other o. let h = best.least.least other o in omega (arith, ints, h, mine, theirs, most);
      };
      smallest = λ other o v e. best.smallest other o v (contained v e);
    }

-- two networks in which the capacities of each cut differ by one and the same number
pub record Differ (g h : FlowNetwork) (more : ℤ) : Type 0 where
  pub nodes : g.nodes ≡ h.nodes
  pub source : g.source ≡ h.source
  pub sink : g.sink ≡ h.sink
  pub by : (side : List Bool) → IsCut h side → capacity g side ≡ capacity h side +ℤ more

cut_there : (g h : FlowNetwork) (more : ℤ) (side : List Bool) → Differ g h more → IsCut g side → IsCut h side
cut_there g h more side d c = record {
  full = c.full ∙ d.nodes;
  with_source = ap (has side) (sym d.source) ∙ c.with_source;
  without_sink = ap (has side) (sym d.sink) ∙ c.without_sink;
}

cut_here : (g h : FlowNetwork) (more : ℤ) (side : List Bool) → Differ g h more → IsCut h side → IsCut g side
cut_here g h more side d c = record {
  full = c.full ∙ sym d.nodes;
  with_source = ap (has side) d.source ∙ c.with_source;
  without_sink = ap (has side) d.sink ∙ c.without_sink;
}

least_here : (g h : FlowNetwork) (more : ℤ) (side : List Bool) → Differ g h more → IsLeast h side → IsLeast g side
least_here g h more side d l = record {
  cut = cut_here g h more side d l.cut;
  least = λ other o.
      let there = cut_there g h more other d o in
      let most = l.least other there in
      let mine = d.by side l.cut in
      let theirs = d.by other there in
      omega (arith, ints, most, mine, theirs);
}

least_there : (g h : FlowNetwork) (more : ℤ) (side : List Bool) → Differ g h more → IsLeast g side → IsLeast h side
least_there g h more side d l = record {
  cut = cut_there g h more side d l.cut;
  least = λ other o.
      let most = l.least other (cut_here g h more other d o) in
      let mine = d.by side (cut_there g h more side d l.cut) in
      let theirs = d.by other o in
      omega (arith, ints, most, mine, theirs);
}

-- they have the same smallest least cut
pub smallest_here : (g h : FlowNetwork) (more : ℤ) (side : List Bool) → Differ g h more → IsSmallestLeast h side → IsSmallestLeast g side
smallest_here g h more side d s = record {
  least = least_here g h more side d s.least;
  smallest = λ other o. s.smallest other (least_there g h more other d o);
}

pub core_has_smallest : (part : Between) (x : Fraction) (side : List Bool) → IsSmallestLeast (network_at (core_of part) x) side →
    IsSmallestLeast (network_at (piece_of part) x) side
core_has_smallest part x side s =
    smallest_here (network_at (piece_of part) x) (network_at (core_of part) x)
    (sum_where across (map ends_of (piece_of part).arcs) (map (capacity_at x) (piece_of part).arcs)) side
    (record {
      nodes = refl;
      source = refl;
      sink = refl;
      by = λ cut c. core_lists cut (capacity_at x) c.with_source c.without_sink (piece_of part).arcs;
    }) s
