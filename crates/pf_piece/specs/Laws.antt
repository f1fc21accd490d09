-- What a piece of a network tells of the network.
use Rattle.std.specs.Prelude.{◌≡◌, Bool, List}
use Rattle.pf_model.specs.declared.Sense.TheVariants.{Rising, Falling}
use Rattle.pf_model.specs.Fraction.{Fraction, IsParameter, IsAtMost}
use Rattle.pf_model.specs.Cut.{IsSmallestLeast, IsContained, capacity}
use Rattle.pf_model.specs.Network.{IsMonotone, IsInInterval, IsNetworkCut, network_at, line_of}
use Rattle.pf_net.specs.Limits.{IsBuilt}
use Rattle.pf_piece.specs.Piece.{Between, AreNested, IsLift, piece_of, core_of}

-- the capacity of a cut of the piece is that of its lift, and so is its line
abbrev pub CapacityLifts : Type 0
CapacityLifts = (part : Between) (x : Fraction) (side whole : List Bool) → AreNested part.net part.small part.large →
    IsNetworkCut (piece_of part) side → IsLift part side whole →
    capacity (network_at part.net x) whole ≡ capacity (network_at (piece_of part) x) side

abbrev pub LineLifts : Type 0
LineLifts = (part : Between) (side whole : List Bool) → AreNested part.net part.small part.large →
    IsNetworkCut (piece_of part) side → IsLift part side whole → line_of part.net whole ≡ line_of (piece_of part) side

-- the lift of a cut is a cut between the two sides
pub record IsCutBetween (part : Between) (whole : List Bool) : Type 0 where
  pub cut : IsNetworkCut part.net whole
  pub above : IsContained part.small whole
  pub below : IsContained whole part.large

abbrev pub LiftIsBetween : Type 0
LiftIsBetween = (part : Between) (side whole : List Bool) → AreNested part.net part.small part.large →
    IsNetworkCut (piece_of part) side → IsLift part side whole → IsCutBetween part whole

-- each cut between the two sides is the lift of one cut of the piece, and of no other
pub record IsLiftOfOne (part : Between) (whole : List Bool) : Type 0 where
  pub side : List Bool
  pub cut : IsNetworkCut (piece_of part) side
  pub lift : IsLift part side whole
  pub only : (other : List Bool) → IsNetworkCut (piece_of part) other → IsLift part other whole → other ≡ side

abbrev pub BetweenIsLift : Type 0
BetweenIsLift = (part : Between) (whole : List Bool) → AreNested part.net part.small part.large → IsCutBetween part whole → IsLiftOfOne part whole

-- the two sides are the smallest least cuts at two parameters, and x lies between these
pub record AreEndsAt (part : Between) (x : Fraction) : Type 0 where
  pub left : Fraction
  pub right : Fraction
  pub left_inside : IsInInterval part.net left
  pub right_inside : IsInInterval part.net right
  pub parameter : IsParameter x
  pub from_left : IsAtMost left x
  pub to_right : IsAtMost x right
  pub small_least : IsSmallestLeast (network_at part.net left) part.small
  pub large_least : IsSmallestLeast (network_at part.net right) part.large

-- in a rising network they are nested then
abbrev pub EndsAreNested : Type 0
EndsAreNested = (part : Between) (x : Fraction) → IsMonotone part.net → part.net.sense ≡ Rising → AreEndsAt part x →
    AreNested part.net part.small part.large

-- in a falling one they are nested only if they are equal
abbrev pub FallingEndsAreEqual : Type 0
FallingEndsAreEqual = (part : Between) (x : Fraction) → IsMonotone part.net → part.net.sense ≡ Falling → AreNested part.net part.small part.large →
    AreEndsAt part x → part.small ≡ part.large

-- where they are nested, the lift of the piece's smallest least cut at x is the network's
abbrev pub SmallestLifts : Type 0
SmallestLifts = (part : Between) (x : Fraction) (side whole : List Bool) → IsMonotone part.net → AreNested part.net part.small part.large → AreEndsAt part x →
    IsSmallestLeast (network_at (piece_of part) x) side → IsLift part side whole → IsSmallestLeast (network_at part.net x) whole

-- the arcs between the piece's source and its sink add the same to each cut, so the piece without them has the same smallest least cut
abbrev pub CoreHasSmallest : Type 0
CoreHasSmallest = (part : Between) (x : Fraction) (side : List Bool) → IsSmallestLeast (network_at (core_of part) x) side →
    IsSmallestLeast (network_at (piece_of part) x) side

-- and it is a monotone network within the limits
abbrev pub CoreIsBuilt : Type 0
CoreIsBuilt = (part : Between) → IsBuilt part.net → AreNested part.net part.small part.large → IsBuilt (core_of part)
