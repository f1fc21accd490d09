-- The cuts of a network and their lines.
use Rattle.std.specs.Prelude.{◌≡◌, ℕ, ℤ, ◌+ℤ◌, List, Bool, true, false, set, replicate}
use Rattle.pf_model.specs.declared.Sense.TheVariants.{Rising}
use Rattle.pf_model.specs.Fraction.{Fraction, IsParameter}
use Rattle.pf_model.specs.Line.{AffineLine}
use Rattle.pf_model.specs.Cut.{IsSmallestLeast}
use Rattle.pf_model.specs.Network.{Network, IsInInterval, IsNetworkCut, network_at, line_of, cut_a, cut_b}
use Rattle.pf_piece.specs.Piece.{Between, piece_of}

-- the smallest least cut at a parameter of the interval, with its line
pub record IsCutFound (net : Network) (x : Fraction) (line : AffineLine) (side : List Bool) : Type 0 where
  pub inside : IsInInterval net x
  pub smallest : IsSmallestLeast (network_at net x) side
  pub line_is : line ≡ line_of net side

-- the line of a cut, whichever
pub record IsLineOfCut (net : Network) (line : AffineLine) : Type 0 where
  pub side : List Bool
  pub cut : IsNetworkCut net side
  pub line_is : line ≡ line_of net side

-- a parameter of the interval of a rising network, whose ends are parameters
pub record IsServed (net : Network) (x : Fraction) : Type 0 where
  pub rising : net.sense ≡ Rising
  pub inside : IsInInterval net x
  pub low : IsParameter net.low
  pub high : IsParameter net.high

-- the side of the source of a piece alone, which lifts to the small side
abbrev pub source_alone : ℕ → List Bool
source_alone nodes = set (replicate nodes false) 0 true

-- the smallest least cut of a piece, and by how much its line differs from that of the small side
pub record IsChosen (part : Between) (x : Fraction) (side : List Bool) (a b : ℤ) : Type 0 where
  pub smallest : IsSmallestLeast (network_at (piece_of part) x) side
  pub a_is : cut_a (piece_of part) side ≡ cut_a (piece_of part) (source_alone (piece_of part).nodes) +ℤ a
  pub b_is : cut_b (piece_of part) side ≡ cut_b (piece_of part) (source_alone (piece_of part).nodes) +ℤ b
