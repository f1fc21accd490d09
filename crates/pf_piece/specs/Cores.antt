-- The core of a network between two nested cuts, with its arcs in any order.
use Rattle.std.specs.Prelude.{◌≡◌, ℕ, ◌<◌, ℤ, Bool, true, not, ◌&&◌, ◌||◌, ◌==◌, nat_lt, if◌then◌else◌, List, [], ◌∷◌, length, map, All}
use Rattle.pf_model.specs.declared.AffineArc.{AffineArc}
use Rattle.pf_model.specs.Cut.{sum_where}
use Rattle.pf_model.specs.Network.{Network, ends_of}
use Rattle.pf_net.specs.Limits.{IsBuilt}
use Rattle.pf_piece.specs.Piece.{Between, AreNested, renamed, core_of}
use Rattle.pf_piece.specs.Held.{HasPlaces, arc_at}

-- a number of each arc, by its coefficients
abbrev pub numbers_of : (ℤ → ℤ → ℤ) → List AffineArc → List ℤ
numbers_of n arcs = map (λ arc. n arc.a arc.b) arcs

-- a network with the core's nodes and setting, in which every sum over the arcs is the core's: its arcs are those of the core in some order
pub record IsCoreOf (part : Between) (core : Network) : Type 0 where
  pub nodes : core.nodes ≡ (core_of part).nodes
  pub source : core.source ≡ 0
  pub sink : core.sink ≡ 1
  pub low : core.low ≡ part.net.low
  pub high : core.high ≡ part.net.high
  pub sums : (test : ℕ × ℕ → Bool) (n : ℤ → ℤ → ℤ) → sum_where test (map ends_of core.arcs) (numbers_of n core.arcs)
      ≡ sum_where test (map ends_of (core_of part).arcs) (numbers_of n (core_of part).arcs)

-- between other nodes, those arcs that enter from 0 or 1
abbrev pub arcs_entering : (ℕ → ℕ) → List AffineArc → List AffineArc
arcs_entering f [] = []
arcs_entering f (arc ∷ arcs) = if nat_lt (f arc.tail) 2 then renamed f arc ∷ arcs_entering f arcs else arcs_entering f arcs

-- An arc that becomes no loop belongs to its tail if that stands beside 0 and 1, and else to its head if that does. Whether the arc belongs to a node
-- below v.
abbrev pub belongs_below : (ℕ → ℕ) → ℕ → ℕ × ℕ → Bool
belongs_below f v arc = not (f arc.0 == f arc.1) && (if nat_lt 1 (f arc.0) then nat_lt arc.0 v else (nat_lt 1 (f arc.1) && nat_lt arc.1 v))

-- an arc between other nodes, of which one is neither 0 nor 1
pub record IsInnerArc (f : ℕ → ℕ) (arcs : List AffineArc) (arc : AffineArc) : Type 0 where
  pub number : ℕ
  pub known : number < length arcs
  pub arc_is : arc ≡ renamed f (arc_at arcs number)
  pub inner : (nat_lt 1 arc.tail || nat_lt 1 arc.head) ≡ true

-- the arcs that belong to the nodes below v, between other nodes and in some order
pub record IsGathered (f : ℕ → ℕ) (v : ℕ) (arcs gathered : List AffineArc) : Type 0 where
  pub sums : (test : ℕ × ℕ → Bool) (n : ℤ → ℤ → ℤ) → sum_where test (map ends_of gathered) (numbers_of n gathered)
      ≡ sum_where (λ arc. belongs_below f v arc && test (f arc.0, f arc.1)) (map ends_of arcs) (numbers_of n arcs)
  pub each : All (IsInnerArc f arcs) gathered

-- what an opened core keeps
pub record IsCore (part : Between) (core : Network) (places : List ℕ) : Type 0 where
  pub built : IsBuilt part.net
  pub nested : AreNested part.net part.small part.large
  pub places_are : HasPlaces part places
  pub core_is : IsCoreOf part core
