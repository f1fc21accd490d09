-- What a piece keeps.
use Rattle.std.specs.Prelude.{◌≡◌, ℕ, ◌<◌, pos, List, length, get_or, map}
use Rattle.pf_model.specs.declared.AffineArc.{AffineArc}
use Rattle.pf_model.specs.Digraph.{Digraph}
use Rattle.pf_net.specs.Limits.{IsBuilt, digraph_of}
use Rattle.pf_piece.specs.Piece.{Between, AreNested, place, renamed, arcs_between, piece_of}

-- the arc of a number
abbrev pub arc_at : List AffineArc → ℕ → AffineArc
arc_at arcs i = get_or arcs i (record { tail = 0; head = 0; a = pos 0; b = pos 0 })

-- at each node stands the node of the piece for it
pub record HasPlaces (part : Between) (places : List ℕ) : Type 0 where
  pub full : length places ≡ part.net.nodes
  pub each : (v : ℕ) → v < part.net.nodes → get_or places v 0 ≡ place part.small part.large v

-- the node that stands there
abbrev pub placed : List ℕ → ℕ → ℕ
placed places v = get_or places v 0

-- the numbers of those arcs that do not become loops, in their order
pub record AreKept (arcs : List AffineArc) (places kept : List ℕ) : Type 0 where
  pub known : (k : ℕ) → k < length kept → get_or kept k 0 < length arcs
  pub arcs_are : map (λ i. renamed (placed places) (arc_at arcs i)) kept ≡ arcs_between (placed places) arcs

-- the places, the numbers of the arcs, and the graph of the piece
pub record IsPiece (part : Between) (places kept : List ℕ) (frame : Digraph) : Type 0 where
  pub built : IsBuilt part.net
  pub nested : AreNested part.net part.small part.large
  pub places_are : HasPlaces part places
  pub known : (k : ℕ) → k < length kept → get_or kept k 0 < length part.net.arcs
  pub arcs_are : map (λ i. renamed (place part.small part.large) (arc_at part.net.arcs i)) kept ≡ (piece_of part).arcs
  pub frame_is : frame ≡ digraph_of (piece_of part)
