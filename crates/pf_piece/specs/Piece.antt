-- The part of a network between two nested cuts.
use Rattle.std.specs.Prelude.{◌≡◌, ℕ, zero, suc, ◌+◌, ◌<◌, Bool, not, ◌&&◌, ◌||◌, ◌==◌, nat_lt, if◌then◌else◌, List, [], ◌∷◌, length}
use Rattle.pf_model.specs.declared.AffineArc.{AffineArc}
use Rattle.pf_model.specs.Cut.{IsContained, has}
use Rattle.pf_model.specs.Network.{Network, IsNetworkCut}

-- a network and two sides of it
pub record Between : Type 0 where
  pub net : Network
  pub small : List Bool
  pub large : List Bool

-- both are cuts, and the small one is contained in the large one
pub record AreNested (net : Network) (small large : List Bool) : Type 0 where
  pub small_cut : IsNetworkCut net small
  pub large_cut : IsNetworkCut net large
  pub contained : IsContained small large

-- the node is in the large side and not in the small one
abbrev pub is_inner : List Bool → List Bool → ℕ → Bool
is_inner small large v = not (has small v) && has large v

-- how many such nodes have a smaller number
abbrev pub inner_before : List Bool → List Bool → ℕ → ℕ
inner_before small large zero = 0
inner_before small large (suc v) = inner_before small large v + (if is_inner small large v then 1 else 0)

-- the node of the piece that stands for a node: 0 for the small side, 1 for what is outside the large one, and the others from 2 on
abbrev pub place : List Bool → List Bool → ℕ → ℕ
place small large v = if has small v then 0 else (if has large v then inner_before small large v + 2 else 1)

-- an arc between other nodes
abbrev pub renamed : (ℕ → ℕ) → AffineArc → AffineArc
renamed f arc = record { tail = f arc.tail; head = f arc.head; a = arc.a; b = arc.b }

-- arcs between other nodes, without those that become loops
abbrev pub arcs_between : (ℕ → ℕ) → List AffineArc → List AffineArc
arcs_between f [] = []
arcs_between f (arc ∷ arcs) = if f arc.tail == f arc.head then arcs_between f arcs else renamed f arc ∷ arcs_between f arcs

-- The piece: its source stands for the small side, its sink for what is outside the large one. It need not be monotone, since an arc
-- from its source to its sink may have a slope.
abbrev pub piece_of : Between → Network
piece_of part = record {
  nodes = inner_before part.small part.large part.net.nodes + 2;
  source = 0;
  sink = 1;
  sense = part.net.sense;
  low = part.net.low;
  high = part.net.high;
  arcs = arcs_between (place part.small part.large) part.net.arcs;
}

-- the side of the network that stands for a side of the piece: a node is in it where the piece's node for it is in that
pub record IsLift (part : Between) (side whole : List Bool) : Type 0 where
  pub full : length whole ≡ part.net.nodes
  pub each : (v : ℕ) → v < part.net.nodes → has whole v ≡ has side (place part.small part.large v)

-- those arcs that have an end beside 0 and 1
abbrev pub with_inner_end : List AffineArc → List AffineArc
with_inner_end [] = []
with_inner_end (arc ∷ arcs) = if nat_lt 1 arc.tail || nat_lt 1 arc.head then arc ∷ with_inner_end arcs else with_inner_end arcs

-- the piece without the arcs between its source and its sink
abbrev pub core_of : Between → Network
core_of part = record {
  nodes = inner_before part.small part.large part.net.nodes + 2;
  source = 0;
  sink = 1;
  sense = part.net.sense;
  low = part.net.low;
  high = part.net.high;
  arcs = with_inner_end (arcs_between (place part.small part.large) part.net.arcs);
}
