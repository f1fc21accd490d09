-- What is known of the tables of the code.
use Rattle.std.specs.Prelude.{ℕ, ◌-◌, ◌*◌, ◌^◌, ◌<◌, ◌≤◌, List, length}
use Rattle.pf_model.specs.Digraph.{IsDigraph}
use Rattle.pf_trees.specs.declared.packing.Instance.{Instance}
use Rattle.pf_trees.specs.declared.packing.Packing.{Packing}
use Rattle.pf_trees.specs.declared.search.Room.{Room}
use Rattle.pf_trees.specs.declared.search.Hit.{Hit}
use Rattle.pf_trees.specs.Trees.{with_ends}
use Rattle.pf_trees.specs.Sides.{cut_at}
use Rattle.pf_trees.specs.State.{IsState, IsClosed}
use Rattle.pf_trees.specs.Search.{HasPlaces, HasWays, IsHit, IsMarking, IsStarted}

-- at least two vertices, and edges between them, not too many for the code's numbers
pub record IsInstance (instance : Instance) : Type 0 where
  pub two : 1 < instance.n
  pub graph : IsDigraph (with_ends instance.n instance.ends.now)
  pub few : length instance.ends.now < 2 ^ 32

-- the packing holds trees of the instance, and has a cut for each slot
pub record IsPacking (instance : Instance) (packing : Packing) : Type 0 where
  pub rows : length packing.slot.now * instance.n ≤ length packing.cuts.now
  pub state : IsState instance.n (instance.n - 1) instance.k instance.ends.now (cut_at packing.cuts.now instance.n) packing.slot.now packing.place.now

-- the tables of a search have a place for each of m edges
abbrev pub HasRoom : ℕ → Room → Type 0
HasRoom m room = HasPlaces m room.mark.now room.queue.now room.from.now room.level.now

-- as a search begins: the marked edges are in no slot, and as many are in the queue
pub record IsBegun (total : ℕ) (place : List ℕ) (room : Room) (put : ℕ) : Type 0 where
  pub places : HasRoom (length place) room
  pub marking : IsMarking (length place) room.mark.now room.queue.now put
  pub started : IsStarted total place room.mark.now room.level.now put

-- what a search leaves: the way back from each marked edge, and a marked edge that crosses the cut of a free slot; where there is none, all edges
-- are marked to which a way leads
pub record IsSearched (instance : Instance) (packing : Packing) (room : Room) (hit : Hit) : Type 0 where
  pub places : HasRoom (length instance.ends.now) room
  pub ways : HasWays instance.ends.now (cut_at packing.cuts.now instance.n) packing.place.now (length packing.slot.now) room.mark.now room.from.now room.level.now (length instance.ends.now)
  pub found : hit.slot < length packing.slot.now → IsHit instance.ends.now (cut_at packing.cuts.now instance.n) packing.slot.now room.mark.now hit.edge hit.slot
  pub closed : length packing.slot.now ≤ hit.slot → IsClosed (length packing.slot.now) instance.ends.now (cut_at packing.cuts.now instance.n) packing.slot.now packing.place.now room.mark.now
