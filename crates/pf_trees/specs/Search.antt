-- The marked edges of a search, the way back from each, and a chain of exchanges.
use Rattle.std.specs.Prelude.{◌≡◌, ℕ, ◌+◌, ◌<◌, ◌≤◌, Bool, false, true, List, length}
use Rattle.pf_model.specs.Cut.{has, size}
use Rattle.pf_trees.specs.Sides.{separates}
use Rattle.pf_trees.specs.Slots.{at, edge_at}

-- from a marked edge in a slot a search came by an edge nearer to its start, which crosses the cut of this slot
pub record IsBack (ends : List (ℕ × ℕ)) (cut : ℕ → ℕ → Bool) (place : List ℕ) (mark : List Bool) (from level : List ℕ) (x : ℕ) : Type 0 where
  pub marked : has mark (at from x) ≡ true
  pub nearer : at level (at from x) < at level x
  pub crossing : separates (cut (at place x)) (edge_at ends (at from x)) ≡ true

pub record HasWays (ends : List (ℕ × ℕ)) (cut : ℕ → ℕ → Bool) (place : List ℕ) (total : ℕ) (mark : List Bool) (from level : List ℕ) (put : ℕ) : Type 0 where
  pub back : (x : ℕ) → has mark x ≡ true → at place x < total → IsBack ends cut place mark from level x
  pub levels : (x : ℕ) → has mark x ≡ true → at level x < put

-- a marked edge that crosses the cut of a free slot
pub record IsHit (ends : List (ℕ × ℕ)) (cut : ℕ → ℕ → Bool) (slot : List ℕ) (mark : List Bool) (x t : ℕ) : Type 0 where
  pub marked : has mark x ≡ true
  pub free : at slot t ≡ length ends
  pub crossing : separates (cut t) (edge_at ends x) ≡ true

-- edges from place k to below len, each of which crosses the cut of the slot of the edge before it; the last is in no slot
pub record IsChain (ends : List (ℕ × ℕ)) (cut : ℕ → ℕ → Bool) (place : List ℕ) (total : ℕ) (chain : List ℕ) (k len : ℕ) : Type 0 where
  pub some : k < len
  pub room : len ≤ length chain
  pub edges : (i : ℕ) → k ≤ i → i < len → at chain i < length ends
  pub held : (i : ℕ) → k ≤ i → i + 1 < len → at place (at chain i) < total
  pub crossing : (i : ℕ) → k ≤ i → i + 1 < len → separates (cut (at place (at chain i))) (edge_at ends (at chain (i + 1))) ≡ true
  pub last : (i : ℕ) → i + 1 ≡ len → total ≤ at place (at chain i)

-- an edge that does not cross the cut of slot t crosses each cut as before
pub record KeepsOthers (n : ℕ) (old : ℕ → ℕ → Bool) (new : ℕ → ℕ → Bool) (t : ℕ) : Type 0 where
  pub kept : (r : ℕ) (edge : ℕ × ℕ) → edge.0 < n → edge.1 < n → separates (old t) edge ≡ false → separates (new r) edge ≡ separates (old r) edge

-- some edge crosses the cut of slot t, and none after it in the chain
pub record IsLast (ends : List (ℕ × ℕ)) (cut : ℕ → ℕ → Bool) (chain : List ℕ) (t k len i : ℕ) : Type 0 where
  pub low : k ≤ i
  pub high : i < len
  pub crossing : separates (cut t) (edge_at ends (at chain i)) ≡ true
  pub later : (j : ℕ) → i < j → j < len → separates (cut t) (edge_at ends (at chain j)) ≡ false

-- the edge stands in the queue
pub record IsQueued (queue : List ℕ) (put x : ℕ) : Type 0 where
  pub index : ℕ
  pub upto : index < put
  pub holds : at queue index ≡ x

-- as many edges are marked as were put in the queue, which holds each of them
pub record IsMarking (m : ℕ) (mark : List Bool) (queue : List ℕ) (put : ℕ) : Type 0 where
  pub full : length mark ≡ m
  pub places : length queue ≡ m
  pub count : put ≡ size mark
  pub queued : (i : ℕ) → i < put → has mark (at queue i) ≡ true
  pub waits : (x : ℕ) → has mark x ≡ true → IsQueued queue put x

-- the tables have a place for each edge
pub record HasPlaces (m : ℕ) (mark : List Bool) (queue from level : List ℕ) : Type 0 where
  pub mark_full : length mark ≡ m
  pub queue_full : length queue ≡ m
  pub from_full : length from ≡ m
  pub level_full : length level ≡ m

-- the edges marked so far are in no slot
pub record IsStarted (total : ℕ) (place : List ℕ) (mark : List Bool) (level : List ℕ) (put : ℕ) : Type 0 where
  pub only : (x : ℕ) → has mark x ≡ true → total ≤ at place x
  pub levels : (x : ℕ) → has mark x ≡ true → at level x < put

-- what is marked stays so
pub record IsKept (old new : List Bool) : Type 0 where
  pub kept : (x : ℕ) → has old x ≡ true → has new x ≡ true
