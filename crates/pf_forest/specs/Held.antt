-- How the charges of the edges are shared among their ends, and what a search over them keeps.
use Rattle.std.specs.Prelude.{◌≡◌, ◌≢◌, ℕ, ◌<◌, ◌^◌, ℤ, ◌+ℤ◌, ◌-ℤ◌, ◌≤ℤ◌, ◌<ℤ◌, pos, ◌⊎◌, Bool, true, false, List, length, get_or}
use Rattle.pf_model.specs.Cut.{has, at_arc}
use Rattle.pf_model.specs.Flow.{sum_out, flow_value}
use Rattle.pf_model.specs.Digraph.{Digraph}
use Rattle.pf_forest.specs.declared.workspace.Workspace.{Workspace}

-- the two ends of edge i
abbrev pub tail_of : List (ℕ × ℕ) → ℕ → ℕ
tail_of ends i = (get_or ends i (0, 0)).0

abbrev pub head_of : List (ℕ × ℕ) → ℕ → ℕ
head_of ends i = (get_or ends i (0, 0)).1

-- what the vertex v holds: the head of an edge holds its number in heads, and the tail holds the rest of the charge
abbrev pub held : List (ℕ × ℕ) → List ℤ → List ℤ → ℕ → ℤ
held ends vector heads v = sum_out ends vector v -ℤ flow_value ends heads v

-- what each vertex holds and its room are the limit together
pub record IsHeld (g : Digraph) (limit : ℤ) (vector heads rooms : List ℤ) : Type 0 where
  pub vector_full : length vector ≡ length g.ends
  pub heads_full : length heads ≡ length g.ends
  pub rooms_full : length rooms ≡ g.nodes
  pub low : (i : ℕ) → i < length g.ends → pos 0 ≤ℤ at_arc heads i
  pub high : (i : ℕ) → i < length g.ends → at_arc heads i ≤ℤ at_arc vector i
  pub rooms_low : (v : ℕ) → v < g.nodes → pos 0 ≤ℤ at_arc rooms v
  pub sums : (v : ℕ) → v < g.nodes → held g.ends vector heads v +ℤ at_arc rooms v ≡ limit
  pub small : limit ≤ℤ pos (2 ^ 80)

-- the vertex that is skipped holds nothing, unless it is the root
pub record IsBare (rooms : List ℤ) (limit : ℤ) (root skip : ℕ) : Type 0 where
  pub bare : skip ≢ root → at_arc rooms skip ≡ limit

-- a vertex with room that is neither the root nor the one that is skipped
pub record IsHit (rooms : List ℤ) (root skip w : ℕ) : Type 0 where
  pub not_root : w ≢ root
  pub not_skip : w ≢ skip
  pub room : pos 0 <ℤ at_arc rooms w

pub record IsUnhit (rooms : List ℤ) (root skip w : ℕ) : Type 0 where
  pub full : w ≢ root → w ≢ skip → at_arc rooms w ≤ℤ pos 0

-- a holds a part of the charge of edge i, whose other end is b
pub record HoldsAtTail (ends : List (ℕ × ℕ)) (vector heads : List ℤ) (a b i : ℕ) : Type 0 where
  pub from : tail_of ends i ≡ a
  pub to : head_of ends i ≡ b
  pub part : at_arc heads i <ℤ at_arc vector i

pub record HoldsAtHead (ends : List (ℕ × ℕ)) (heads : List ℤ) (a b i : ℕ) : Type 0 where
  pub from : head_of ends i ≡ a
  pub to : tail_of ends i ≡ b
  pub part : pos 0 <ℤ at_arc heads i

-- the edge by which a search came to w, from a vertex that was marked before and holds a part of its charge
pub record HasParent (g : Digraph) (vector heads : List ℤ) (side : List Bool) (via rank : List ℕ) (w : ℕ) : Type 0 where
  pub before : ℕ
  pub marked : has side before ≡ true
  pub nearer : get_or rank before 0 < get_or rank w 0
  pub in_range : get_or via w 0 < length g.ends
  pub by : HoldsAtTail g.ends vector heads before w (get_or via w 0) ⊎ HoldsAtHead g.ends heads before w (get_or via w 0)

pub record IsTree (g : Digraph) (vector heads : List ℤ) (root : ℕ) (side : List Bool) (via rank : List ℕ) (put : ℕ) : Type 0 where
  pub parents : (w : ℕ) → has side w ≡ true → w ≢ root → HasParent g vector heads side via rank w
  pub ranks : (w : ℕ) → has side w ≡ true → get_or rank w 0 < put

-- no vertex of the side holds a part of the charge of an edge whose other end is not in it
pub record IsShut (ends : List (ℕ × ℕ)) (vector heads : List ℤ) (side : List Bool) : Type 0 where
  pub out : (i : ℕ) → i < length ends → has side (tail_of ends i) ≡ true → has side (head_of ends i) ≡ false → at_arc vector i ≤ℤ at_arc heads i
  pub into : (i : ℕ) → i < length ends → has side (head_of ends i) ≡ true → has side (tail_of ends i) ≡ false → at_arc heads i ≤ℤ pos 0

-- the places that a search needs
pub record HasTables (nodes : ℕ) (workspace : Workspace) : Type 0 where
  pub side_full : length workspace.side.items ≡ nodes
  pub queue_full : length workspace.queue.items ≡ nodes
  pub via_full : length workspace.via.items ≡ nodes
  pub rank_full : length workspace.rank.items ≡ nodes
  pub hits_full : length workspace.hits.items ≡ nodes
