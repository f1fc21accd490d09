-- What a search keeps of the nodes that it marks: a tree of residual arcs from the source.
use Rattle.std.specs.Prelude.{◌≡◌, ◌≢◌, ℕ, ◌+◌, ◌<◌, ◌^◌, ℤ, ◌≤ℤ◌, ◌<ℤ◌, pos, ◌⊎◌, Bool, true, List, length, get_or}
use Rattle.pf_model.specs.Cut.{FlowNetwork, has, at_arc}
use Rattle.pf_model.specs.Sending.{HasRoom, HasBack}

-- the arc by which a search came to w, from a marked node that is one level nearer to the source and has at least as much room
pub record HasParent (g : FlowNetwork) (flow : List ℤ) (side : List Bool) (parent : List ℕ) (room : List ℤ) (level : List ℕ) (w : ℕ) : Type 0 where
  pub before : ℕ
  pub marked : has side before ≡ true
  pub deeper : get_or level w 0 ≡ get_or level before 0 + 1
  pub narrower : at_arc room w ≤ℤ at_arc room before
  pub in_range : get_or parent w 0 < length g.ends
  pub by : HasRoom g flow before w (get_or parent w 0) (at_arc room w) ⊎ HasBack g flow before w (get_or parent w 0) (at_arc room w)

pub record IsTree (g : FlowNetwork) (flow : List ℤ) (side : List Bool) (parent : List ℕ) (room : List ℤ) (level : List ℕ) (put : ℕ) : Type 0 where
  pub parents : (w : ℕ) → has side w ≡ true → w ≢ g.source → HasParent g flow side parent room level w
  pub low : (w : ℕ) → has side w ≡ true → pos 0 <ℤ at_arc room w
  pub high : (w : ℕ) → has side w ≡ true → at_arc room w ≤ℤ pos (2 ^ 104)
  pub levels : (w : ℕ) → has side w ≡ true → get_or level w 0 < put

-- the tables have a place for each node
pub record HasPlaces (parent : List ℕ) (room : List ℤ) (level : List ℕ) (n : ℕ) : Type 0 where
  pub parent_full : length parent ≡ n
  pub room_full : length room ≡ n
  pub level_full : length level ≡ n
