-- The trees as they grow: what holds of slots, edges and cuts after each exchange.
use Rattle.std.specs.Prelude.{◌≡◌, ℕ, ◌+◌, ◌*◌, ◌<◌, ◌≤◌, Bool, false, true, ◌==◌, List, length}
use Rattle.pf_model.specs.Cut.{has}
use Rattle.pf_graph.specs.Labels.{label}
use Rattle.pf_trees.specs.Sides.{separates}
use Rattle.pf_trees.specs.Slots.{at, edge_at, IsPlaced}

-- the w slots of a tree from lo on, each with a pair of vertices and a cut that this pair alone of the tree crosses; a side that no pair crosses is
-- constant
pub record IsBasis (n lo w : ℕ) (pair : ℕ → ℕ × ℕ) (cut : ℕ → ℕ → Bool) : Type 0 where
  pub first : (s : ℕ) → lo ≤ s → s < lo + w → (pair s).0 < n
  pub second : (s : ℕ) → lo ≤ s → s < lo + w → (pair s).1 < n
  pub dual : (s t : ℕ) → lo ≤ s → s < lo + w → lo ≤ t → t < lo + w → separates (cut t) (pair s) ≡ (s == t)
  pub spans : (side : ℕ → Bool) → ((s : ℕ) → lo ≤ s → s < lo + w → separates side (pair s) ≡ false) →
      (u v : ℕ) → u < n → v < n → side u ≡ side v

-- k trees with w slots each; a slot with an edge has the ends of this edge as its pair
pub record IsState (n w k : ℕ) (ends : List (ℕ × ℕ)) (cut : ℕ → ℕ → Bool) (slot place : List ℕ) : Type 0 where
  pub pair : ℕ → ℕ × ℕ
  pub placed : IsPlaced (length ends) (k * w) slot place
  pub bases : (c : ℕ) → c < k → IsBasis n (c * w) w pair cut
  pub pairs : (s : ℕ) → s < k * w → at slot s < length ends → pair s ≡ edge_at ends (at slot s)

-- the edges that a search marked: those in no slot, and with each edge the edges of the slots whose cuts it crosses; none of these slots is free
pub record IsClosed (total : ℕ) (ends : List (ℕ × ℕ)) (cut : ℕ → ℕ → Bool) (slot place : List ℕ) (mark : List Bool) : Type 0 where
  pub roots : (x : ℕ) → x < length ends → has mark x ≡ false → at place x < total
  pub held : (x s : ℕ) → x < length ends → has mark x ≡ true → s < total → separates (cut s) (edge_at ends x) ≡ true → at slot s < length ends
  pub closed : (x s : ℕ) → x < length ends → has mark x ≡ true → s < total → separates (cut s) (edge_at ends x) ≡ true → has mark (at slot s) ≡ true

-- the partition that joins the ends of the marked edges and no more
pub record IsJoined (n : ℕ) (ends : List (ℕ × ℕ)) (mark : List Bool) (m : ℕ) (labels : List ℕ) : Type 0 where
  pub full : length labels ≡ n
  pub inner : (x : ℕ) → x < m → has mark x ≡ true → label labels (edge_at ends x).0 ≡ label labels (edge_at ends x).1
  pub finest : (other : List ℕ) → length other ≡ n →
      ((x : ℕ) → x < m → has mark x ≡ true → label other (edge_at ends x).0 ≡ label other (edge_at ends x).1) →
      (u v : ℕ) → u < n → v < n → label labels u ≡ label labels v → label other u ≡ label other v
