-- How many places a working room has.
use Rattle.std.specs.Prelude.{◌≡◌, ℕ, length}
use Rattle.pf_preflow.specs.declared.room.Room.{Room}

-- a place for each node
pub record Serves (room : Room) (nodes : ℕ) : Type 0 where
  pub excess : length room.excess.items ≡ nodes
  pub current_arcs : length room.current_arcs.items ≡ nodes
  pub distances : length room.distances.items ≡ nodes
  pub order : length room.order.items ≡ nodes
  pub queue : room.queue.nodes ≡ nodes
