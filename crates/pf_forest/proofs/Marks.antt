-- The two passes that join groups.
use Rattle.std.proofs.Common.{◌≡◌, ℕ, ◌<◌, ◌≤◌, List, length, Bool, cond}
use Rattle.pf_model.specs.Cut.{has}
use Rattle.pf_graph.specs.Labels.{label}
use Rattle.pf_forest.specs.Filling.{touches}

-- the groups of the vertices of the side below v are marked
pub record IsMarkedTo (side : List Bool) (groups : List ℕ) (hits : List Bool) (v : ℕ) : Type 0 where
  pub full : length hits ≡ length groups
  pub marks : (a : ℕ) → a < length groups → has hits a ≡ touches side groups v a

-- the vertices below v have their new groups
pub record IsRenamedTo (old : List ℕ) (hits : List Bool) (to : ℕ) (now : List ℕ) (v : ℕ) : Type 0 where
  pub full : length now ≡ length old
  pub before : (w : ℕ) → w < v → w < length old → label now w ≡ cond (has hits (label old w)) to (label old w)
  pub after : (w : ℕ) → v ≤ w → label now w ≡ label old w
