-- Labels that are raised to others.
use Rattle.std.specs.Prelude.{◌≡◌, ◌≢◌, ℕ, ◌+◌, ◌-◌, ◌*◌, ◌<◌, ◌≤◌, min, ℤ, List, length, get_or, ◌⊎◌}
use Rattle.pf_model.specs.Cut.{FlowNetwork}
use Rattle.pf_model.specs.Flow.{IsWithin}
use Rattle.pf_preflow.specs.Engine.{AreLow}
use Rattle.pf_preflow.specs.Labels.{HasCounted}
use Rattle.pf_preflow.specs.State.{IsSmall, IsState, work}

-- the greater of two numbers
pub record IsMax (a b c : ℕ) : Type 0 where
  pub first : a ≤ c
  pub second : b ≤ c
  pub either : (c ≡ a) ⊎ (c ≡ b)

-- below an index the labels are the greater of the earlier ones and the others, from it on they are the earlier ones
pub record AreRaised (labels other now : List ℕ) (i steps steps' : ℕ) : Type 0 where
  pub full : length now ≡ length labels
  pub below : (v : ℕ) → v < i → IsMax (get_or labels v 0) (get_or other v 0) (get_or now v 0)
  pub behind : (v : ℕ) → i ≤ v → get_or now v 0 ≡ get_or labels v 0
  pub counted : (start : List ℕ) (before : ℕ) → HasCounted start labels before steps → HasCounted start now before steps'
  pub less : (g : FlowNetwork) (flow : List ℤ) → IsSmall g → IsWithin g flow → AreLow g.nodes labels → AreLow g.nodes other → length labels ≡ g.nodes →
      (AreLow g.nodes now) × (work g flow now ≤ work g flow labels)

-- a label above a gap and below the number of nodes becomes one more than this number, or the greatest label where that is less;
-- each other one stays
pub record IsOverGap (nodes gap before after : ℕ) : Type 0 where
  pub off : before ≢ gap
  pub up : gap < before → before < nodes → after ≡ min (nodes + 1) (2 * nodes - 2)
  pub below : before ≤ gap → after ≡ before
  pub above : nodes ≤ before → after ≡ before

-- the first labels are so raised
pub record AreOverGap (nodes gap : ℕ) (labels other : List ℕ) (count : ℕ) : Type 0 where
  pub full : length other ≡ nodes
  pub low : AreLow nodes other
  pub each : (v : ℕ) → v < count → IsOverGap nodes gap (get_or labels v 0) (get_or other v 0)

-- distances so far, and the nodes in the order in which they were visited
pub record HasVisited (nodes : ℕ) (distances order : List ℕ) (put : ℕ) : Type 0 where
  pub low : AreLow nodes distances
  pub full : length distances ≡ nodes
  pub known : (k : ℕ) → get_or order k 0 < nodes
  pub most : put ≤ length order

-- what relabelling keeps
pub record KeepsState (g : FlowNetwork) (flow : List ℤ) (labels after : List ℕ) (excess : List ℤ) (steps steps' : ℕ) : Type 0 where
  pub state : IsState g flow after excess
  pub less : work g flow after ≤ work g flow labels
  pub counted : (start : List ℕ) (before : ℕ) → HasCounted start labels before steps → HasCounted start after before steps'
