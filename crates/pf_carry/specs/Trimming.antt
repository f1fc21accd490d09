-- Numbers that are lowered until no node gives more than it gets.
use Rattle.std.specs.Prelude.{◌≡◌, ◌≢◌, ℕ, zero, suc, ◌+◌, ◌<◌, ◌≤◌, ℤ, ◌-ℤ◌, ◌≤ℤ◌, ◌<ℤ◌, pos, int_lt, if◌then◌else◌, List, length, set}
use Rattle.pf_model.specs.Cut.{at_arc}
use Rattle.pf_model.specs.Flow.{sum_in, sum_out, flow_value}
use Rattle.pf_model.specs.Digraph.{Digraph}
use Rattle.pf_frame.specs.Numbers.{IsBounded}

-- numbers within bounds, and beside each node what leaves it less what enters it
pub record IsSummed (g : Digraph) (flow sums : List ℤ) : Type 0 where
  pub bounded : IsBounded g flow
  pub room : g.nodes ≤ length sums
  pub is : (v : ℕ) → v < g.nodes → at_arc sums v ≡ flow_value g.ends flow v

-- the node gives more than it gets, and is neither the source nor the sink
pub record IsShortAt (s t : ℕ) (sums : List ℤ) (v : ℕ) : Type 0 where
  pub not_source : v ≢ s
  pub not_sink : v ≢ t
  pub more : pos 0 <ℤ at_arc sums v

-- no node does
pub record HasNoDeficit (g : Digraph) (s t : ℕ) (flow : List ℤ) : Type 0 where
  pub given : (v : ℕ) → v < g.nodes → v ≢ s → v ≢ t → sum_out g.ends flow v ≤ℤ sum_in g.ends flow v

-- no number has risen, and none has changed where no node gave more than it got
pub record IsLowered (g : Digraph) (s t : ℕ) (before after : List ℤ) : Type 0 where
  pub most : (i : ℕ) → at_arc after i ≤ℤ at_arc before i
  pub kept : HasNoDeficit g s t before → after ≡ before

-- the number of arc i lowered by an amount
abbrev pub less_at : List ℤ → ℕ → ℤ → List ℤ
less_at flow i amount = set flow i (at_arc flow i -ℤ amount)

-- how many of the first nodes give something
abbrev pub giving : Digraph → List ℤ → ℕ → ℕ
giving g flow zero = 0
giving g flow (suc k) = (if int_lt (pos 0) (sum_out g.ends flow k) then 1 else 0) + giving g flow k
