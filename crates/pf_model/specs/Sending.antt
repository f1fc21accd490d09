-- Residual arcs with room for an amount.
use Rattle.std.specs.Prelude.{◌≡◌, ℕ, ℤ, ◌-ℤ◌, ◌≤ℤ◌, List}
use Rattle.pf_model.specs.Cut.{FlowNetwork, at_arc, tail_at, head_at}

-- arc i leads from u to w and has at least so much room, or it leads from w to u and carries at least so much
pub record HasRoom (g : FlowNetwork) (flow : List ℤ) (u w i : ℕ) (amount : ℤ) : Type 0 where
  pub from : tail_at g i ≡ u
  pub to : head_at g i ≡ w
  pub fits : amount ≤ℤ (at_arc g.capacities i -ℤ at_arc flow i)

pub record HasBack (g : FlowNetwork) (flow : List ℤ) (u w i : ℕ) (amount : ℤ) : Type 0 where
  pub from : head_at g i ≡ u
  pub to : tail_at g i ≡ w
  pub fits : amount ≤ℤ at_arc flow i
