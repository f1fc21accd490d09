-- Residual arcs along which a node can push.
use Rattle.std.specs.Prelude.{◌≡◌, ◌≢◌, ℕ, ◌+◌, ◌<◌, ◌≤◌, ℤ, ◌-ℤ◌, Bool, true, false, if◌then◌else◌, List, length, get_or}
use Rattle.pf_model.specs.Cut.{FlowNetwork, at_arc}
use Rattle.pf_model.specs.Digraph.{Digraph}
use Rattle.pf_model.specs.Residual.{IsOpen, IsReturn, IsResidual}
use Rattle.pf_preflow.specs.declared.residual.ResidualArc.{ResidualArc}
use Rattle.pf_preflow.specs.declared.residual.Lowest.{Lowest}

-- the node to which arc i leads, forward or back
abbrev pub far_end : Digraph → ℕ → Bool → ℕ
far_end g i back = if back then (get_or g.ends i (0, 0)).0 else (get_or g.ends i (0, 0)).1

-- how much can be pushed along it
abbrev pub residual_capacity : List ℤ → List ℤ → ℕ → Bool → ℤ
residual_capacity caps flow i back = if back then at_arc flow i else at_arc caps i -ℤ at_arc flow i

-- arc i is a residual arc from v to w, forward or back
pub record IsResidualArc (g : FlowNetwork) (flow : List ℤ) (v w i : ℕ) (back : Bool) : Type 0 where
  pub in_range : i < length g.ends
  pub forward : back ≡ false → IsOpen g flow v w i
  pub backward : back ≡ true → IsReturn g flow v w i

-- the residual arc leaves v
pub record IsResidualFrom (g : FlowNetwork) (flow : List ℤ) (v : ℕ) (along : ResidualArc) : Type 0 where
  pub node : along.to < g.nodes
  pub residual : IsResidualArc g flow v along.to along.arc along.back

-- and leads to a node that is one label below
pub record IsAdmissible (g : FlowNetwork) (flow : List ℤ) (labels : List ℕ) (v : ℕ) (along : ResidualArc) : Type 0 where
  pub from : IsResidualFrom g flow v along
  pub down : get_or labels v 0 ≡ get_or labels along.to 0 + 1

-- a residual arc to another node, whose label is kept beside it
pub record IsLowest (g : FlowNetwork) (flow : List ℤ) (labels : List ℕ) (v : ℕ) (lowest : Lowest) : Type 0 where
  pub from : IsResidualFrom g flow v lowest.along
  pub other : lowest.along.to ≢ v
  pub is : get_or labels lowest.along.to 0 ≡ lowest.label

-- no residual arc of v in one direction leads to another node with a lower label
pub record HasNoneLower (g : FlowNetwork) (flow : List ℤ) (labels : List ℕ) (v : ℕ) (back : Bool) (label : ℕ) : Type 0 where
  pub each : (w i : ℕ) → w ≢ v → IsResidualArc g flow v w i back → label ≤ get_or labels w 0

-- no other node that v can push to has a lower label
pub record IsLeast (g : FlowNetwork) (flow : List ℤ) (labels : List ℕ) (v least : ℕ) : Type 0 where
  pub none_lower : (w : ℕ) → w ≢ v → IsResidual g flow v w → least ≤ get_or labels w 0
