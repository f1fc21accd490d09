-- How a flow at one parameter is made a preflow at a greater one.
use Rattle.std.specs.Prelude.{◌≡◌, ℕ, ◌<◌, ◌⊎◌, Bool, cond, ◌&&◌, ◌==◌, nat_lt, ℤ, ◌≤ℤ◌, List, length, get_or, map, slice_index_or}
use Rattle.pf_model.specs.declared.Sense.TheVariants.{Rising}
use Rattle.pf_model.specs.Fraction.{IsBoundedFraction}
use Rattle.pf_model.specs.Cut.{at_arc}
use Rattle.pf_model.specs.Flow.{IsFlow}
use Rattle.pf_model.specs.Residual.{HasValidLabels}
use Rattle.pf_model.specs.Digraph.{Digraph}
use Rattle.pf_model.specs.Network.{Network, IsInInterval, network_at, capacity_at}
use Rattle.pf_carry.specs.Carry.{least_of}
use Rattle.pf_sweep.specs.Parameters.{of_units}

-- the capacity of each arc at p/unit, in units of 1/unit
abbrev pub caps_of : Network → ℤ → ℤ → List ℤ
caps_of net unit p = map (capacity_at (of_units unit p)) net.arcs

-- arc i leaves the source, and its head has a label below the number of nodes
abbrev pub is_filled : Digraph → List ℕ → ℕ → ℕ → Bool
is_filled g labels s i = ((slice_index_or g.ends i (0, 0)).0 == s) && nat_lt (get_or labels (slice_index_or g.ends i (0, 0)).1 0) g.nodes

-- such an arc is filled, each other one is cut to its capacity
abbrev pub fitted : Bool → ℤ → ℤ → ℤ
fitted filled cap x = cond filled cap (least_of cap x)

-- both numbers of arc i are those of the new parameter
pub record IsTouched (g : Digraph) (labels : List ℕ) (s : ℕ) (wanted flow caps' flow' : List ℤ) (i : ℕ) : Type 0 where
  pub room : at_arc caps' i ≡ at_arc wanted i
  pub load : at_arc flow' i ≡ fitted (is_filled g labels s i) (at_arc wanted i) (at_arc flow i)

-- both are as they were
pub record IsLeft (caps flow caps' flow' : List ℤ) (i : ℕ) : Type 0 where
  pub room : at_arc caps' i ≡ at_arc caps i
  pub load : at_arc flow' i ≡ at_arc flow i

-- each arc is one or the other, and those that pass are touched
pub record IsMoving (g : Digraph) (labels : List ℕ) (s : ℕ) (wanted caps flow caps' flow' : List ℤ) (done : ℕ → Type 0) : Type 0 where
  pub caps_full : length caps' ≡ length g.ends
  pub flow_full : length flow' ≡ length g.ends
  pub each : (i : ℕ) → i < length g.ends → IsTouched g labels s wanted flow caps' flow' i ⊎ IsLeft caps flow caps' flow' i
  pub touched : (i : ℕ) → i < length g.ends → done i → IsTouched g labels s wanted flow caps' flow' i

-- arc i leaves s, or enters t
abbrev pub IsAtEnds : Digraph → ℕ → ℕ → ℕ → Type 0
IsAtEnds g s t i = ((slice_index_or g.ends i (0, 0)).0 ≡ s) ⊎ ((slice_index_or g.ends i (0, 0)).1 ≡ t)

-- capacities and a flow at a parameter that is not above p/unit, and labels that are valid for it
pub record IsBefore (net : Network) (unit p : ℤ) (caps flow : List ℤ) (labels : List ℕ) : Type 0 where
  pub rising : net.sense ≡ Rising
  pub from : ℤ
  pub inside : IsInInterval net (of_units unit from)
  pub bounds : IsBoundedFraction (of_units unit from)
  pub later : from ≤ℤ p
  pub caps_are : caps ≡ caps_of net unit from
  pub flow_is : IsFlow (network_at net (of_units unit from)) flow
  pub valid : HasValidLabels (network_at net (of_units unit from)) flow labels
