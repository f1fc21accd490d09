-- What holds of the cuts of a monotone network from one parameter to another.
use Rattle.std.specs.Prelude.{◌≡◌, ℕ, ◌≤ℤ◌, pos, Bool, ◌&&◌, ◌||◌, List}
use Rattle.pf_model.specs.declared.AffineArc.{AffineArc}
use Rattle.pf_model.specs.declared.Sense.TheVariants.{Rising, Falling}
use Rattle.pf_model.specs.Fraction.{Fraction, IsParameter, IsAtMost}
use Rattle.pf_model.specs.Line.{value_at}
use Rattle.pf_model.specs.Cut.{FlowNetwork, IsProper, IsLeast, IsSmallestLeast, IsContained, has, capacity, intersection, union}
use Rattle.pf_model.specs.Network.{Network, IsNetworkCut, IsMonotone, IsInInterval, network_at, capacity_at, cut_b, line_of}

-- the capacity of a side at a parameter, in its unit, is the value of the side's line
abbrev pub CapacityIsLine : Type 0
CapacityIsLine = (net : Network) (x : Fraction) (side : List Bool) → capacity (network_at net x) side ≡ value_at (line_of net side) x

-- a capacity that is not below 0 at two parameters is not below 0 between them
abbrev pub CapacityBetween : Type 0
CapacityBetween = (arc : AffineArc) (low x high : Fraction) → IsParameter low → IsParameter x → IsParameter high →
    IsAtMost low x → IsAtMost x high → pos 0 ≤ℤ capacity_at low arc → pos 0 ≤ℤ capacity_at high arc → pos 0 ≤ℤ capacity_at x arc

-- so the network is proper at each parameter of its interval
abbrev pub ProperInInterval : Type 0
ProperInInterval = (net : Network) (x : Fraction) → IsMonotone net → IsInInterval net x → IsProper (network_at net x)

-- a cut that is least at two parameters is least between them
abbrev pub LeastBetween : Type 0
LeastBetween = (net : Network) (low x high : Fraction) (side : List Bool) → IsParameter low → IsParameter x → IsParameter high →
    IsAtMost low x → IsAtMost x high → IsLeast (network_at net low) side → IsLeast (network_at net high) side →
    IsLeast (network_at net x) side

-- the intersection and the union of two sides
abbrev pub IntersectionHas : Type 0
IntersectionHas = (first second : List Bool) (v : ℕ) → has (intersection first second) v ≡ (has first v && has second v)

abbrev pub UnionHas : Type 0
UnionHas = (first second : List Bool) (v : ℕ) → has (union first second) v ≡ (has first v || has second v)

-- of two least cuts they are least
abbrev pub IntersectionIsLeast : Type 0
IntersectionIsLeast = (g : FlowNetwork) (first second : List Bool) → IsProper g → IsLeast g first → IsLeast g second →
    IsLeast g (intersection first second)

abbrev pub UnionIsLeast : Type 0
UnionIsLeast = (g : FlowNetwork) (first second : List Bool) → IsProper g → IsLeast g first → IsLeast g second →
    IsLeast g (union first second)

-- in a rising network the smallest least cut at a parameter is contained in each least cut at each greater one
abbrev pub RisingNests : Type 0
RisingNests = (net : Network) (x y : Fraction) (first second : List Bool) → IsMonotone net → net.sense ≡ Rising →
    IsInInterval net x → IsInInterval net y → IsAtMost x y →
    IsSmallestLeast (network_at net x) first → IsLeast (network_at net y) second → IsContained first second

-- in a falling network the smallest least cut at a parameter is contained in each least cut at each lower one
abbrev pub FallingNests : Type 0
FallingNests = (net : Network) (x y : Fraction) (first second : List Bool) → IsMonotone net → net.sense ≡ Falling →
    IsInInterval net x → IsInInterval net y → IsAtMost x y →
    IsLeast (network_at net x) first → IsSmallestLeast (network_at net y) second → IsContained second first

-- slopes of cuts fall with containment in a rising network, and rise with it in a falling one
abbrev pub RisingSlopes : Type 0
RisingSlopes = (net : Network) (first second : List Bool) → IsMonotone net → net.sense ≡ Rising →
    IsNetworkCut net first → IsNetworkCut net second → IsContained first second → cut_b net second ≤ℤ cut_b net first

abbrev pub FallingSlopes : Type 0
FallingSlopes = (net : Network) (first second : List Bool) → IsMonotone net → net.sense ≡ Falling →
    IsNetworkCut net first → IsNetworkCut net second → IsContained first second → cut_b net first ≤ℤ cut_b net second
