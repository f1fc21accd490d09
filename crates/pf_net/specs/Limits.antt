-- The limits within which a network's numbers stay.
use Rattle.std.specs.Prelude.{ℕ, ◌≤◌, ◌≤ℤ◌, ◌*ℤ◌, neg_ℤ, pos, List, length, All, map}
use Rattle.pf_model.specs.declared.AffineArc.{AffineArc}
use Rattle.pf_model.specs.declared.Sense.{Sense}
use Rattle.pf_model.specs.declared.Sense.TheVariants.{Rising, Falling}
use Rattle.pf_model.specs.Fraction.{Fraction}
use Rattle.pf_model.specs.Limits.{most_nodes, most_arcs, most_constant, most_slope, most_end}
use Rattle.pf_model.specs.Digraph.{Digraph}
use Rattle.pf_model.specs.Network.{Network, IsMonotone, ends_of}
use Rattle.pf_net.specs.declared.setting.Setting.{Setting}

pub record IsSmallArc (arc : AffineArc) : Type 0 where
  pub a_low : neg_ℤ (pos most_constant) ≤ℤ arc.a
  pub a_high : arc.a ≤ℤ pos most_constant
  pub b_low : neg_ℤ (pos most_slope) ≤ℤ arc.b
  pub b_high : arc.b ≤ℤ pos most_slope

-- a parameter whose size is that of an end of an interval
pub record IsNear (x : Fraction) : Type 0 where
  pub low : neg_ℤ (pos most_end *ℤ x.q) ≤ℤ x.p
  pub high : x.p ≤ℤ (pos most_end *ℤ x.q)

pub record IsWithinLimits (net : Network) : Type 0 where
  pub nodes : net.nodes ≤ most_nodes
  pub arcs : length net.arcs ≤ most_arcs
  pub each : All IsSmallArc net.arcs
  pub low : IsNear net.low
  pub high : IsNear net.high

-- the network of this sense and of these numbers
abbrev pub with_sense : Sense → ℕ → ℕ → ℕ → Fraction → Fraction → List AffineArc → Network
with_sense sense n s t low high arcs = record { nodes = n; source = s; sink = t; sense = sense; low = low; high = high; arcs = arcs }

-- the network of this setting and these arcs
abbrev pub with_arcs : Setting → List AffineArc → Network
with_arcs setting arcs = with_sense setting.sense setting.nodes setting.source setting.sink setting.low setting.high arcs

-- the rising network of these numbers, and the falling one
abbrev pub rising : ℕ → ℕ → ℕ → Fraction → Fraction → List AffineArc → Network
rising n s t low high arcs = record { nodes = n; source = s; sink = t; sense = Rising; low = low; high = high; arcs = arcs }

abbrev pub falling : ℕ → ℕ → ℕ → Fraction → Fraction → List AffineArc → Network
falling n s t low high arcs = record { nodes = n; source = s; sink = t; sense = Falling; low = low; high = high; arcs = arcs }

-- what holds of every network that is built
pub record IsBuilt (net : Network) : Type 0 where
  pub monotone : IsMonotone net
  pub limits : IsWithinLimits net

-- the nodes and arcs of a network, without its capacities
abbrev pub digraph_of : Network → Digraph
digraph_of net = record { nodes = net.nodes; ends = map ends_of net.arcs }
