-- What contracts see of a sweep, and what it keeps.
use Rattle.std.specs.Prelude.{◌≡◌, ℕ, ◌+◌, ◌≤◌, ℤ, pos, ◌≤ℤ◌, List, length, get_or, map}
use Rattle.pf_model.specs.Fraction.{Fraction, IsAtMost, IsEqual}
use Rattle.pf_model.specs.Cut.{FlowNetwork, IsSmallestLeast, size}
use Rattle.pf_model.specs.Flow.{IsGreatest}
use Rattle.pf_model.specs.Residual.{HasValidLabels}
use Rattle.pf_model.specs.declared.Sense.TheVariants.{Rising}
use Rattle.pf_model.specs.Network.{Network, IsInInterval, network_at, capacity_at, line_of}
use Rattle.pf_frame.specs.declared.scratch.Scratch.{Scratch}
use Rattle.pf_frame.specs.Scratch.{Serves}
use Rattle.pf_net.specs.Limits.{IsBuilt, digraph_of}
use Rattle.pf_preflow.specs.Engine.{Engined, IsFor, AreLow}
use Rattle.pf_preflow.specs.Labels.{changed, rises}
use Rattle.pf_sweep.specs.declared.sweep.KeptCut.{KeptCut}
use Rattle.pf_sweep.specs.Parameters.{of_units, most_unit, HasNearEnds}

-- a network, the parameter at/unit, a number beside each arc, and a label beside each node
pub record Swept : Type 0 where
  pub net : Network
  pub unit : ℤ
  pub at : ℤ
  pub flow : List ℤ
  pub labels : List ℕ

-- its parameter
abbrev pub parameter_of : Swept → Fraction
parameter_of s = of_units s.unit s.at

-- the network there, with capacities in units of 1/unit
abbrev pub network_of_sweep : Swept → FlowNetwork
network_of_sweep s = network_at s.net (parameter_of s)

-- at a parameter of the interval a greatest flow, and labels that are valid for it, each at most 2 n - 2
pub record IsSettled (s : Swept) : Type 0 where
  pub inside : IsInInterval s.net (parameter_of s)
  pub greatest : IsGreatest (network_of_sweep s) s.flow
  pub valid : HasValidLabels (network_of_sweep s) s.flow s.labels
  pub low : AreLow s.net.nodes s.labels

-- a sweep as it is made: at the low end of the interval
pub record IsMade (net : Network) (unit : ℤ) (s : Swept) : Type 0 where
  pub net_is : s.net ≡ net
  pub unit_is : s.unit ≡ unit
  pub low_end : IsEqual (parameter_of s) net.low
  pub settled : IsSettled s

-- the labels after a step, and the counter: it rises by at least the number of nodes whose label changed, and by at most what the
-- labels rose by
pub record IsRaised (before after : Swept) (steps steps' : ℕ) : Type 0 where
  pub none_fell : (v : ℕ) → get_or before.labels v 0 ≤ get_or after.labels v 0
  pub at_least : changed before.labels after.labels + steps ≤ steps'
  pub at_most : steps' ≤ steps + rises before.labels after.labels

-- a step to the parameter p/unit
pub record IsAdvanced (before after : Swept) (p : ℤ) (steps steps' : ℕ) : Type 0 where
  pub net_is : after.net ≡ before.net
  pub unit_is : after.unit ≡ before.unit
  pub at_is : after.at ≡ p
  pub raised : IsRaised before after steps steps'
  pub settled : IsSettled after

-- the engine is for the network's nodes and arcs, and sends from its source to its sink
pub record IsEngineOf (net : Network) (engine : Engined) : Type 0 where
  pub fits : IsFor engine (digraph_of net)
  pub source : engine.source ≡ net.source
  pub sink : engine.sink ≡ net.sink

-- in a rising network, a cut that was the smallest least one at a parameter that is not above x, with its line and the number of its
-- nodes
pub record IsKept (net : Network) (x : Fraction) (cut : KeptCut) : Type 0 where
  pub rising : net.sense ≡ Rising
  pub from : Fraction
  pub inside : IsInInterval net from
  pub before : IsAtMost from x
  pub smallest : IsSmallestLeast (network_at net from) cut.side.items
  pub line_is : cut.line ≡ line_of net cut.side.items
  pub size_is : cut.size ≡ size cut.side.items

-- what a sweep keeps beside its flow and its labels: the engine, a scratch, the capacities at its parameter, a cut
pub record IsSweep (s : Swept) (engine : Engined) (scratch : Scratch) (caps : List ℤ) (cut : KeptCut) : Type 0 where
  pub built : IsBuilt s.net
  pub unit_low : pos 1 ≤ℤ s.unit
  pub unit_high : s.unit ≤ℤ pos most_unit
  pub ends : HasNearEnds s.net
  pub settled : IsSettled s
  pub labels_are : s.labels ≡ engine.labels
  pub engine_is : IsEngineOf s.net engine
  pub scratch_serves : Serves scratch s.net.nodes (length s.net.arcs)
  pub caps_are : caps ≡ map (capacity_at (parameter_of s)) s.net.arcs
  pub kept : IsKept s.net (parameter_of s) cut
