-- Working room for the flows of one network.
use Rattle.std.specs.Prelude.{◌≡◌, ℤ, List, length}
use Rattle.pf_model.specs.Network.{Network}
use Rattle.pf_frame.specs.declared.scratch.Scratch.{Scratch}
use Rattle.pf_frame.specs.Scratch.{Serves}
use Rattle.pf_net.specs.Limits.{digraph_of}
use Rattle.pf_preflow.specs.Engine.{Engined, IsFor}

-- the engine is for the network's nodes and arcs, and sends from its source to its sink
pub record IsEngineOf (net : Network) (engine : Engined) : Type 0 where
  pub fits : IsFor engine (digraph_of net)
  pub source : engine.source ≡ net.source
  pub sink : engine.sink ≡ net.sink

-- an engine, a scratch, and two lists with a number for each arc
pub record IsFinder (net : Network) (engine : Engined) (scratch : Scratch) (caps flow : List ℤ) : Type 0 where
  pub engine_is : IsEngineOf net engine
  pub scratch_serves : Serves scratch net.nodes (length net.arcs)
  pub caps_full : length caps ≡ length net.arcs
  pub flow_full : length flow ≡ length net.arcs
