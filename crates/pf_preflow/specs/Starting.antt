-- How an engine starts: the arcs out of the source are filled, and the source alone has a label.
use Rattle.std.specs.Prelude.{ℕ, ℤ, pos, cond, List, set, replicate, ◌==◌}
use Rattle.pf_model.specs.Flow.{IsPreflow}
use Rattle.pf_model.specs.Residual.{HasValidLabels}
use Rattle.pf_preflow.specs.Engine.{AreLow}
use Rattle.pf_model.specs.Cut.{FlowNetwork, at_arc, tail_at, head_at}

-- what arc i carries where the engine starts with no flow
abbrev pub started : FlowNetwork → ℕ → ℤ
started g i = cond (tail_at g i == g.source) (at_arc g.capacities i) (pos 0)

-- and where it starts with a preflow: what comes back to the source is taken away
abbrev pub restarted : FlowNetwork → List ℤ → ℕ → ℤ
restarted g flow i = cond (head_at g i == g.source) (pos 0) (cond (tail_at g i == g.source) (at_arc g.capacities i) (at_arc flow i))

-- the number of nodes at the source, and 0 everywhere else
abbrev pub first_labels : ℕ → ℕ → List ℕ
first_labels nodes source = set (replicate nodes 0) source nodes

-- what the engine can go on from
pub record IsStarted (g : FlowNetwork) (after : List ℤ) (labels : List ℕ) : Type 0 where
  pub preflow : IsPreflow g after
  pub valid : HasValidLabels g after labels
  pub low : AreLow g.nodes labels
