use Rattle.std.proofs.Common.{◌≡◌, ◌≤◌, length, map, ap, ◌∙◌, List, ℕ}
use Rattle.std.proofs.lemmas.List.{length-map}
use Rattle.pf_model.specs.declared.AffineArc.{AffineArc}
use Rattle.pf_model.specs.declared.Sense.{Sense}
use Rattle.pf_model.specs.Fraction.{Fraction}
use Rattle.pf_model.specs.Digraph.{Digraph, IsDigraph}
use Rattle.pf_model.specs.Network.{Network, ends_of}
use Rattle.pf_net.specs.Limits.{IsBuilt, digraph_of, with_sense}
use Rattle.pf_net.proofs.Built.{graph_is}
use Rattle.pf_net.proofs.net.Net.from_setting.Goals as goal

few_ends : (ends : List (ℕ × ℕ)) (net : Network) → IsBuilt net → ends ≡ map ends_of net.arcs → length ends ≤ 32768
few_ends ends net b e = rw (e, length-map net.arcs ends_of) b.limits.arcs

graph_here : (ends : List (ℕ × ℕ)) (net : Network) → IsBuilt net → ends ≡ map ends_of net.arcs → IsDigraph (record { nodes = net.nodes; ends = ends })
graph_here ends net b e = rw e (graph_is net b.monotone)

whole : (frame : Digraph) (ends : List (ℕ × ℕ)) (sense : Sense) (n s t : ℕ) (lo hi : Fraction) (arcs : List AffineArc) → IsBuilt (with_sense sense n s t lo hi arcs) →
    ends ≡ map ends_of arcs → frame ≡ record { nodes = n; ends = ends } →
    IsBuilt (with_sense sense frame.nodes s t lo hi arcs) × (frame ≡ digraph_of (with_sense sense frame.nodes s t lo hi arcs))
whole frame ends sense n s t lo hi arcs b e f = rw f (b, ap (λ (x : List (ℕ × ℕ)). record { nodes = n; ends = x }) e)

pub from_ends-requires-clause-few_arcs : goal.from_ends-requires-clause-few_arcs
from_ends-requires-clause-few_arcs c =
    few_ends c.in_ok-ends.ends.items _ c.requires (c.in_ok-ends.ensures ∙ ap (map ends_of) c.as_slice.ensures.value)

pub from_ends-requires-clause-graph : goal.from_ends-requires-clause-graph
from_ends-requires-clause-graph c =
    graph_here c.in_ok-ends.ends.items _ c.requires (c.in_ok-ends.ensures ∙ ap (map ends_of) c.as_slice.ensures.value)

pub invariant_of-result : goal.invariant_of-result
invariant_of-result c =
    let setting = c.args.setting in
    whole c.in_ok-frame.frame c.in_ok-ends.ends.items setting.sense setting.nodes setting.source setting.sink setting.low setting.high c.args.arcs.items c.requires
    (c.in_ok-ends.ensures ∙ ap (map ends_of) c.as_slice.ensures.value) c.in_ok-frame.ensures
