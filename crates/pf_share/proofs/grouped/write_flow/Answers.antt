use Rattle.std.proofs.Common.{length, ap, sym, ◌∙◌}
use Rattle.pf_model.specs.Digraph.{Digraph}
use Rattle.pf_share.proofs.GroupRoom.{few_ends, ends_graph, caps_bounded, ends_full}
use Rattle.pf_share.proofs.grouped.write_flow.Goals as goal

pub from_ends-requires-clause-few_arcs : goal.from_ends-requires-clause-few_arcs
from_ends-requires-clause-few_arcs c =
    few_ends c.args.sharing.now c.args.answer.now c.nodes-source.ensures.limits c.requires.shape c.requires.some c.in_ok-ends.ends.items c.in_ok-ends.ensures

pub from_ends-requires-clause-graph : goal.from_ends-requires-clause-graph
from_ends-requires-clause-graph c =
    ends_graph c.args.sharing.now c.args.answer.now c.nodes-source.ensures.limits c.requires.shape c.requires.some c.nodes-source.result c.in_ok-ends.ends.items
    c.nodes-source.ensures.value c.in_ok-ends.ensures

pub greatest-requires-clause-caps : goal.greatest-requires-clause-caps
greatest-requires-clause-caps c =
    caps_bounded c.args.sharing.now c.args.answer.now c.nodes-source.ensures.limits c.requires.shape c.requires.some c.in_ok-frame.frame c.as_slice.result.now
    (ap (λ (g : Digraph). g.ends) c.in_ok-frame.ensures ∙ c.in_ok-ends.ensures) (c.as_slice.ensures.value ∙ c.in_ok-caps.ensures)

pub greatest-requires-clause-flow : goal.greatest-requires-clause-flow
greatest-requires-clause-flow c =
    c.requires.full ∙ sym (ap (λ (g : Digraph). length g.ends) c.in_ok-frame.ensures ∙ ap length c.in_ok-ends.ensures
    ∙ ends_full c.args.sharing.now c.args.answer.now c.nodes-source.ensures.limits c.requires.shape c.requires.some)
