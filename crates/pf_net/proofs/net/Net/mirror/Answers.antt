use Rattle.std.proofs.Common.{◌≡◌, ap, subst, sym, ◌∙◌, map, IfOk}
use Rattle.pf_model.specs.Network.{Network}
use Rattle.pf_model.specs.Mirror.{negative, other_sense, mirror_arc}
use Rattle.pf_net.specs.Limits.{IsBuilt}
use Rattle.pf_net.proofs.MirrorLemmas.{mirror_built, mirror_named}
use Rattle.pf_net.proofs.net.Net.mirror.Goals as goal

pub from_setting-requires : goal.from_setting-requires
from_setting-requires c =
    let arcs = ap (λ (net : Network). map mirror_arc net.arcs) c.self.view_is in
    let same = mirror_named c.args.self.now c.turned-sense.result c.nodes-nodes.result c.source.result c.sink.result c.negated-lo.result c.negated-hi.result c.in_ok-arcs.arcs.items
    (c.turned-sense.ensures ∙ ap other_sense c.sense.ensures) (c.nodes-nodes.ensures.value ∙ ap (λ g. g.nodes) c.frame-frame.ensures.frame) c.source.ensures c.sink.ensures
    (c.negated-lo.ensures ∙ ap negative c.hi.ensures) (c.negated-hi.ensures ∙ ap negative c.lo.ensures)
    (c.in_ok-arcs.ensures ∙ ap (map mirror_arc) c.as_slice.ensures.value ∙ arcs) in
    subst IsBuilt (sym same) (mirror_built c.args.self.now c.frame-frame.ensures.built)

pub returns : goal.returns
returns c =
    let arcs = ap (λ (net : Network). map mirror_arc net.arcs) c.self.view_is in
    let same = mirror_named c.args.self.now c.turned-sense.result c.nodes-nodes.result c.source.result c.sink.result c.negated-lo.result c.negated-hi.result c.in_ok-arcs.arcs.items
    (c.turned-sense.ensures ∙ ap other_sense c.sense.ensures) (c.nodes-nodes.ensures.value ∙ ap (λ g. g.nodes) c.frame-frame.ensures.frame) c.source.ensures c.sink.ensures
    (c.negated-lo.ensures ∙ ap negative c.hi.ensures) (c.negated-hi.ensures ∙ ap negative c.lo.ensures)
    (c.in_ok-arcs.ensures ∙ ap (map mirror_arc) c.as_slice.ensures.value ∙ arcs) in
    let P : Network → Type 0 = λ x. IfOk c.from_setting.result (λ net. net ≡ x) in
    subst P same c.from_setting.ensures
