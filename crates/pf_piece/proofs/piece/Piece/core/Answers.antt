use Rattle.std.proofs.Common.{◌≡◌, ap, subst, ◌∙◌, IfOk}
use Rattle.pf_model.specs.Network.{Network}
use Rattle.pf_net.specs.Limits.{IsBuilt}
use Rattle.pf_piece.specs.Piece.{Between, AreNested}
use Rattle.pf_piece.proofs.Opened.{core_named, core_built}
use Rattle.pf_piece.proofs.piece.Piece.core.Goals as goal

pub from_setting-requires : goal.from_setting-requires
from_setting-requires c =
    let P : Between → Type 0 = λ p. IsBuilt p.net × AreNested p.net p.small p.large in
    let known = subst P c.self.view_is (c.self.invariant.built, c.self.invariant.nested) in
    core_built c.args.self.now c.sense.result c.node_count-nodes.result c.lo.result.now c.hi.result.now c.in_ok-arcs.arcs.items known.0 known.1
    (c.sense.ensures ∙ ap (λ (p : Between). p.net.sense) c.self.view_is) c.node_count-nodes.ensures
    (c.lo.ensures ∙ ap (λ (p : Between). p.net.low) c.self.view_is) (c.hi.ensures ∙ ap (λ (p : Between). p.net.high) c.self.view_is) c.in_ok-arcs.ensures

pub returns : goal.returns
returns c =
    let same = core_named c.args.self.now c.sense.result c.node_count-nodes.result c.lo.result.now c.hi.result.now c.in_ok-arcs.arcs.items
    (c.sense.ensures ∙ ap (λ (p : Between). p.net.sense) c.self.view_is) c.node_count-nodes.ensures
    (c.lo.ensures ∙ ap (λ (p : Between). p.net.low) c.self.view_is) (c.hi.ensures ∙ ap (λ (p : Between). p.net.high) c.self.view_is) c.in_ok-arcs.ensures in
    let Q : Network → Type 0 = λ x. IfOk c.from_setting.result (λ net. net ≡ x) in
    subst Q same c.from_setting.ensures
