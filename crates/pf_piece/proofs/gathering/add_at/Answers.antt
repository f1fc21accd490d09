use Rattle.std.proofs.Common.{ap, ◌∙◌}
use Rattle.pf_model.specs.Digraph.{Digraph, arcs_out, arcs_in}
use Rattle.pf_piece.specs.Held.{placed}
use Rattle.pf_piece.proofs.Gathered.{known_out, known_in}
use Rattle.pf_piece.proofs.Rows.{gathered_still, gathered_more}
use Rattle.pf_piece.proofs.gathering.add_at.Goals as goal

pub add_outs-requires-clause-known : goal.add_outs-requires-clause-known
add_outs-requires-clause-known c =
    known_out c.args.net.now c.args.v c.outs.result.now (c.outs.ensures ∙ ap (λ (g : Digraph). arcs_out g c.args.v) c.frame-frame.ensures.frame)

pub add_ins-requires-clause-known : goal.add_ins-requires-clause-known
add_ins-requires-clause-known c =
    known_in c.args.net.now c.args.v c.ins.result.now (c.ins.ensures ∙ ap (λ (g : Digraph). arcs_in g c.args.v) c.frame-frame.ensures.frame)

pub returns-then-places-v-lt2 : goal.returns-then-places-v-lt2
returns-then-places-v-lt2 c =
    gathered_still (placed c.args.places.now) c.args.v c.args.net.now.arcs c.args.arcs.now.items c.requires.before c.if-places-v-lt2.true

pub returns : goal.returns
returns c =
    gathered_more (placed c.args.places.now) c.args.net.now c.args.v c.outs.result.now c.ins.result.now c.args.arcs.now.items c.add_outs.new.arcs.items c.add_ins.new.arcs.items
    c.requires.before c.if-places-v-lt2.false (c.outs.ensures ∙ ap (λ (g : Digraph). arcs_out g c.args.v) c.frame-frame.ensures.frame)
    (c.ins.ensures ∙ ap (λ (g : Digraph). arcs_in g c.args.v) c.frame-frame.ensures.frame) c.in_ok-add_outs.ensures c.in_ok-add_ins.ensures
