use Rattle.std.proofs.Common.{◌≡◌, ℕ, false, replicate, length, arith, ap, ◌∙◌, take_at}
use Rattle.pf_model.specs.Digraph.{Digraph}
use Rattle.pf_rat.proofs.Products.{comes_back}
use Rattle.pf_curve.proofs.Contracting.{inside_core}
use Rattle.pf_curve.proofs.CoreLines.{piece_few, chosen_here}
use Rattle.pf_curve.proofs.between.find_in.Goals as goal

pub write_core-a-requires-clause-inside : goal.write_core-a-requires-clause-inside
write_core-a-requires-clause-inside c = inside_core c.args.core.now c.net-inner.result.now c.args.at.now c.net-inner.ensures c.requires

pub write_core-a-requires-clause-source : goal.write_core-a-requires-clause-source
write_core-a-requires-clause-source c = c.net-inner.ensures.source

pub write_core-a-requires-clause-sink : goal.write_core-a-requires-clause-sink
write_core-a-requires-clause-sink c = c.net-inner.ensures.sink

pub write_core-a-requires-clause-nodes : goal.write_core-a-requires-clause-nodes
write_core-a-requires-clause-nodes c = omega (arith, c.net-inner.ensures.nodes, piece_few c.args.core.now)

pub write_core-a-requires-clause-side : goal.write_core-a-requires-clause-side
write_core-a-requires-clause-side c =
    let e = ap (λ (g : Digraph). g.nodes) c.frame.ensures.frame in
    c.deref_mut.ensures.value ∙ c.in_ok-side.ensures.items_if_clones_equal (λ y e. e) ∙ ap (λ (n : ℕ). replicate n false) (c.nodes-nodes.ensures.value ∙ e)

pub returns : goal.returns
returns c =
    let r = c.write_core-a.result in
    let sized = c.write_core-a.ensures.sized in
    let back = comes_back r.0 sized.0 in
    let back' = comes_back r.1 sized.1 in
    let chosen = chosen_here c.args.core.now c.net-inner.result.now c.args.at.now c.write_core-a.new.side r.0 r.1 c.net-inner.ensures
    c.write_core-a.ensures.smallest c.write_core-a.ensures.a c.write_core-a.ensures.b in
    let full = c.write_core-a.ensures.smallest.least.cut.full in
    let e = ap (λ (g : Digraph). g.nodes) c.frame.ensures.frame in
    let long : length c.write_core-a.new.side ≡ c.in_ok-side.side.len = omega (arith, full, e, c.nodes-nodes.ensures.value, c.in_ok-side.ensures.len) in
    rw (take_at c.write_core-a.new.side _ c.in_ok-side.side.len long, back, back') chosen
