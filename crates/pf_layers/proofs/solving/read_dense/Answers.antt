use Rattle.std.proofs.Common.{◌≡◌, ◌-◌, length, arith, ap, sym, ◌∙◌}
use Rattle.pf_dense.proofs.DensityLemmas.{written_whole}
use Rattle.pf_layers.proofs.Answering.{dense_answer}
use Rattle.pf_layers.proofs.solving.read_dense.Goals as goal

pub returns : goal.returns
returns c =
    let g = c.args.graph.now in
    let curve = c.args.curve.now in
    let whole = written_whole _ _ c.in_ok-layers.layers.len (c.number_vertices.auto.layers ∙ c.deref_mut.ensures.len) (sym c.deref_mut.ensures.len ∙ ap length c.deref_mut.ensures.value) in
    let got : c.from_vec.result ≡ c.number_vertices.new.layers = c.from_vec.ensures ∙ whole in
    let seen : c.deref.result.now ≡ c.number_vertices.new.layers = c.deref.ensures.value ∙ whole in
    let there = c.requires in
    let count = c.points.ensures.count in
    let shown = ap length c.points.ensures.points in
    dense_answer g curve.points curve.cuts c.in_ok-levels.levels c.add_rest.new.levels c.number_vertices.new.layers c.from_vec.result c.deref.result.now (length c.points.result.now - 1)
    c.new.result c.vertices-count.ensures.limits.graph there c.number_vertices.ensures c.in_ok-levels.ensures.count c.in_ok-levels.ensures.levels (omega (arith, count, shown))
    c.in_ok-add_rest.ensures.ended c.in_ok-add_rest.ensures.shape c.new.ensures got seen
