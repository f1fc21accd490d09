use Rattle.std.proofs.Common.{suc, ◌-◌, length, arith, ap, sym, subst, add-one}
use Rattle.std.specs.Prelude.{pos}
use Rattle.pf_model.specs.Cut.{has}
use Rattle.pf_dense.proofs.DensityLemmas.{positive_of}
use Rattle.pf_dense.proofs.NetBuilt.{net_built}
use Rattle.pf_layers.specs.Reading.{IsNumbered, IsPut, outside_cut}
use Rattle.pf_layers.proofs.NumberedCuts.{vertices_begin, vertices_more}
use Rattle.pf_layers.proofs.numbering.number_vertices.Goals as goal

pub cuts-init : goal.cuts-init
cuts-init c =
    let g = c.args.graph.now in
    let limits = c.vertices.ensures.limits in
    vertices_begin g c.args.curve.now.points c.args.curve.now.cuts c.args.layers.now limits.graph (positive_of g limits) (net_built g limits).monotone c.requires.curve c.requires.ones

pub cuts-preserved : goal.cuts-preserved
cuts-preserved c =
    let g = c.args.graph.now in
    let cuts = c.args.curve.now.cuts in
    let count = c.points.ensures.count in
    let shown = ap length c.points.ensures.points in
    let less = c.cuts-test.true in
    let j = c.cuts.j in
    subst (IsNumbered g.nodes (outside_cut g cuts) c.put_held.new.layers) (sym (add-one j))
    (vertices_more g c.args.curve.now.points cuts c.cuts.layers c.put_held.new.layers c.cut.result.now j ((length c.points.result.now - 1) - 1 - j) c.requires.curve c.cuts.invariant
    (omega (arith, count, shown, less)) (omega (arith, count, shown, less)) c.cut.ensures
    (subst (λ n. IsPut (λ v. has c.cut.result.now (suc v)) (pos n) c.cuts.layers c.put_held.new.layers) (add-one j) c.put_held.ensures))
