use Rattle.pf_dense.proofs.DensityLemmas.{stepped}
use Rattle.pf_dense.proofs.newton.step.Goals as goal

pub density_of-requires : goal.density_of-requires
density_of-requires c =
    let g = c.args.graph.now in
    let n = c.requires.before in
    (stepped g c.args.at.now c.args.set.now _ c.write_point.new.side c.write_point.new.flow c.args.finder.now c.vertices.ensures.limits.graph c.requires.network
    c.write_point.ensures.point (c.write_outside.ensures g n.vertices.full) n).vertices

pub returns-clause-step : goal.returns-clause-step
returns-clause-step c =
    let g = c.args.graph.now in
    let n = c.requires.before in
    (stepped g c.args.at.now c.args.set.now _ c.write_point.new.side c.write_point.new.flow c.args.finder.now c.vertices.ensures.limits.graph c.requires.network
    c.write_point.ensures.point (c.write_outside.ensures g n.vertices.full) n).step

pub returns-clause-vertices : goal.returns-clause-vertices
returns-clause-vertices c =
    let g = c.args.graph.now in
    let n = c.requires.before in
    (stepped g c.args.at.now c.args.set.now _ c.write_point.new.side c.write_point.new.flow c.args.finder.now c.vertices.ensures.limits.graph c.requires.network
    c.write_point.ensures.point (c.write_outside.ensures g n.vertices.full) n).vertices
