use Rattle.std.proofs.Common.{subst, ◌∙◌}
use Rattle.pf_net.specs.Limits.{IsBuilt}
use Rattle.pf_dense.proofs.DensityLemmas.{answer_certified, charges_shape}
use Rattle.pf_dense.proofs.newton.solve.Goals as goal

pub returns-clause-certificate : goal.returns-clause-certificate
returns-clause-certificate c =
    let built = subst IsBuilt (c.net.ensures ∙ c.requires.network) c.frame.ensures.built in
    let s = c.settle-density.ensures in
    answer_certified c.args.graph.now c.settle-density.result c.settle-density.new.side c.settle-density.new.set c.settle-density.new.flow c.write_charges.new.charges
    c.vertices.ensures.limits built.monotone s.inside s.point s.outside s.best c.write_charges.ensures

pub returns-clause-each : goal.returns-clause-each
returns-clause-each c =
    let built = subst IsBuilt (c.net.ensures ∙ c.requires.network) c.frame.ensures.built in
    let s = c.settle-density.ensures in
    charges_shape c.args.graph.now c.settle-density.result c.write_charges.new.charges c.vertices.ensures.limits c.q.ensures.bounds
    (answer_certified c.args.graph.now c.settle-density.result c.settle-density.new.side c.settle-density.new.set c.settle-density.new.flow c.write_charges.new.charges
    c.vertices.ensures.limits built.monotone s.inside s.point s.outside s.best c.write_charges.ensures).charges_are
