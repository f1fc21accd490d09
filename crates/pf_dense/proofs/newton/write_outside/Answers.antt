use Rattle.std.proofs.Common.{arith, ◌∙◌}
use Rattle.pf_dense.proofs.DensityLemmas.{outside_is}
use Rattle.pf_dense.proofs.newton.write_outside.Goals as goal

pub returns : goal.returns
returns c = λ g full.
    outside_is g c.args.side.now c.vertices.set (omega (arith, c.vertices.invariant.full, c.requires)) (c.vertices.invariant.full ∙ full)
    (λ u low. c.vertices.invariant.done u (omega (arith, low, c.vertices.invariant.full, c.vertices-test.false)))
