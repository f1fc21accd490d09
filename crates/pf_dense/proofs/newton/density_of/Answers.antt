use Rattle.std.proofs.Common.{◌≡◌, arith, to_z, of_z}
use Rattle.std.proofs.lemmas.Int.{ints}
use Rattle.pf_dense.specs.Densest.{weight_inside, cost_within}
use Rattle.pf_dense.proofs.DensityLemmas.{weighed, weighed_bounded, density_inside, density_holds}
use Rattle.pf_dense.proofs.newton.density_of.Goals as goal

pub new-requires : goal.new-requires
new-requires c =
    let g = c.args.graph.now in
    let w = weighed g c.args.set.now c.vertices.ensures.limits c.requires in
    let a = w.low in
    let b = w.high in
    let d = w.heavy in
    let e = w.light in
    let first : to_z mir.Syntax.w128 (of_z mir.Syntax.w128 c.inside-weight.result) ≡ weight_inside g c.args.set.now = omega (arith, ints, c.inside-weight.ensures, a, b) in
    let second : to_z mir.Syntax.w128 (of_z mir.Syntax.w128 c.cost_of-cost.result) ≡ cost_within g c.args.set.now = omega (arith, ints, c.cost_of-cost.ensures, d, e) in
    rw (first, second) (weighed_bounded g c.args.set.now w)

pub returns-clause-density : goal.returns-clause-density
returns-clause-density c =
    let g = c.args.graph.now in
    let w = weighed g c.args.set.now c.vertices.ensures.limits c.requires in
    let a = w.low in
    let b = w.high in
    let d = w.heavy in
    let e = w.light in
    let first : to_z mir.Syntax.w128 (of_z mir.Syntax.w128 c.inside-weight.result) ≡ weight_inside g c.args.set.now = omega (arith, ints, c.inside-weight.ensures, a, b) in
    let second : to_z mir.Syntax.w128 (of_z mir.Syntax.w128 c.cost_of-cost.result) ≡ cost_within g c.args.set.now = omega (arith, ints, c.cost_of-cost.ensures, d, e) in
    density_holds g c.args.set.now c.new.result (rw (first, second) at c.new.ensures.equal)

pub returns-clause-inside : goal.returns-clause-inside
returns-clause-inside c =
    let g = c.args.graph.now in
    let w = weighed g c.args.set.now c.vertices.ensures.limits c.requires in
    let a = w.low in
    let b = w.high in
    let d = w.heavy in
    let e = w.light in
    let first : to_z mir.Syntax.w128 (of_z mir.Syntax.w128 c.inside-weight.result) ≡ weight_inside g c.args.set.now = omega (arith, ints, c.inside-weight.ensures, a, b) in
    let second : to_z mir.Syntax.w128 (of_z mir.Syntax.w128 c.cost_of-cost.result) ≡ cost_within g c.args.set.now = omega (arith, ints, c.cost_of-cost.ensures, d, e) in
    density_inside g c.args.set.now c.new.result w c.new.ensures.bounds.parameter (rw (first, second) at c.new.ensures.equal)
