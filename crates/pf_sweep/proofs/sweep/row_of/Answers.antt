use Rattle.std.proofs.Common.{◌≡◌, arith, to_z, of_z}
use Rattle.std.proofs.lemmas.Int.{ints}
use Rattle.pf_sweep.specs.Parameters.{fraction_of}
use Rattle.pf_sweep.proofs.Keeping.{row_right}
use Rattle.pf_sweep.proofs.sweep.row_of.Goals as goal
use mir.Syntax.{w128}

pub invariant_of-result : goal.invariant_of-result
invariant_of-result c =
    let told = c.in_lowest_terms-at.ensures in
    let r = row_right c.args.net.now (fraction_of c.args.at.now) c.in_lowest_terms-at.result.0 c.in_lowest_terms-at.result.1 c.args.cut.now c.frame.ensures.built c.requires.inside c.requires.kept
    c.requires.smallest told.at told.bounds told.line told.value in
    let low = r.shape.value.low in
    let high = r.shape.value.high in
    let back : to_z w128 (of_z w128 c.in_lowest_terms-at.result.1) ≡ c.in_lowest_terms-at.result.1 = omega (arith, ints, low, high) in
    rw back r.shape

pub returns : goal.returns
returns c =
    let told = c.in_lowest_terms-at.ensures in
    let r = row_right c.args.net.now (fraction_of c.args.at.now) c.in_lowest_terms-at.result.0 c.in_lowest_terms-at.result.1 c.args.cut.now c.frame.ensures.built c.requires.inside c.requires.kept
    c.requires.smallest told.at told.bounds told.line told.value in
    let low = r.shape.value.low in
    let high = r.shape.value.high in
    let back : to_z w128 (of_z w128 c.in_lowest_terms-at.result.1) ≡ c.in_lowest_terms-at.result.1 = omega (arith, ints, low, high) in
    rw back r
