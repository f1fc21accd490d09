use Rattle.std.proofs.Common.{◌≡◌, arith, to_z, of_z}
use Rattle.std.specs.Prelude.{pos}
use Rattle.std.proofs.lemmas.Int.{ints}
use Rattle.pf_model.specs.Fraction.{IsBoundedFraction}
use Rattle.pf_model.proofs.Lowest.{whole_lowest}
use Rattle.pf_rat.proofs.fraction.Rat.from_integer.Goals as goal

pub invariant_of-result : goal.invariant_of-result
invariant_of-result c =
    let low = c.requires.low in
    let high = c.requires.high in
    let p = c.args.p in
    let same : to_z mir.Syntax.w128 (of_z mir.Syntax.w128 p) ≡ p = omega (arith, ints, low, high) in
    let bounds : IsBoundedFraction (record { p = p; q = pos 1 }) = record { p_low = low; p_high = high; parameter = omega (arith, ints); q_high = omega (arith, ints) } in
    rw same (bounds, whole_lowest p)
