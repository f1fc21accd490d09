use Rattle.std.proofs.Common.{◌≡◌, of_z, arith, sym, ◌∙◌}
use Rattle.std.specs.Prelude.{pos}
use Rattle.std.proofs.lemmas.Bool.{eqb-true}
use Rattle.std.proofs.lemmas.Int.{ints}
use Rattle.pf_strength.proofs.check.is_ratio.Goals as goal

pub returns : goal.returns
returns c =
    let count = c.parts-parts.ensures in
    let many = c.if-parts-least.false in
    let p = c.p.ensures.value in
    let low = c.if-p-lt0.false in
    let value = c.partition_value.ensures in (
      λ told.
          let seen : of_z mir.Syntax.w128 c.partition_value.result ≡ 0 = eqb-true _ _ told in
          let none : c.partition_value.result ≡ pos 0 = omega (arith, ints, seen) in
          record { two = omega (arith, count, many); level = omega (arith, ints, p, low); none = sym value ∙ none },
      λ r. let none : c.partition_value.result ≡ pos 0 = value ∙ r.none in grind (arith, ints),
    )
