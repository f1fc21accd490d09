use Rattle.std.proofs.Common.{refl, arith, ap, ◌∙◌, to_z, of_z}
use Rattle.std.specs.Prelude.{pos, ◌*ℤ◌}
use Rattle.std.proofs.lemmas.Int.{ints}
use Rattle.std.proofs.lemmas.List.{length-set}
use Rattle.pf_select.proofs.Slacks.{scaled_more}
use Rattle.pf_select.proofs.dropping.write_scaled.Goals as goal

pub numbers-preserved : goal.numbers-preserved
numbers-preserved c =
    let a = c.scaled.ensures.low in
    let b = c.scaled.ensures.high in
    let wide = c.numbers.invariant.full in
    let k = to_z mir.Syntax.w128 (of_z mir.Syntax.w128 c.args.k) in
    record {
      full = length-set c.numbers.sums c.numbers.i _ ∙ wide;
      scaled = scaled_more k c.args.numbers.now c.numbers.sums _ c.numbers.i c.scaled.result _ c.numbers.invariant.scaled
          (omega (arith, wide, c.numbers-test.true, c.requires.places)) refl (omega (arith, ints, a, b))
          (c.scaled.ensures.value ∙ ap (λ n. k *ℤ pos n) c.from.ensures) a b;
    }
