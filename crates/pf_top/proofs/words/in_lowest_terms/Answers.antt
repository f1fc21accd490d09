use Rattle.std.proofs.Common.{◌≡◌, to_z, of_z, arith, ap, ◌∙◌}
use Rattle.std.specs.Int.{w128}
use Rattle.std.specs.Prelude.{ℤ}
use Rattle.std.proofs.lemmas.Int.{ints}
use Rattle.pf_model.specs.Fraction.{lowest}
use Rattle.pf_top.proofs.words.in_lowest_terms.Goals as goal

pub returns : goal.returns
returns c =
    let p : to_z w128 (of_z w128 c.from.result) ≡ c.args.p = omega (arith, ints, c.from.ensures, c.requires.p_low, c.requires.p_high) in
    let q : to_z w128 (of_z w128 c.from-2.result) ≡ c.args.q = omega (arith, ints, c.from-2.ensures, c.requires.parameter, c.requires.q_high) in
    c.new.ensures.value ∙ ap (λ (p : ℤ). lowest (record { p = p; q = to_z w128 (of_z w128 c.from-2.result) })) p ∙ ap (λ (q : ℤ). lowest (record { p = c.args.p; q = q })) q
