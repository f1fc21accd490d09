use Rattle.std.proofs.Common.{◌≡◌, to_z, of_z, arith, ap, ◌∙◌}
use Rattle.std.specs.Int.{w128}
use Rattle.std.specs.Prelude.{ℤ, ◌*ℤ◌, pos}
use Rattle.std.proofs.lemmas.Int.{ints}
use Rattle.pf_model.specs.Fraction.{lowest}
use Rattle.pf_share.proofs.ShareLowest.{fraction_by, share_lowest, part_small}
use Rattle.pf_share.proofs.weighted.share_of.Goals as goal

pub product-p-requires-clause-part_high : goal.product-p-requires-clause-part_high
product-p-requires-clause-part_high c =
    let level = c.args.level.now in
    let b = c.q.ensures.bounds in
    let weight : to_z w128 (of_z w128 c.from.result) ≡ pos c.args.weight = omega (arith, ints, c.from.ensures, c.requires.high) in
    let q : to_z w128 (of_z w128 c.q.result) ≡ level.q = omega (arith, ints, c.q.ensures.value, b.parameter, b.q_high) in
    let is = c.new-part.ensures.value ∙ ap (λ (n : ℤ). lowest (fraction_by n (to_z w128 (of_z w128 c.q.result)))) weight ∙ ap (λ (n : ℤ). lowest (fraction_by (pos c.args.weight) n)) q in
    let small = part_small level.q c.args.weight c.new-part.result b.parameter c.requires.high is in
    let low = small.0 in
    let high = small.1 in
    let value = c.p-2.ensures.value in
    omega (arith, ints, value, low, high)

pub returns-clause-value : goal.returns-clause-value
returns-clause-value c =
    let level = c.args.level.now in
    let part = c.new-part.result in
    let b = c.q.ensures.bounds in
    let d = c.new-part.ensures.bounds in
    let m = c.product-p.ensures in
    let weight : to_z w128 (of_z w128 c.from.result) ≡ pos c.args.weight = omega (arith, ints, c.from.ensures, c.requires.high) in
    let q : to_z w128 (of_z w128 c.q.result) ≡ level.q = omega (arith, ints, c.q.ensures.value, b.parameter, b.q_high) in
    let is = c.new-part.ensures.value ∙ ap (λ (n : ℤ). lowest (fraction_by n (to_z w128 (of_z w128 c.q.result)))) weight ∙ ap (λ (n : ℤ). lowest (fraction_by (pos c.args.weight) n)) q in
    let first : to_z w128 (of_z w128 c.p.result) ≡ level.p = omega (arith, ints, c.p.ensures.value, b.p_low, b.p_high) in
    let second : to_z w128 (of_z w128 c.p-2.result) ≡ part.p = omega (arith, ints, c.p-2.ensures.value, d.p_low, d.p_high) in
    let whole : to_z w128 (of_z w128 c.product-p.result) ≡ c.product-p.result = omega (arith, ints, m.low, m.high) in
    let below : to_z w128 (of_z w128 c.q-2.result) ≡ part.q = omega (arith, ints, c.q-2.ensures.value, d.parameter, d.q_high) in
    let above : to_z w128 (of_z w128 c.product-p.result) ≡ level.p *ℤ part.p =
    whole ∙ m.value ∙ ap (λ (n : ℤ). n *ℤ to_z w128 (of_z w128 c.p-2.result)) first ∙ ap (λ (n : ℤ). level.p *ℤ n) second in
    ap (λ (n : ℤ). fraction_by n (to_z w128 (of_z w128 c.q-2.result))) above ∙ ap (fraction_by (level.p *ℤ part.p)) below
    ∙ share_lowest level part (pos c.args.weight) b.parameter c.q.ensures.lowest is
