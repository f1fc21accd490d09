use Rattle.std.proofs.Common.{◌≡◌, pos, arith, ap, below_more, ◌∙◌}
use Rattle.std.specs.Prelude.{◌*ℤ◌}
use Rattle.std.proofs.lemmas.Int.{ints}
use Rattle.pf_dense.specs.Certificate.{allowance}
use Rattle.pf_dense.proofs.charging.are_within.Goals as goal

pub vertices-preserved : goal.vertices-preserved
vertices-preserved c =
    let told : c.allowance.result ≡ allowance c.args.graph.now c.args.at.now c.vertices.v =
    c.allowance.ensures.value ∙ ap (λ n. pos 2 *ℤ (c.args.at.now.p *ℤ n)) c.cost.ensures in
    let l = c.allowance.ensures.low in
    let h = c.allowance.ensures.high in
    let test = c.if-allowance-sums.false in
    record { most = below_more _ _ c.vertices.invariant.most (omega (arith, ints, test, told, l, h)) }
