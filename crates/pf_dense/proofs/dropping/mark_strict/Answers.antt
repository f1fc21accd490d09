use Rattle.std.proofs.Common.{◌≡◌, ◌<◌, length, pos, to_z, of_z, arith, ap, ◌∙◌}
use Rattle.std.specs.Prelude.{◌*ℤ◌}
use Rattle.std.proofs.lemmas.Int.{ints}
use Rattle.std.proofs.lemmas.List.{length-set}
use Rattle.pf_model.specs.Cut.{at_arc}
use Rattle.pf_dense.specs.Certificate.{allowance}
use Rattle.pf_dense.proofs.DropLemmas.{start_more}
use Rattle.pf_dense.proofs.dropping.mark_strict.Goals as goal

pub vertices-preserved : goal.vertices-preserved
vertices-preserved c =
    let g = c.args.graph.now in
    let told : c.allowance.result ≡ allowance g c.args.at.now c.vertices.v =
    c.allowance.ensures.value ∙ ap (λ n. pos 2 *ℤ (c.args.at.now.p *ℤ n)) c.cost.ensures in
    let l = c.allowance.ensures.low in
    let h = c.allowance.ensures.high in
    let there : c.vertices.v < length c.vertices.marks = omega (arith, c.vertices.invariant.full, c.requires.places, c.vertices-v-end.ensures.value, c.vertices-test.true) in
    let number : to_z mir.Syntax.w128 (of_z mir.Syntax.w128 (at_arc c.args.sums.now c.vertices.v)) ≡ at_arc c.args.sums.now c.vertices.v = omega (arith, ints) in
    let limit : to_z mir.Syntax.w128 (of_z mir.Syntax.w128 c.allowance.result) ≡ c.allowance.result = omega (arith, ints, l, h) in
    record {
      full = length-set c.vertices.marks c.vertices.v _ ∙ c.vertices.invariant.full;
      start = start_more g c.args.at.now c.args.sums.now c.vertices.v c.vertices.marks _ _ c.vertices.invariant.start there number (limit ∙ told);
    }
