use Rattle.std.proofs.Common.{◌≡◌, ◌+◌, ◌*◌, List, refl, arith, ap, sym, ◌∙◌, subst}
use Rattle.std.specs.Prelude.{ℤ}
use Rattle.pf_model.specs.Fraction.{Fraction, IsBelow}
use Rattle.pf_frame.specs.Lending.{row_at}
use Rattle.pf_graph.specs.Labels.{parts}
use Rattle.pf_graph.specs.Best.{level_at}
use Rattle.pf_principal.proofs.Parts.{same_both, partition_seen, level_seen}
use Rattle.pf_principal.proofs.check.meets_step.Goals as goal

pub returns-clause-exact : goal.returns-clause-exact
returns-clause-exact c =
    let el = c.get-levels.ensures ∙ c.levels.ensures in
    let ep = c.get-partitions.ensures ∙ c.parts.ensures in
    let count = c.requires.shape.count in
    let here = c.requires.level in
    let x = level_seen _ c.args.answer.now.levels c.args.j _ el c.index-levels-j.is here in
    let l = partition_seen _ c.args.answer.now.partitions c.args.j _ ep c.index-partitions-j.is (omega (arith, count, here)) in
    let r = partition_seen _ c.args.answer.now.partitions (c.args.j + 1) _ ep c.index-partitions-j-2.is (omega (arith, count, here)) in
    let v = c.row-vector.ensures ∙ ap (λ (t : List (List ℤ)). row_at t c.args.j) c.vectors.ensures in
    let f : c.args.j * c.vertices-nodes.result ≡ c.args.j * c.args.graph.now.nodes = ap (λ k. c.args.j * k) c.vertices-nodes.ensures.value in
    let P : List Fraction → Type 0 = λ ls. IsBelow (level_at ls c.args.j) (level_at ls (c.args.j + 1)) in
    let fewer = c.if-not-has_fewer.ensures.0 refl in
    let few = ap parts l in
    let more = ap parts r in (
      λ told. record {
        rise = subst P el (c.if-not-rises.ensures.0 refl);
        parts_rise = omega (arith, fewer, few, more);
        both = same_both _ _ _ _ _ _ _ _ _ _ _ _ _ x v c.splits-splits.ensures f l r (c.meets_both.ensures.exact.0 told);
      },
      λ m. c.meets_both.ensures.exact.1 (same_both _ _ _ _ _ _ _ _ _ _ _ _ _ (sym x) (sym v) (sym c.splits-splits.ensures) (sym f) (sym l) (sym r) m.both),
    )
