use Rattle.std.proofs.Common.{◌≡◌, length, refl, arith, ap, ◌∙◌, below_more}
use Rattle.pf_graph.specs.Best.{partition_at}
use Rattle.pf_principal.specs.Testing.{MeetsStep}
use Rattle.pf_principal.proofs.Certificate.{certificate_is_principal}
use Rattle.pf_principal.proofs.Parts.{certified_from, partition_seen}
use Rattle.pf_principal.proofs.check.check_principal.Goals as goal

pub levels-preserved : goal.levels-preserved
levels-preserved c =
    let p = c.meets_step.ensures.places in
    let i = c.levels.invariant.places in
    record {
      places = record { marks = p.marks ∙ i.marks; sums = p.sums ∙ i.sums; queue = p.queue ∙ i.queue };
      each = record {
        each = below_more (λ k. MeetsStep c.args.graph.now c.args.answer.now k) c.levels.j c.levels.invariant.each.each (c.if-not-meets_step.ensures.exact.0 refl);
      };
    }

pub returns-clause-exact : goal.returns-clause-exact
returns-clause-exact c =
    let ep = c.get-partitions.ensures ∙ c.parts.ensures in
    let n : length c.get-count.result.now ≡ length c.args.answer.now.levels = ap length (c.get-count.ensures ∙ c.levels-2.ensures) in
    let count = c.requires.shape.count in
    let first = partition_seen _ c.args.answer.now.partitions 0 _ ep c.index-partitions-0.is (omega (arith, count)) in
    let last = partition_seen _ c.args.answer.now.partitions (length c.get-count.result.now) _ ep c.index-partitions-count.is (omega (arith, count, n))
    ∙ ap (partition_at c.args.answer.now.partitions) n in
    let whole = certified_from c.args.graph.now c.args.answer.now _ _ c.levels.j c.requires.shape first last (c.if-not-has_ends.ensures.0 refl) c.levels.invariant.each
    (omega (arith, n, c.levels-test.false)) in
    (λ told. whole, λ cert. refl)

pub returns-clause-principal : goal.returns-clause-principal
returns-clause-principal c =
    let ep = c.get-partitions.ensures ∙ c.parts.ensures in
    let n : length c.get-count.result.now ≡ length c.args.answer.now.levels = ap length (c.get-count.ensures ∙ c.levels-2.ensures) in
    let count = c.requires.shape.count in
    let first = partition_seen _ c.args.answer.now.partitions 0 _ ep c.index-partitions-0.is (omega (arith, count)) in
    let last = partition_seen _ c.args.answer.now.partitions (length c.get-count.result.now) _ ep c.index-partitions-count.is (omega (arith, count, n))
    ∙ ap (partition_at c.args.answer.now.partitions) n in
    let whole = certified_from c.args.graph.now c.args.answer.now _ _ c.levels.j c.requires.shape first last (c.if-not-has_ends.ensures.0 refl) c.levels.invariant.each
    (omega (arith, n, c.levels-test.false)) in
    certificate_is_principal c.args.graph.now c.args.answer.now c.frame.ensures.limits.graph c.requires.shape whole
