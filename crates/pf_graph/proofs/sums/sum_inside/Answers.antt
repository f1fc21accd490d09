use Rattle.std.proofs.Common.{ℕ, true, false, arith, ◌<◌, ◌≤◌, ◌^◌, get_or, length, sym, ◌∙◌, ◌&&◌}
use Rattle.pf_model.specs.Cut.{has}
use Rattle.pf_graph.specs.WeightedGraph.{lies_in}
use Rattle.std.proofs.lemmas.Int.{ints}
use Rattle.pf_graph.proofs.EdgeSums.{next_sum, edge_test}
use Rattle.pf_graph.proofs.sums.sum_inside.Goals as goal
use Rattle.pf_graph.proofs.sums.sum_inside.Goals.{then-holds_both, else-holds_both}

pub edges-preserved : goal.edges-preserved
edges-preserved c =
    let low : c.edges.i < length c.args.frame.now.ends = omega arith in
    let test = λ (u v : ℕ). has c.args.side.now u && has c.args.side.now v in
    let edge = get_or c.args.frame.now.ends c.edges.i (0, 0) in
    let fits = c.type_inv.numbers c.edges.i in
    let small : get_or c.args.numbers.now c.edges.i 0 ≤ 2 ^ 32 = omega (arith, fits) in
    elim c.if-holds_both.branch [
      | then-holds_both w ↦
          next_sum (lies_in c.args.side.now) c.args.frame.now.ends c.args.numbers.now c.edges.i _ _ true c.requires.full low c.edges.invariant
          (edge_test test edge c.tail.result c.head.result true c.tail.ensures.value c.head.ensures.value (sym w.if-holds_both.true ∙ c.holds_both.ensures)) small
          (omega (arith, ints, w.from-sum.ensures))
      | else-holds_both w ↦
          next_sum (lies_in c.args.side.now) c.args.frame.now.ends c.args.numbers.now c.edges.i _ _ false c.requires.full low c.edges.invariant
          (edge_test test edge c.tail.result c.head.result false c.tail.ensures.value c.head.ensures.value (sym w.if-holds_both.false ∙ c.holds_both.ensures)) small
          (omega (arith, ints))
    ]
