use Rattle.std.proofs.Common.{arith}
use Rattle.std.proofs.lemmas.Int.{ints}
use Rattle.pf_graph.proofs.Counting.{parts_most}
use Rattle.pf_forest.proofs.Bounds.{crossing_small}
use Rattle.pf_principal.proofs.family.line_of.Goals as goal

pub new-requires : goal.new-requires
new-requires c =
    let small = crossing_small c.args.graph.now c.args.partition.now c.frame.ensures.limits in
    let low = small.low in
    let high = small.high in
    let crossing = c.crossing-crossing.ensures in
    let most = parts_most c.args.partition.now in
    let few = c.frame.ensures.limits.nodes in
    let count = c.parts-parts.ensures in
    let first = c.from.ensures in
    let full = c.requires in
    record {
      a_low = omega (arith, ints, low, high, crossing);
      a_high = omega (arith, ints, low, high, crossing);
      b_low = omega (arith, ints, most, few, count, first, full);
      b_high = omega (arith, ints, most, few, count, first, full);
    }
