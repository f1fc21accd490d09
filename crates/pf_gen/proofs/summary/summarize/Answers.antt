use Rattle.std.proofs.Common.{◌≡◌, ◌+◌, ◌-◌, length, arith, to_z, of_z}
use Rattle.std.specs.Int.{w128}
use Rattle.std.proofs.lemmas.Int.{ints}
use Rattle.pf_gen.proofs.SummaryLemmas.{low_least, high_least, summary_arcs}
use Rattle.pf_gen.proofs.summary.summarize.Goals as goal

pub least_value-low_value-requires : goal.least_value-low_value-requires
least_value-low_value-requires c =
    rw (c.lo.ensures, c.cut.ensures) (low_least c.args.net.now c.args.curve.now.points c.args.curve.now.cuts c.requires.monotone c.requires.curve)

pub least_value-high_value-requires : goal.least_value-high_value-requires
least_value-high_value-requires c =
    let last : (length c.points.result.now - 1 - 1) + 1 ≡ length c.args.curve.now.cuts = (let n = c.points.ensures.count in let p = c.points.ensures.points in let some = c.requires.curve.division.some in rw p (omega (arith, n, some))) in
    rw (c.hi.ensures, c.cut-2.ensures) (high_least c.args.net.now c.args.curve.now.points c.args.curve.now.cuts (length c.points.result.now - 1 - 1) last c.requires.monotone c.requires.curve)

pub returns : goal.returns
returns c =
    let low = rw c.lo.ensures at c.least_value-low_value.ensures in
    let high = rw c.hi.ensures at c.least_value-high_value.ensures in
    let low_back : to_z w128 (of_z w128 c.least_value-low_value.result) ≡ c.least_value-low_value.result = omega (arith, ints) in
    let high_back : to_z w128 (of_z w128 c.least_value-high_value.result) ≡ c.least_value-high_value.result = omega (arith, ints) in
    record {
      points = c.args.curve.now.points;
      cuts = c.args.curve.now.cuts;
      curve = c.requires.curve;
      nodes = rw c.frame.ensures.frame at c.nodes.ensures.value;
      arcs = summary_arcs c.args.net.now c.frame-2.result.now c.arcs.result c.frame-2.ensures.frame c.arcs.ensures.value;
      segments = (let n = c.points.ensures.count in let p = c.points.ensures.points in rw p (omega (arith, n)));
      low_value = rw low_back low;
      high_value = rw high_back high;
    }
