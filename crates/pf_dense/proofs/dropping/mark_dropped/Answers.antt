use Rattle.std.proofs.Common.{arith}
use Rattle.pf_dense.proofs.DropLemmas.{dropped_by}
use Rattle.pf_dense.proofs.dropping.mark_dropped.Goals as goal

pub mark_strict-requires-clause-sums : goal.mark_strict-requires-clause-sums
mark_strict-requires-clause-sums c = c.requires.sums.places

pub mark_linked-requires-clause-places : goal.mark_linked-requires-clause-places
mark_linked-requires-clause-places c =
    let wide = c.requires.places in
    let full = c.mark_strict.ensures.full in
    record {
      first = λ i low. let l = c.vertices.ensures.limits.graph.graph.tails i low in omega (arith, l, wide, full);
      second = λ i low. let l = c.vertices.ensures.limits.graph.graph.heads i low in omega (arith, l, wide, full);
    }

pub returns-clause-dropped : goal.returns-clause-dropped
returns-clause-dropped c =
    dropped_by c.args.graph.now c.args.at.now c.args.charges.now c.args.sums.now c.mark_strict.new.marks c.mark_linked.new.marks c.requires.sums c.mark_strict.ensures.start
    c.mark_linked.ensures
