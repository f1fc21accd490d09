use Rattle.std.proofs.Common.{arith}
use Rattle.std.proofs.lemmas.Int.{ints}
use Rattle.pf_sweep.proofs.TurnedRows.{turned_at, turned_made}
use Rattle.pf_sweep.proofs.sweep.SweepRow.turned.Goals as goal

pub returns : goal.returns
returns c =
    let s = c.self.invariant in
    let b = s.at.bounds in
    let p = c.p.ensures.value in
    let q = c.q.ensures.value in
    let low = s.value.low in
    let high = s.value.high in
    let at = turned_at c.self.inside.at _ c.new-at.result c.new-at.ensures.value (omega (arith, ints, p, b.p_low, b.p_high)) (omega (arith, ints, q, b.parameter, b.q_high)) b s.at.lowest in
    turned_made c.self.inside.at c.new-at.result c.self.inside.least _ c.self.inside.nodes _ at (omega (arith, ints, low, high)) c.self.view_is
