use Rattle.std.proofs.Common.{arith}
use Rattle.std.proofs.lemmas.Int.{ints}
use Rattle.pf_rat.proofs.Meeting.{meeting, meeting_turned}
use Rattle.pf_rat.proofs.fraction.meet.Goals as goal

pub returns-then-up-gt0-clause-some : goal.returns-then-up-gt0-clause-some
returns-then-up-gt0-clause-some c =
    let l = c.first.invariant in
    let m = c.second.invariant in
    rw (← c.first.view_is, ← c.second.view_is)
    (meeting (record { a = c.first.inside.constant; b = c.first.inside.slope }) (record { a = c.second.inside.constant; b = c.second.inside.slope }) c.new.result _ _
    (omega (arith, ints, l.b_low, l.b_high, m.b_low, m.b_high, c.if-up-gt0.true)) (omega (arith, ints, l.a_low, l.a_high, m.a_low, m.a_high)) (omega (arith, ints, l.b_low, l.b_high, m.b_low, m.b_high)) c.new.ensures.bounds.parameter c.new.ensures.equal)

pub returns-else-up-gt0-clause-some : goal.returns-else-up-gt0-clause-some
returns-else-up-gt0-clause-some c =
    let l = c.first.invariant in
    let m = c.second.invariant in
    rw (← c.first.view_is, ← c.second.view_is)
    (meeting_turned _ _ _ (meeting (record { a = c.second.inside.constant; b = c.second.inside.slope }) (record { a = c.first.inside.constant; b = c.first.inside.slope }) c.new-else-up-gt0.result _ _
    (omega (arith, ints, l.b_low, l.b_high, m.b_low, m.b_high, c.if-up-gt0.false, c.if-up-eq0.false)) (omega (arith, ints, l.a_low, l.a_high, m.a_low, m.a_high)) (omega (arith, ints, l.b_low, l.b_high, m.b_low, m.b_high)) c.new-else-up-gt0.ensures.bounds.parameter c.new-else-up-gt0.ensures.equal))
