use Rattle.pf_curve.proofs.Envelopes.{end_served, high_end_served}
use Rattle.pf_tests.proofs.curves.three_pieces_are_opened.Goals as goal

pub envelope-requires-clause-interval : goal.envelope-requires-clause-interval
envelope-requires-clause-interval g c = rw (c.lo.ensures, c.hi.ensures) c.frame.ensures.built.monotone.interval

pub envelope-requires-clause-low_served : goal.envelope-requires-clause-low_served
envelope-requires-clause-low_served g c = rw c.in_ok-finder.ensures (end_served c.in_ok-net.net c.lo.result.now c.frame.ensures.built.monotone c.in_ok-net.ensures.rising c.lo.ensures)

pub envelope-requires-clause-high_served : goal.envelope-requires-clause-high_served
envelope-requires-clause-high_served g c = rw c.in_ok-finder.ensures (high_end_served c.in_ok-net.net c.hi.result.now c.frame.ensures.built.monotone c.in_ok-net.ensures.rising c.hi.ensures)
