use Rattle.std.proofs.Common.{◌≡◌, to_z, of_z, arith, ◌∙◌}
use Rattle.std.proofs.lemmas.Int.{ints}
use Rattle.pf_reinforce.proofs.Gains.{gain_step, gain_whole}
use Rattle.pf_reinforce.proofs.sums.gain.Goals as goal
use mir.Syntax.{w128}

pub edges-preserved : goal.edges-preserved
edges-preserved c =
    let bits : to_z w128 (of_z w128 c.gain_at-number.result) ≡ c.gain_at-number.result = omega (arith, ints) in
    rw c.in_ok-push.ensures.items (gain_step c.args.first.now c.args.second.now c.edges.added.items c.edges.i _ (bits ∙ c.gain_at-number.ensures) c.edges.invariant)

pub returns : goal.returns
returns c = gain_whole _ _ _ _ (omega (arith, c.edges-test.false, c.edges.auto.i-end)) c.edges.invariant
