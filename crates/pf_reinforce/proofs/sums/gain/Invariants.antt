use Rattle.pf_reinforce.proofs.Gains.{IsGainSoFar}
use Rattle.pf_reinforce.proofs.sums.gain.Given as goal

abbrev pub invariant-edges : goal.invariant-edges
invariant-edges l = IsGainSoFar l.first l.second l.added.items l.i
