use Rattle.pf_dense.proofs.ChargingLemmas.{IsCharging}
use Rattle.pf_dense.proofs.charging.write_charged.Given as goal

abbrev pub invariant-edges : goal.invariant-edges
invariant-edges l = IsCharging l.graph l.at l.charges l.sums l.i
