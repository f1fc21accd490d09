use Rattle.pf_sweep.proofs.Sweeping.{bounds_of}
use Rattle.pf_sweep.proofs.sweep.Sweep.side.Goals as goal

pub write_side-requires-clause-bounds : goal.write_side-requires-clause-bounds
write_side-requires-clause-bounds c = bounds_of _ _ _ _ _ c.self.inside.at.p c.self.invariant c.self.invariant.settled.inside
