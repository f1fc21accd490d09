use Rattle.pf_sweep.proofs.OneSweep.{one_list, one_text}
use Rattle.pf_sweep.proofs.laws.rows_are_unique.Goals as goal

pub returns : goal.returns
returns c = record { rows = one_list; text = one_text }
