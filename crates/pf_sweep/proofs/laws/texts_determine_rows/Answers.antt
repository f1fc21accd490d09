use Rattle.pf_sweep.proofs.SameRows.{same_rows}
use Rattle.pf_sweep.proofs.laws.texts_determine_rows.Goals as goal

pub returns : goal.returns
returns c = same_rows
