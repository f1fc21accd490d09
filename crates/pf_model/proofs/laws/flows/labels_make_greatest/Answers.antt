use Rattle.pf_model.proofs.Exists.{preflow_greatest}
use Rattle.pf_model.proofs.laws.flows.labels_make_greatest.Goals as goal

pub returns : goal.returns
returns c = preflow_greatest
