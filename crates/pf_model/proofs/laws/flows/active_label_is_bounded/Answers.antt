use Rattle.pf_model.proofs.Labels.{active_label}
use Rattle.pf_model.proofs.laws.flows.active_label_is_bounded.Goals as goal

pub returns : goal.returns
returns c = active_label
