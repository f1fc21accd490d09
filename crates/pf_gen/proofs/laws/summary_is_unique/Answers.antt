use Rattle.pf_gen.proofs.OneSummary.{one_summary, one_summary_text}
use Rattle.pf_gen.proofs.laws.summary_is_unique.Goals as goal

pub returns : goal.returns
returns c = record { summary = one_summary; text = one_summary_text }
