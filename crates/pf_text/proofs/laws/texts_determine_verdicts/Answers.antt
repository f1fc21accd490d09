use Rattle.pf_text.proofs.VerdictLemmas.{same_verdict}
use Rattle.pf_text.proofs.laws.texts_determine_verdicts.Goals as goal

pub returns : goal.returns
returns c = same_verdict
