use Rattle.pf_gen.proofs.Accepted.{generated_is_accepted}
use Rattle.pf_gen.proofs.laws.generated_texts_are_accepted.Goals as goal

pub returns : goal.returns
returns c = generated_is_accepted
