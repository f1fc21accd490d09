use Rattle.std.proofs.Common.{refl}
use Rattle.pf_text.specs.Verdict.{verdict_text}
use Rattle.pf_top.proofs.job.verdict_bytes.Goals as goal

pub returns-then-holds : goal.returns-then-holds
unfolding verdict_text
returns-then-holds c = rw c.if-holds.true refl

pub returns-else-holds : goal.returns-else-holds
unfolding verdict_text
returns-else-holds c = rw c.if-holds.false refl
