use Rattle.std.proofs.Common.{refl}
use Rattle.pf_top.proofs.commands.share.ShareJob.solve.Goals as goal

pub returns-clause-right : goal.returns-clause-right
returns-clause-right c = record {
  answer = c.in_ok-answer.answer;
  shape = c.in_ok-answer.ensures.shape;
  best = c.in_ok-answer.ensures.best;
  certificate = c.in_ok-answer.ensures.certificate;
  text_is = refl;
}
