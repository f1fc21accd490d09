use Rattle.pf_model.proofs.Mirror.{monotone_turned, interval_turned, mirror_twice}
use Rattle.pf_model.proofs.laws.mirrors.mirror_is_monotone.Goals as goal

pub returns : goal.returns
returns c = record {
  monotone = monotone_turned;
  interval = interval_turned;
  twice = mirror_twice;
}
