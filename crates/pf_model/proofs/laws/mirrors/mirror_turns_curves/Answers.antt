use Rattle.pf_model.proofs.Mirror.{point_turned}
use Rattle.pf_model.proofs.Turned.{curve_turned, certificate_turned}
use Rattle.pf_model.proofs.laws.mirrors.mirror_turns_curves.Goals as goal

pub returns : goal.returns
returns c = record {
  point = point_turned;
  curve = curve_turned;
  certificate = certificate_turned;
}
