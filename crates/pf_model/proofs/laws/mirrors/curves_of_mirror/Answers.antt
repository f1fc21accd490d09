use Rattle.pf_model.proofs.Turned.{point_back, curve_back, certificate_back}
use Rattle.pf_model.proofs.laws.mirrors.curves_of_mirror.Goals as goal

pub returns : goal.returns
returns c = record {
  point = point_back;
  curve = curve_back;
  certificate = certificate_back;
}
