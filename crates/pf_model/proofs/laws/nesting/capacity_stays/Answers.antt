use Rattle.pf_model.proofs.Affine.{proper_at}
use Rattle.pf_model.proofs.Certificate.{line_between}
use Rattle.pf_model.proofs.laws.nesting.capacity_stays.Goals as goal

pub returns : goal.returns
returns c = record {
  arc = λ arc. line_between arc.a arc.b;
  network = proper_at;
}
