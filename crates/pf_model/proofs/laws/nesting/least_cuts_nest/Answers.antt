use Rattle.pf_model.proofs.Affine.{nested}
use Rattle.pf_model.proofs.Nesting.{nested_falling}
use Rattle.pf_model.proofs.laws.nesting.least_cuts_nest.Goals as goal

pub returns : goal.returns
returns c = record {
  rising = nested;
  falling = nested_falling;
}
