use Rattle.pf_model.proofs.Nesting.{rising_slopes, falling_slopes}
use Rattle.pf_model.proofs.laws.nesting.slopes_follow_containment.Goals as goal

pub returns : goal.returns
returns c = record {
  rising = rising_slopes;
  falling = falling_slopes;
}
