use Rattle.pf_model.proofs.Lowest.{lowest_is, lowest_only}
use Rattle.pf_model.proofs.laws.parameters.lowest_terms_are_unique.Goals as goal

pub returns : goal.returns
returns c = record {
  is = λ x h. let l = lowest_is x h in record { parameter = l.parameter; lowest = l.lowest; equal = l.equal };
  only = λ x y h l. lowest_only x y h l.parameter l.equal l.lowest;
}
