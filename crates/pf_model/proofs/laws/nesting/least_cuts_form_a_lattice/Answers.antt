use Rattle.pf_model.proofs.Exchange.{has-intersection, has-union, intersection_least, union_least}
use Rattle.pf_model.proofs.laws.nesting.least_cuts_form_a_lattice.Goals as goal

pub returns : goal.returns
returns c = record {
  both = has-intersection;
  either = has-union;
  intersection = intersection_least;
  union = union_least;
}
