use Rattle.std.proofs.Common.{arith}
use Rattle.std.proofs.lemmas.Int.{ints}
use Rattle.pf_model.proofs.Certificate.{at_most_trans}
use Rattle.pf_model.proofs.FractionOrder.{fraction_order}
use Rattle.pf_model.proofs.Unique.{below_or_at_most}
use Rattle.pf_model.proofs.laws.parameters.order_is_an_order.Goals as goal

pub returns : goal.returns
returns c = record {
  total = below_or_at_most;
  transitive = at_most_trans;
  compared = fraction_order;
  antisymmetric = λ x y h k. omega (arith, ints, h, k);
}
