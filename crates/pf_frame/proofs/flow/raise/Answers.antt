use Rattle.std.proofs.Common.{ap, arith, slice_set}
use Rattle.std.proofs.lemmas.Int.{ints}
use Rattle.pf_frame.proofs.flow.raise.Goals as goal

pub overflow_add-sums : goal.overflow_add-sums
overflow_add-sums c = omega (arith, ints)

pub returns : goal.returns
returns c = ap (λ x. slice_set c.args.sums.now c.args.v x) (omega (arith, ints))
