use Rattle.pf_dense.proofs.NetLemmas.{dense_line, side_capacity, cut_is_side}
use Rattle.pf_dense.proofs.laws.cuts_are_sides.Goals as goal

pub returns : goal.returns
returns c = record { line = dense_line; capacity = side_capacity; side = cut_is_side }
