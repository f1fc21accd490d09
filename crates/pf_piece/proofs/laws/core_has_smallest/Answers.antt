use Rattle.pf_piece.proofs.Smallest.{core_has_smallest}
use Rattle.pf_piece.proofs.CoreLemmas.{core_is_built}
use Rattle.pf_piece.proofs.laws.core_has_smallest.Goals as goal

pub returns : goal.returns
returns c = record { smallest = core_has_smallest; built = core_is_built }
