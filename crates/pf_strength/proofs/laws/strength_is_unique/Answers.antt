use Rattle.pf_strength.proofs.Examples.{first_edge_cuts, second_edge_cuts}
use Rattle.pf_strength.proofs.OneStrength.{one_strength, one_level}
use Rattle.pf_strength.proofs.laws.strength_is_unique.Goals as goal

pub returns : goal.returns
returns c = record { strength = one_strength; level = one_level; first = first_edge_cuts; second = second_edge_cuts }
