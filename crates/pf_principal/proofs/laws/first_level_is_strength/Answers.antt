use Rattle.pf_principal.proofs.FirstPiece.{first_level_is_strength, no_strength_apart, first_is_components}
use Rattle.pf_principal.proofs.laws.first_level_is_strength.Goals as goal

pub returns : goal.returns
returns c = record { strength = first_level_is_strength; apart = no_strength_apart; components = first_is_components }
