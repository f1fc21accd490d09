-- What was given so far, as the definition sees it.
use Rattle.std.specs.Prelude.{List, [], ◌∷◌, ℤ, pos}
use Rattle.pf_par.specs.Text.{Given}
use Rattle.pf_par.specs.declared.given.ParState.{ParState}

abbrev pub given_of : ParState → Given
given_of state = record { interval = state.interval; source = state.source; sink = state.sink; sense = state.sense; arcs = state.arcs.items }

-- the numbers of the header
abbrev pub header_of : ParState → List ℤ
header_of state = pos state.nodes ∷ pos state.arc_count ∷ []
