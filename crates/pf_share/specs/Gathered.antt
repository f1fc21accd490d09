-- What the lines of a text have given so far, as the code keeps it.
use Rattle.std.specs.Prelude.{List, [], ◌∷◌, ℤ, pos}
use Rattle.pf_share.specs.Text.{Given}
use Rattle.pf_share.specs.declared.gathering.ShareState.{ShareState}

abbrev pub given_of : ShareState → Given
given_of state = record { sink = state.sink; weights = state.weights.items; ends = state.ends.items; capacities = state.capacities.items }

-- the numbers of the header
abbrev pub header_of : ShareState → List ℤ
header_of state = pos state.node_count ∷ pos state.arc_count ∷ []
