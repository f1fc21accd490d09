-- What the lines of a text have given so far, as the code keeps it.
use Rattle.std.specs.Prelude.{List, [], ◌∷◌, ℤ, pos}
use Rattle.pf_closure.specs.Text.{Given}
use Rattle.pf_closure.specs.declared.gathering.ClosureState.{ClosureState}

abbrev pub given_of : ClosureState → Given
given_of state = record { slots = state.slots.items; needs = state.needs.items }

-- the numbers of the header
abbrev pub header_of : ClosureState → List ℤ
header_of state = pos state.item_count ∷ pos state.need_count ∷ []
