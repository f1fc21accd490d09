-- What the lines of a text have given so far, as the code keeps it.
use Rattle.std.specs.Prelude.{List, [], ◌∷◌, ℤ, pos}
use Rattle.pf_select.specs.Text.{Given}
use Rattle.pf_select.specs.declared.gathering.SelectState.{SelectState}

abbrev pub given_of : SelectState → Given
given_of state = record { costs = state.costs.items; gains = state.gains.items; needs = state.needs.items }

-- the numbers of the header
abbrev pub header_of : SelectState → List ℤ
header_of state = pos state.part_count ∷ pos state.product_count ∷ pos state.need_count ∷ []
