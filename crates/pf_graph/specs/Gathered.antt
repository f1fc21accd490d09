-- What the lines of a text have given so far, as the code keeps it.
use Rattle.std.specs.Prelude.{List, [], ◌∷◌, ℤ, pos, map}
use Rattle.pf_text.specs.Kinds.{FieldPattern, number}
use Rattle.pf_graph.specs.Text.{Given}
use Rattle.pf_graph.specs.declared.gathering.GraphState.{GraphState}

abbrev pub given_of : GraphState → Given
given_of state = record {
  costs = state.costs;
  prices = state.prices;
  ends = state.ends.items;
  weights = map pos state.weights.items;
}

-- the numbers of the header
abbrev pub header_of : GraphState → List ℤ
header_of state = pos state.vertex_count ∷ pos state.edge_count ∷ []
