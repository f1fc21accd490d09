-- Graphs worked by hand: the definitions give what is written beside them.
use Rattle.std.proofs.Common.{refl}
use Rattle.pf_graph.specs.Worked.{IsTriangle, IsTwoTriangles}

pub triangle_is : IsTriangle
triangle_is = record {
  parts_are = refl;
  crossing_is = refl;
  value_is = refl;
  two_parts = refl;
  two_crossing = refl;
  two_value = refl;
  two_edges = refl;
  inside_is = refl;
  cost_is = refl;
  total_is = refl;
  greatest_is = refl;
}

pub two_triangles_is : IsTwoTriangles
two_triangles_is = record {
  one_part = refl;
  two_parts = refl;
  six_parts = refl;
  first = refl;
  first_again = refl;
  second = refl;
  second_again = refl;
  edges = refl;
}
