use Rattle.pf_dense.proofs.Examples.{tied_triangle, triangle_alone, no_edges_is, cheap_vertex, dear_vertex, dear_vertex_kept, wrong_charge, dear_numbers}
use Rattle.pf_dense.proofs.laws.worked_graphs.Goals as goal

pub returns : goal.returns
returns c = record {
  tied = tied_triangle;
  alone = triangle_alone;
  none = no_edges_is;
  cheap = cheap_vertex;
  dear = dear_vertex;
  kept = dear_vertex_kept;
  wrong = wrong_charge;
  numbers = dear_numbers;
}
