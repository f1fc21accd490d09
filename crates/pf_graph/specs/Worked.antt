-- Graphs worked by hand, with their partitions.
use Rattle.std.specs.Prelude.{◌≡◌, ℕ, pos, negsuc, List, [], ◌∷◌}
use Rattle.pf_model.specs.Fraction.{Fraction}
use Rattle.pf_graph.specs.WeightedGraph.{WeightedGraph, inside, cost_of, total}
use Rattle.pf_graph.specs.Labels.{parts, part, greatest_label, crossing_edges}
use Rattle.pf_graph.specs.Best.{crossing_of, partition_value, IsStrength, IsPrincipal}

abbrev pub fraction : ℕ → ℕ → Fraction
fraction p q = record { p = pos p; q = pos q }

-- three vertices, each pair an edge of weight 1
abbrev pub triangle : WeightedGraph
triangle = record {
  nodes = 3;
  ends = (0, 1) ∷ ((1, 2) ∷ ((0, 2) ∷ []));
  weights = pos 1 ∷ (pos 1 ∷ (pos 1 ∷ []));
  costs = pos 1 ∷ (pos 1 ∷ (pos 1 ∷ []));
  prices = pos 1 ∷ (pos 1 ∷ (pos 1 ∷ []));
}

abbrev pub three : ℕ → ℕ → ℕ → List ℕ
three a b c = a ∷ (b ∷ (c ∷ []))

-- three parts have the ratio 3/2; two have 2/1, which is above it
pub record IsTriangle : Type 0 where
  pub parts_are : parts (three 1 2 3) ≡ 3
  pub crossing_is : crossing_of triangle (three 1 2 3) ≡ pos 3
  pub value_is : partition_value triangle (three 1 2 3) (fraction 3 2) ≡ pos 0
  pub two_parts : parts (three 1 1 2) ≡ 2
  pub two_crossing : crossing_of triangle (three 1 1 2) ≡ pos 2
  pub two_value : partition_value triangle (three 1 1 2) (fraction 3 2) ≡ pos 1
  pub two_edges : crossing_edges triangle.ends (three 1 1 2) ≡ 2
  pub inside_is : inside triangle.ends triangle.weights (part (three 1 1 2) 1) ≡ pos 1
  pub cost_is : cost_of triangle.costs (part (three 1 1 2) 1) ≡ pos 2
  pub total_is : total triangle.ends triangle.weights ≡ pos 3
  pub greatest_is : greatest_label (three 1 1 2) ≡ 2

-- two triangles and an edge between them
abbrev pub two_triangles : WeightedGraph
two_triangles = record {
  nodes = 6;
  ends = (0, 1) ∷ ((1, 2) ∷ ((0, 2) ∷ ((3, 4) ∷ ((4, 5) ∷ ((3, 5) ∷ ((2, 3) ∷ []))))));
  weights = pos 1 ∷ (pos 1 ∷ (pos 1 ∷ (pos 1 ∷ (pos 1 ∷ (pos 1 ∷ (pos 1 ∷ []))))));
  costs = pos 1 ∷ (pos 1 ∷ (pos 1 ∷ (pos 1 ∷ (pos 1 ∷ (pos 1 ∷ [])))));
  prices = pos 1 ∷ (pos 1 ∷ (pos 1 ∷ (pos 1 ∷ (pos 1 ∷ (pos 1 ∷ (pos 1 ∷ []))))));
}

abbrev pub six : ℕ → ℕ → ℕ → ℕ → ℕ → ℕ → List ℕ
six a b c d e f = a ∷ (b ∷ (c ∷ (d ∷ (e ∷ (f ∷ [])))))

-- one part and two have equal values at level 1, two and six at level 3/2
pub record IsTwoTriangles : Type 0 where
  pub one_part : parts (six 1 1 1 1 1 1) ≡ 1
  pub two_parts : parts (six 1 1 1 2 2 2) ≡ 2
  pub six_parts : parts (six 1 2 3 4 5 6) ≡ 6
  pub first : partition_value two_triangles (six 1 1 1 1 1 1) (fraction 1 1) ≡ pos 0
  pub first_again : partition_value two_triangles (six 1 1 1 2 2 2) (fraction 1 1) ≡ pos 0
  pub second : partition_value two_triangles (six 1 1 1 2 2 2) (fraction 3 2) ≡ negsuc 0
  pub second_again : partition_value two_triangles (six 1 2 3 4 5 6) (fraction 3 2) ≡ negsuc 0
  pub edges : crossing_edges two_triangles.ends (six 1 2 3 4 5 6) ≡ 7

-- its strength is 3/2, with three parts; the ratio 2 of two parts is not the least
abbrev pub TriangleStrength : Type 0
TriangleStrength = IsStrength triangle (fraction 3 2) (three 1 2 3)

abbrev pub NoTwoParts : Type 0
NoTwoParts = IsStrength triangle (fraction 2 1) (three 1 1 2) → ⊥

-- without the level 1 the two triangles have no principal partition
abbrev pub NoSkippedLevel : Type 0
NoSkippedLevel = IsPrincipal two_triangles (fraction 7 5 ∷ []) (six 1 1 1 1 1 1 ∷ (six 1 2 3 4 5 6 ∷ [])) → ⊥

-- two vertices and an edge between them
abbrev pub one_edge : WeightedGraph
one_edge = record {
  nodes = 2;
  ends = (0, 1) ∷ [];
  weights = pos 1 ∷ [];
  costs = pos 1 ∷ (pos 1 ∷ []);
  prices = pos 1 ∷ [];
}

abbrev pub two : ℕ → ℕ → List ℕ
two a b = a ∷ (b ∷ [])

abbrev pub EdgePrincipal : Type 0
EdgePrincipal = IsPrincipal one_edge (fraction 1 1 ∷ []) (two 1 1 ∷ (two 1 2 ∷ []))

-- the triangle with different numbers everywhere
abbrev pub uneven : WeightedGraph
uneven = record {
  nodes = 3;
  ends = (0, 1) ∷ ((1, 2) ∷ ((0, 2) ∷ []));
  weights = pos 1 ∷ (pos 2 ∷ (pos 4 ∷ []));
  costs = pos 1 ∷ (pos 5 ∷ (pos 7 ∷ []));
  prices = pos 3 ∷ (pos 9 ∷ (pos 8 ∷ []));
}

-- two vertices without an edge: single vertices are best at every level
abbrev pub two_apart : WeightedGraph
two_apart = record {
  nodes = 2;
  ends = [];
  weights = [];
  costs = pos 1 ∷ (pos 1 ∷ []);
  prices = [];
}

abbrev pub ApartPrincipal : Type 0
ApartPrincipal = IsPrincipal two_apart [] (two 1 2 ∷ [])

-- two edges that do not meet: nothing crosses between them, so the strength is 0
abbrev pub edges_apart : WeightedGraph
edges_apart = record {
  nodes = 4;
  ends = (0, 1) ∷ ((2, 3) ∷ []);
  weights = pos 1 ∷ (pos 1 ∷ []);
  costs = pos 1 ∷ (pos 1 ∷ (pos 1 ∷ (pos 1 ∷ [])));
  prices = pos 1 ∷ (pos 1 ∷ []);
}

abbrev pub four : ℕ → ℕ → ℕ → ℕ → List ℕ
four a b c d = a ∷ (b ∷ (c ∷ (d ∷ [])))

abbrev pub ApartStrength : Type 0
ApartStrength = IsStrength edges_apart (fraction 0 1) (four 1 1 2 2)

-- two edges between the same vertices, the one turned round: both cross
abbrev pub parallel_edges : WeightedGraph
parallel_edges = record {
  nodes = 2;
  ends = (0, 1) ∷ ((1, 0) ∷ []);
  weights = pos 2 ∷ (pos 3 ∷ []);
  costs = pos 1 ∷ (pos 1 ∷ []);
  prices = pos 1 ∷ (pos 1 ∷ []);
}

abbrev pub ParallelStrength : Type 0
ParallelStrength = IsStrength parallel_edges (fraction 5 1) (two 1 2)
