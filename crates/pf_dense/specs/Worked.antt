-- Graphs worked by hand, with what certifies their densest sets.
use Rattle.std.specs.Prelude.{◌≡◌, ℕ, pos, Bool, true, false, List, [], ◌∷◌}
use Rattle.pf_model.specs.Fraction.{Fraction}
use Rattle.pf_graph.specs.WeightedGraph.{WeightedGraph}
use Rattle.pf_dense.specs.Densest.{IsDensest, weight_inside, cost_within}
use Rattle.pf_dense.specs.Certificate.{CertifiesDense}

abbrev pub fraction : ℕ → ℕ → Fraction
fraction p q = record { p = pos p; q = pos q }

abbrev pub three : Bool → Bool → Bool → List Bool
three a b c = a ∷ (b ∷ (c ∷ []))

abbrev pub four : Bool → Bool → Bool → Bool → List Bool
four a b c d = a ∷ (b ∷ (c ∷ (d ∷ [])))

-- a triangle, and a vertex that one edge joins to it
abbrev pub tailed_triangle : WeightedGraph
tailed_triangle = record {
  nodes = 4;
  ends = (0, 1) ∷ ((1, 2) ∷ ((0, 2) ∷ ((2, 3) ∷ [])));
  weights = pos 1 ∷ (pos 1 ∷ (pos 1 ∷ (pos 1 ∷ [])));
  costs = pos 1 ∷ (pos 1 ∷ (pos 1 ∷ (pos 1 ∷ [])));
  prices = pos 1 ∷ (pos 1 ∷ (pos 1 ∷ (pos 1 ∷ [])));
}

-- it has the triangle's density
abbrev pub TiedTriangle : Type 0
TiedTriangle = CertifiesDense tailed_triangle (fraction 1 1) (four true true true true) (pos 1 ∷ (pos 1 ∷ (pos 1 ∷ (pos 0 ∷ []))))

-- so the triangle alone is not the answer
abbrev pub TriangleAlone : Type 0
TriangleAlone = IsDensest tailed_triangle (fraction 1 1) (four true true true false) → ⊥

-- three vertices without edges
abbrev pub no_edges : WeightedGraph
no_edges = record {
  nodes = 3;
  ends = [];
  weights = [];
  costs = pos 1 ∷ (pos 1 ∷ (pos 1 ∷ []));
  prices = [];
}

abbrev pub NoEdges : Type 0
NoEdges = CertifiesDense no_edges (fraction 0 1) (three true true true) []

-- two edges, of which the heavier one ends at the last vertex, and the cost of that vertex
abbrev pub two_edges : ℕ → WeightedGraph
two_edges cost = record {
  nodes = 3;
  ends = (0, 1) ∷ ((1, 2) ∷ []);
  weights = pos 2 ∷ (pos 3 ∷ []);
  costs = pos 1 ∷ (pos 1 ∷ (pos cost ∷ []));
  prices = pos 1 ∷ (pos 1 ∷ []);
}

-- where it costs 1 all vertices are densest, and where it costs 5 it is left out
abbrev pub CheapVertex : Type 0
CheapVertex = CertifiesDense (two_edges 1) (fraction 5 3) (three true true true) (pos 10 ∷ (pos 8 ∷ []))

abbrev pub DearVertex : Type 0
DearVertex = CertifiesDense (two_edges 5) (fraction 1 1) (three true true false) (pos 2 ∷ (pos 0 ∷ []))

-- with all vertices, or with one charge more, nothing is certified
abbrev pub DearVertexKept : Type 0
DearVertexKept = IsDensest (two_edges 5) (fraction 5 3) (three true true true) → ⊥

abbrev pub WrongCharge : Type 0
WrongCharge = CertifiesDense (two_edges 5) (fraction 1 1) (three true true false) (pos 3 ∷ (pos 0 ∷ [])) → ⊥

-- the weight inside and the cost of all vertices
abbrev pub DearNumbers : Type 0
DearNumbers = (weight_inside (two_edges 5) (three true true true) ≡ pos 5) × (cost_within (two_edges 5) (three true true true) ≡ pos 7)
