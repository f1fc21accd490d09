-- Texts of the kind `graph`: edges with weights, and where lines give them, costs of vertices and prices of edges.
use Rattle.std.specs.Prelude.{ℕ, ◌-◌, ◌==◌, List, [], ◌∷◌, ◌++◌, ℤ, pos, nat_abs, Bool, true, false, replicate, slice_set, Result, Ok, codes}
use Rattle.pf_model.specs.Cut.{has}
use Rattle.pf_text.specs.declared.RuleKind.{RuleKind}
use Rattle.pf_text.specs.declared.RuleKind.TheVariants.{Repeated, Loop}
use Rattle.pf_text.specs.Kinds.{FieldPattern, number, word, Form, Kind, broken_if}
use Rattle.pf_graph.specs.declared.graph.Task.{Task}
use Rattle.pf_graph.specs.WeightedGraph.{WeightedGraph}
use Rattle.pf_graph.specs.Limits.{least_vertices, most_vertices, most_edges}

-- a number for each place, which is 1 until a line gives one; and which places a line gave one
pub record SlotNumbers : Type 0 where
  pub numbers : List ℤ
  pub given : List Bool

abbrev pub ones : ℕ → SlotNumbers
ones count = record { numbers = replicate count (pos 1); given = replicate count false }

abbrev pub put_slot : SlotNumbers → ℕ → ℤ → SlotNumbers
put_slot slots i x = record { numbers = slice_set slots.numbers i x; given = slice_set slots.given i true }

-- a cost for each vertex, and a price for each edge that the header counts; the ends and the weights of the edges so far
pub record Given : Type 0 where
  pub costs : SlotNumbers
  pub prices : SlotNumbers
  pub ends : List (ℕ × ℕ)
  pub weights : List ℤ

abbrev pub nothing_given : ℕ → ℕ → Given
nothing_given vertices edges = record { costs = ones vertices; prices = ones edges; ends = []; weights = [] }

-- the number of vertices in a header's numbers, and the number of edges
abbrev pub vertex_count : List ℤ → ℕ
vertex_count [] = 0
vertex_count (n ∷ others) = nat_abs n

abbrev pub edge_count : List ℤ → ℕ
edge_count (n ∷ m ∷ others) = nat_abs m
edge_count numbers = 0

-- texts number vertices and edges from 1, and graphs from 0
abbrev pub vertex_number : List ℤ → FieldPattern
vertex_number header_numbers = number (pos 1) (pos (vertex_count header_numbers))

abbrev pub edge_number : List ℤ → FieldPattern
edge_number header_numbers = number (pos 1) (pos (edge_count header_numbers))

abbrev pub index : ℤ → ℕ
index n = nat_abs n - 1

-- a weight, a cost or a price
abbrev pub amount : FieldPattern
amount = number (pos 1) (pos 1000000)

-- `v ID COST`
abbrev pub vertex_rules : List ℤ → Given → Result Given RuleKind
vertex_rules (v ∷ cost ∷ []) given =
    broken_if (has given.costs.given (index v)) Repeated
    (Ok (record given { costs = put_slot given.costs (index v) cost }))
vertex_rules numbers given = Ok given

abbrev pub vertex_form : List ℤ → Form Given
vertex_form header_numbers = record {
  patterns = word (codes "v") ∷ vertex_number header_numbers ∷ amount ∷ [];
  is_counted = false;
  rules = vertex_rules;
}

-- `k ID PRICE`
abbrev pub price_rules : List ℤ → Given → Result Given RuleKind
price_rules (e ∷ price ∷ []) given =
    broken_if (has given.prices.given (index e)) Repeated
    (Ok (record given { prices = put_slot given.prices (index e) price }))
price_rules numbers given = Ok given

abbrev pub price_form : List ℤ → Form Given
price_form header_numbers = record {
  patterns = word (codes "k") ∷ edge_number header_numbers ∷ amount ∷ [];
  is_counted = false;
  rules = price_rules;
}

-- `e U V W`
abbrev pub edge_rules : List ℤ → Given → Result Given RuleKind
edge_rules (u ∷ v ∷ weight ∷ []) given =
    broken_if (index u == index v) Loop
    (Ok (record given { ends = given.ends ++ (index u, index v) ∷ []; weights = given.weights ++ weight ∷ [] }))
edge_rules numbers given = Ok given

abbrev pub edge_form : List ℤ → Form Given
edge_form header_numbers = record {
  patterns = word (codes "e") ∷ vertex_number header_numbers ∷ vertex_number header_numbers ∷ amount ∷ [];
  is_counted = true;
  rules = edge_rules;
}

-- the graph of what was given
abbrev pub graph_by : List ℤ → Given → WeightedGraph
graph_by header_numbers given = record {
  nodes = vertex_count header_numbers;
  ends = given.ends;
  weights = given.weights;
  costs = given.costs.numbers;
  prices = given.prices.numbers;
}

-- `p graph N M`
abbrev pub graph_header : Task → List FieldPattern
graph_header task =
    number (pos (least_vertices task)) (pos (most_vertices task)) ∷ number (pos 0) (pos (most_edges task)) ∷ []

unfoldable pub graph : Task → Kind Given WeightedGraph
graph task = record {
  name = codes "graph";
  header_patterns = graph_header task;
  count = edge_count;
  forms = λ header_numbers. vertex_form header_numbers ∷ price_form header_numbers ∷ edge_form header_numbers ∷ [];
  start = λ header_numbers. nothing_given (vertex_count header_numbers) (edge_count header_numbers);
  problem = λ header_numbers given. Ok (graph_by header_numbers given);
}
