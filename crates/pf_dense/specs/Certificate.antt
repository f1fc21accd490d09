-- What certifies a densest set: a charge of each edge to its ends, and the vertices that these charges drop.
use Rattle.std.specs.Prelude.{◌≡◌, ℕ, ◌<◌, ℤ, ◌+ℤ◌, ◌-ℤ◌, ◌*ℤ◌, ◌≤ℤ◌, ◌<ℤ◌, pos, Bool, true, not, List, [], ◌∷◌, length, slice_index_or}
use Rattle.pf_model.specs.Fraction.{Fraction, IsParameter}
use Rattle.pf_model.specs.Cut.{has, at_arc, IsContained}
use Rattle.pf_model.specs.Flow.{sum_out, sum_in}
use Rattle.pf_graph.specs.WeightedGraph.{WeightedGraph}
use Rattle.pf_dense.specs.Densest.{IsNonempty}

-- the two ends of edge i
abbrev pub first_end : WeightedGraph → ℕ → ℕ
first_end g i = (slice_index_or g.ends i (0, 0)).0

abbrev pub second_end : WeightedGraph → ℕ → ℕ
second_end g i = (slice_index_or g.ends i (0, 0)).1

-- at the density p/q, in units of 1/(2q): what an edge of this weight charges its two ends together
abbrev pub whole_charge : Fraction → ℤ → ℤ
whole_charge x weight = pos 2 *ℤ (x.q *ℤ weight)

-- beside each edge, the rest that it charges its second end, where it charges its first end the given number
abbrev pub second_charges : Fraction → List ℤ → List ℤ → List ℤ
second_charges x [] charges = []
second_charges x (weight ∷ weights) [] = []
second_charges x (weight ∷ weights) (charge ∷ charges) = (whole_charge x weight -ℤ charge) ∷ second_charges x weights charges

abbrev pub second_charge : WeightedGraph → Fraction → List ℤ → ℕ → ℤ
second_charge g x charges i = at_arc (second_charges x g.weights charges) i

-- what all edges charge a vertex, and what they may charge it
abbrev pub charged : WeightedGraph → Fraction → List ℤ → ℕ → ℤ
charged g x charges v = sum_out g.ends charges v +ℤ sum_in g.ends (second_charges x g.weights charges) v

abbrev pub allowance : WeightedGraph → Fraction → ℕ → ℤ
allowance g x v = pos 2 *ℤ (x.p *ℤ at_arc g.costs v)

-- one charge per edge, which leaves neither end a charge below 0
pub record AreCharges (g : WeightedGraph) (x : Fraction) (charges : List ℤ) : Type 0 where
  pub full : length charges ≡ length g.ends
  pub low : (i : ℕ) → i < length g.ends → pos 0 ≤ℤ at_arc charges i
  pub high : (i : ℕ) → i < length g.ends → at_arc charges i ≤ℤ whole_charge x (at_arc g.weights i)

-- no vertex is charged more than it may be
pub record AreWithin (g : WeightedGraph) (x : Fraction) (charges : List ℤ) : Type 0 where
  pub most : (v : ℕ) → v < g.nodes → charged g x charges v ≤ℤ allowance g x v

-- The rules of dropping. A vertex that is charged less than it may be is dropped; so is an edge with a dropped end, and an end that a
-- dropped edge charges more than 0.
pub record KeepsRules (g : WeightedGraph) (x : Fraction) (charges : List ℤ) (vertices edges : List Bool) : Type 0 where
  pub strict : (v : ℕ) → v < g.nodes → charged g x charges v <ℤ allowance g x v → has vertices v ≡ true
  pub edge_by_first : (i : ℕ) → i < length g.ends → has vertices (first_end g i) ≡ true → has edges i ≡ true
  pub edge_by_second : (i : ℕ) → i < length g.ends → has vertices (second_end g i) ≡ true → has edges i ≡ true
  pub first_by_edge : (i : ℕ) → i < length g.ends → has edges i ≡ true → pos 0 <ℤ at_arc charges i → has vertices (first_end g i) ≡ true
  pub second_by_edge : (i : ℕ) → i < length g.ends → has edges i ≡ true → pos 0 <ℤ second_charge g x charges i →
      has vertices (second_end g i) ≡ true

-- the least vertices and edges that keep them
pub record AreDropped (g : WeightedGraph) (x : Fraction) (charges : List ℤ) (vertices edges : List Bool) : Type 0 where
  pub rules : KeepsRules g x charges vertices edges
  pub least_vertices : (vertices' edges' : List Bool) → KeepsRules g x charges vertices' edges' → IsContained vertices vertices'
  pub least_edges : (vertices' edges' : List Bool) → KeepsRules g x charges vertices' edges' → IsContained edges edges'

-- no vertex is charged more than it may be, and the set is that of the vertices not dropped, of which there is one
pub record CertifiesDense (g : WeightedGraph) (x : Fraction) (set : List Bool) (charges : List ℤ) : Type 0 where
  pub parameter : IsParameter x
  pub charges_are : AreCharges g x charges
  pub within : AreWithin g x charges
  pub vertices : List Bool
  pub edges : List Bool
  pub dropped : AreDropped g x charges vertices edges
  pub full : length set ≡ g.nodes
  pub rest : (v : ℕ) → v < g.nodes → has set v ≡ not (has vertices v)
  pub some : IsNonempty set
