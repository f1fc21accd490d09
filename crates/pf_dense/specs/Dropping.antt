-- The search for the vertices that charges drop.
use Rattle.std.specs.Prelude.{◌≡◌, ℕ, ◌<◌, ◌≤◌, ℤ, ◌≤ℤ◌, ◌<ℤ◌, int_lt, pos, Bool, true, ◌||◌, List, length, map}
use Rattle.pf_model.specs.Fraction.{Fraction}
use Rattle.pf_model.specs.Cut.{has, at_arc}
use Rattle.pf_ratio.specs.declared.link.Link.{Link}
use Rattle.pf_graph.specs.WeightedGraph.{WeightedGraph}
use Rattle.pf_dense.specs.Certificate.{first_end, second_end, whole_charge, second_charge, charged, allowance, AreDropped}

-- the first charges leave neither end a charge below 0
pub record AreChargesTo (g : WeightedGraph) (x : Fraction) (charges : List ℤ) (count : ℕ) : Type 0 where
  pub low : (i : ℕ) → i < count → pos 0 ≤ℤ at_arc charges i
  pub high : (i : ℕ) → i < count → at_arc charges i ≤ℤ whole_charge x (at_arc g.weights i)

-- beside each vertex stands what it is charged
pub record HasCharged (g : WeightedGraph) (x : Fraction) (charges sums : List ℤ) : Type 0 where
  pub places : g.nodes ≤ length sums
  pub each : (v : ℕ) → v < g.nodes → at_arc sums v ≡ charged g x charges v

-- the first vertices are charged no more than they may be
pub record AreAllowed (g : WeightedGraph) (x : Fraction) (sums : List ℤ) (count : ℕ) : Type 0 where
  pub most : (v : ℕ) → v < count → at_arc sums v ≤ℤ allowance g x v

-- just those of the first vertices are marked that are charged less than they may be
pub record IsStart (g : WeightedGraph) (x : Fraction) (sums : List ℤ) (count : ℕ) (marks : List Bool) : Type 0 where
  pub strict : (v : ℕ) → v < count → at_arc sums v <ℤ allowance g x v → has marks v ≡ true
  pub only : (v : ℕ) → has marks v ≡ true → v < count
  pub below : (v : ℕ) → has marks v ≡ true → at_arc sums v <ℤ allowance g x v

-- edge i as a link: each end is dropped with the other one where the edge charges it something
abbrev pub edge_link : WeightedGraph → Fraction → List ℤ → ℕ → Link
edge_link g x charges i = record {
  first = first_end g i;
  second = second_end g i;
  to_first = int_lt (pos 0) (at_arc charges i);
  to_second = int_lt (pos 0) (second_charge g x charges i);
}

-- the edges with a marked end
abbrev pub edges_at : WeightedGraph → List Bool → List Bool
edges_at g marks = map (λ edge. has marks edge.0 || has marks edge.1) g.ends

-- the marked vertices are the dropped ones
abbrev pub IsDroppedBy : WeightedGraph → Fraction → List ℤ → List Bool → Type 0
IsDroppedBy g x charges marks = AreDropped g x charges marks (edges_at g marks)
