-- Sharing a network: sources with weights push through it into one sink, and what each of them may push is to be fair by weight.
use Rattle.std.specs.Prelude.{◌≡◌, ◌≢◌, ℕ, ◌<◌, ◌≤◌, ℤ, ◌+ℤ◌, ◌*ℤ◌, ◌≤ℤ◌, ◌<ℤ◌, pos, List, length, map, slice_index_or}
use Rattle.pf_model.specs.Fraction.{Fraction, IsParameter, IsAtMost}
use Rattle.pf_model.specs.Cut.{at_arc}
use Rattle.pf_model.specs.Flow.{sum_out, sum_in}

-- Nodes are numbered from 0. Each has a weight, which is above 0 at a source, and 0 at every other node. An arc is the pair of its
-- tail and its head; beside it stands its capacity.
pub record ShareProblem : Type 0 where
  pub nodes : ℕ
  pub sink : ℕ
  pub weights : List ℤ
  pub ends : List (ℕ × ℕ)
  pub capacities : List ℤ

-- the tail and the head of arc i
abbrev pub tail_of : ShareProblem → ℕ → ℕ
tail_of p i = (slice_index_or p.ends i (0, 0)).0

abbrev pub head_of : ShareProblem → ℕ → ℕ
head_of p i = (slice_index_or p.ends i (0, 0)).1

-- the sink is a node and no source, each end is a node, and no weight and no capacity is below 0
pub record IsShareProblem (p : ShareProblem) : Type 0 where
  pub sink : p.sink < p.nodes
  pub weights_full : length p.weights ≡ p.nodes
  pub capacities_full : length p.capacities ≡ length p.ends
  pub weight_low : (v : ℕ) → v < p.nodes → pos 0 ≤ℤ at_arc p.weights v
  pub sink_weight : at_arc p.weights p.sink ≡ pos 0
  pub tails : (i : ℕ) → i < length p.ends → tail_of p i < p.nodes
  pub heads : (i : ℕ) → i < length p.ends → head_of p i < p.nodes
  pub capacity_low : (i : ℕ) → i < length p.ends → pos 0 ≤ℤ at_arc p.capacities i

-- how many nodes and arcs there may be, and the sizes of their numbers
pub record IsBoundedSharing (p : ShareProblem) : Type 0 where
  pub problem : IsShareProblem p
  pub few_nodes : p.nodes ≤ 1000
  pub few_arcs : length p.ends ≤ 10000
  pub weight_high : (v : ℕ) → v < p.nodes → at_arc p.weights v ≤ℤ pos 1000000
  pub capacity_high : (i : ℕ) → i < length p.ends → at_arc p.capacities i ≤ℤ pos 1000000000

-- the problem with these weights and capacities
abbrev pub sharing_of : ℕ → List ℕ → List (ℕ × ℕ) → List ℕ → ShareProblem
sharing_of sink weights ends capacities = record {
  nodes = length weights;
  sink = sink;
  weights = map pos weights;
  ends = ends;
  capacities = map pos capacities;
}

-- A vector of shares has a number for each node: what enters the network there, and 0 where no source stands. In units of 1/u it is
-- carried by a flow from 0 to the capacities, where at every node but the sink as much leaves as enters.
pub record IsCarried (p : ShareProblem) (u : ℤ) (shares flow : List ℤ) : Type 0 where
  pub full : length flow ≡ length p.ends
  pub low : (i : ℕ) → i < length p.ends → pos 0 ≤ℤ at_arc flow i
  pub high : (i : ℕ) → i < length p.ends → at_arc flow i ≤ℤ (at_arc p.capacities i *ℤ u)
  pub kept : (v : ℕ) → v < p.nodes → v ≢ p.sink → at_arc shares v +ℤ sum_in p.ends flow v ≡ sum_out p.ends flow v

-- it is feasible where none of its numbers is below 0 and some flow carries it
pub record IsFeasible (p : ShareProblem) (u : ℤ) (shares : List ℤ) : Type 0 where
  pub full : length shares ≡ p.nodes
  pub low : (v : ℕ) → v < p.nodes → pos 0 ≤ℤ at_arc shares v
  pub sources : (v : ℕ) → v < p.nodes → at_arc p.weights v ≡ pos 0 → at_arc shares v ≡ pos 0
  pub flow : List ℤ
  pub carried : IsCarried p u shares flow

-- shares as fractions, one for each node
abbrev pub no_share : Fraction
no_share = record { p = pos 0; q = pos 1 }

abbrev pub share_at : List Fraction → ℕ → Fraction
share_at shares v = slice_index_or shares v no_share

-- the numbers are these shares, in units of 1/u
pub record IsInUnit (p : ShareProblem) (u : ℤ) (shares : List Fraction) (numbers : List ℤ) : Type 0 where
  pub unit : pos 1 ≤ℤ u
  pub full : length numbers ≡ p.nodes
  pub each : (v : ℕ) → v < p.nodes → at_arc numbers v *ℤ (share_at shares v).q ≡ u *ℤ (share_at shares v).p

-- the level of the node v: its share by its weight
abbrev pub level_of : ShareProblem → List Fraction → ℕ → Fraction
level_of p shares v = record { p = (share_at shares v).p; q = (share_at shares v).q *ℤ at_arc p.weights v }

-- some source, of a level that is at most that of i, has less in the other vector
pub record HasLess (p : ShareProblem) (shares : List Fraction) (numbers other : List ℤ) (i : ℕ) : Type 0 where
  pub node : ℕ
  pub there : node < p.nodes
  pub source : pos 1 ≤ℤ at_arc p.weights node
  pub level : IsAtMost (level_of p shares node) (level_of p shares i)
  pub less : at_arc other node <ℤ at_arc numbers node

-- Weighted max-min fair shares: they are feasible, and a source has more in another feasible vector only where a source of at most its
-- level has less.
pub record IsFair (p : ShareProblem) (shares : List Fraction) : Type 0 where
  pub full : length shares ≡ p.nodes
  pub parameters : (v : ℕ) → v < p.nodes → IsParameter (share_at shares v)
  pub unit : ℤ
  pub numbers : List ℤ
  pub whole : IsInUnit p unit shares numbers
  pub feasible : IsFeasible p unit numbers
  pub fair : (u : ℤ) (numbers other : List ℤ) → IsInUnit p u shares numbers → IsFeasible p u other → (i : ℕ) → i < p.nodes →
      at_arc numbers i <ℤ at_arc other i → HasLess p shares numbers other i
