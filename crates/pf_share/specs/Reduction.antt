-- The parametric network of a sharing: a source feeds each node in proportion to its weight. The nodes keep their numbers, and the source
-- follows them; the arcs keep their numbers, and those of the source follow them.
use Rattle.std.specs.Prelude.{◌≡◌, ◌≢◌, ℕ, suc, ◌+◌, ◌-◌, ◌<◌, ◌≤◌, ℤ, pos, Bool, true, false, ◌==◌, ◌⊎◌, if◌then◌else◌, List, [], ◌∷◌, ◌++◌, length, slice_index_or}
use Rattle.pf_model.specs.declared.AffineArc.{AffineArc}
use Rattle.pf_model.specs.declared.Sense.TheVariants.{Rising}
use Rattle.pf_model.specs.Fraction.{Fraction}
use Rattle.pf_model.specs.Answer.{Curve}
use Rattle.pf_model.specs.Cut.{has, at_arc}
use Rattle.pf_model.specs.Network.{Network}
use Rattle.pf_model.specs.Curve.{point_at, cut_at, flow_at}
use Rattle.pf_share.specs.Problem.{ShareProblem, no_share, tail_of}
use Rattle.pf_share.specs.Certificate.{SharesAnswer, level_at}

-- an arc of the problem, which is constant
abbrev pub flow_arc : ℕ × ℕ → ℤ → AffineArc
flow_arc ends capacity = record { tail = ends.0; head = ends.1; a = capacity; b = pos 0 }

-- from the source to a node, by its weight
abbrev pub source_arc : ℕ → ℕ → ℤ → AffineArc
source_arc source v weight = record { tail = source; head = v; a = pos 0; b = weight }

abbrev pub flow_arcs : List (ℕ × ℕ) → List ℤ → List AffineArc
flow_arcs [] capacities = []
flow_arcs (arc ∷ ends) [] = []
flow_arcs (arc ∷ ends) (c ∷ capacities) = flow_arc arc c ∷ flow_arcs ends capacities

-- the first number is that of the first node
abbrev pub source_arcs : ℕ → ℕ → List ℤ → List AffineArc
source_arcs source v [] = []
source_arcs source v (w ∷ weights) = source_arc source v w ∷ source_arcs source (suc v) weights

-- above all levels: more than all capacities together, for a weight of at least 1
abbrev pub highest : Fraction
highest = record { p = pos 10000000000001; q = pos 1 }

abbrev pub share_net : ShareProblem → Network
share_net p = record {
  nodes = suc p.nodes;
  source = p.nodes;
  sink = p.sink;
  sense = Rising;
  low = no_share;
  high = highest;
  arcs = flow_arcs p.ends p.capacities ++ source_arcs p.nodes 0 p.weights;
}

-- the first cut that holds the node, or the number of cuts
pub record IsJoin (cuts : List (List Bool)) (v j : ℕ) : Type 0 where
  pub within : j ≤ length cuts
  pub before : (i : ℕ) → i < j → has (cut_at cuts i) v ≡ false
  pub at : j < length cuts → has (cut_at cuts j) v ≡ true

abbrev pub join_at : List ℕ → ℕ → ℕ
join_at joins v = slice_index_or joins v 0

-- the same of each node
pub record AreJoins (cuts : List (List Bool)) (joins : List ℕ) (count : ℕ) : Type 0 where
  pub full : length joins ≡ count
  pub each : (v : ℕ) → v < count → IsJoin cuts v (join_at joins v)

-- the first point that is a level: 0 where some node is in the first cut, and else 1
pub record IsSomeJoin (joins : List ℕ) (j : ℕ) : Type 0 where
  pub node : ℕ
  pub there : node < length joins
  pub join_is : join_at joins node ≡ j

pub record IsNoJoin (joins : List ℕ) (count j : ℕ) : Type 0 where
  pub each : (v : ℕ) → v < count → join_at joins v ≢ j

abbrev pub IsFirst : List ℕ → ℕ → Type 0
IsFirst joins first = ((first ≡ 0) × IsSomeJoin joins 0) ⊎ ((first ≡ 1) × IsNoJoin joins (length joins) 0)

-- the points from the first level on, so many of them
pub record AreLevelsOf (p : ShareProblem) (points levels : List Fraction) (first count : ℕ) : Type 0 where
  pub full : length levels ≡ count
  pub each : (j : ℕ) → j < count → level_at levels (suc j) ≡ point_at (share_net p) points (first + j)

-- the group of a node that joins there; there are so many cuts
abbrev pub group_of : ℕ → ℕ → ℕ → ℕ
group_of first count join = if join == count then 0 else suc join - first

pub record AreGroupsOf (joins : List ℕ) (first cuts : ℕ) (groups : List ℤ) (count : ℕ) : Type 0 where
  pub full : length groups ≡ count
  pub each : (v : ℕ) → v < count → at_arc groups v ≡ pos (group_of first cuts (join_at joins v))

-- the number on an arc is that of the flow at the point where its tail joins
pub record IsFlowOf (p : ShareProblem) (flows : List (List ℤ)) (joins : List ℕ) (flow : List ℤ) (count : ℕ) : Type 0 where
  pub full : length flow ≡ count
  pub each : (i : ℕ) → i < count → at_arc flow i ≡ at_arc (flow_at flows (join_at joins (tail_of p i))) i

-- all of it
pub record IsReadOff (p : ShareProblem) (curve : Curve) (a : SharesAnswer) : Type 0 where
  pub joins : List ℕ
  pub first : ℕ
  pub joins_are : AreJoins curve.cuts joins p.nodes
  pub first_is : IsFirst joins first
  pub levels : AreLevelsOf p curve.points a.levels first (length a.levels)
  pub count : first + length a.levels ≡ length curve.cuts
  pub groups : AreGroupsOf joins first (length curve.cuts) a.groups p.nodes
  pub flow : IsFlowOf p curve.flows joins a.flow (length p.ends)

-- each cut has a truth value for the node
pub record AreWide (v : ℕ) (cuts : List (List Bool)) : Type 0 where
  pub each : (i : ℕ) → i < length cuts → v < length (cut_at cuts i)
