-- What certifies fair shares: levels, a group for each node, and a flow whose number on an arc is in the unit of its tail's group.
use Rattle.std.specs.Prelude.{◌≡◌, ◌≢◌, ℕ, suc, ◌<◌, ℤ, ◌+ℤ◌, ◌*ℤ◌, ◌≤ℤ◌, pos, Bool, not, ◌&&◌, ◌==◌, nat_lt, nat_abs, if◌then◌else◌, List, [], ◌∷◌, length, slice_index_or}
use Rattle.pf_model.specs.Fraction.{Fraction, IsParameter, IsBelow}
use Rattle.pf_model.specs.Cut.{at_arc, sum_where}
use Rattle.pf_model.specs.Flow.{sum_out}
use Rattle.pf_share.specs.Problem.{ShareProblem, no_share, tail_of, head_of, IsFair}

-- levels, which are numbered from 1, the number of a level for each node, or 0, and a number for each arc
pub record SharesAnswer : Type 0 where
  pub levels : List Fraction
  pub groups : List ℤ
  pub flow : List ℤ

-- the level of group j; that of group 0 has denominator 1
abbrev pub level_at : List Fraction → ℕ → Fraction
level_at levels j = slice_index_or (no_share ∷ levels) j no_share

-- the group of a node
abbrev pub group_at : List ℤ → ℕ → ℕ
group_at groups v = nat_abs (at_arc groups v)

-- the level of a node's group
abbrev pub node_level : List Fraction → List ℤ → ℕ → Fraction
node_level levels groups v = level_at levels (group_at groups v)

-- the place of a group in the order of groups, of which there are so many: group 0 is the highest
abbrev pub rank_of : ℕ → ℕ → ℕ
rank_of count group = if group == 0 then suc count else group

abbrev pub rank_at : List Fraction → List ℤ → ℕ → ℕ
rank_at levels groups v = rank_of (length levels) (group_at groups v)

-- the group of the first node is lower than that of the second
abbrev pub is_lower : List Fraction → List ℤ → ℕ → ℕ → Bool
is_lower levels groups u v = nat_lt (rank_at levels groups u) (rank_at levels groups v)

-- What enters a node, in units of 1/q of its own group: its share, the numbers on the arcs that come from its group or from higher
-- ones, and the capacities of those that come from lower groups.
abbrev pub entering : ShareProblem → SharesAnswer → ℕ → ℤ
entering p a v =
    ((node_level a.levels a.groups v).p *ℤ at_arc p.weights v)
    +ℤ (sum_where (λ arc. (arc.1 == v) && not (is_lower a.levels a.groups arc.0 v)) p.ends a.flow
    +ℤ (sum_where (λ arc. (arc.1 == v) && is_lower a.levels a.groups arc.0 v) p.ends p.capacities *ℤ (node_level a.levels a.groups v).q))

-- levels that are not below 0 and rise strictly
pub record AreLevels (levels : List Fraction) : Type 0 where
  pub parameters : (j : ℕ) → j < length levels → IsParameter (level_at levels (suc j))
  pub low : (j : ℕ) → j < length levels → pos 0 ≤ℤ (level_at levels (suc j)).p
  pub rise : (j : ℕ) → suc j < length levels → IsBelow (level_at levels (suc j)) (level_at levels (suc (suc j)))

-- a source is in the group
pub record HasSource (p : ShareProblem) (groups : List ℤ) (group : ℕ) : Type 0 where
  pub node : ℕ
  pub there : node < p.nodes
  pub source : pos 1 ≤ℤ at_arc p.weights node
  pub group_is : group_at groups node ≡ group

-- a group for each node, of those that there are; each but group 0 has a source, and group 0 has none, but the sink
pub record AreGroups (p : ShareProblem) (count : ℕ) (groups : List ℤ) : Type 0 where
  pub full : length groups ≡ p.nodes
  pub low : (v : ℕ) → v < p.nodes → pos 0 ≤ℤ at_arc groups v
  pub high : (v : ℕ) → v < p.nodes → at_arc groups v ≤ℤ pos count
  pub sources : (v : ℕ) → v < p.nodes → pos 1 ≤ℤ at_arc p.weights v → pos 1 ≤ℤ at_arc groups v
  pub some : (j : ℕ) → j < count → HasSource p groups (suc j)
  pub sink : at_arc groups p.sink ≡ pos 0

-- A number for each arc, from 0 to its capacity in the unit of its tail's group: the whole capacity where the head's group is higher, and
-- 0 where it is lower. At every node but the sink as much leaves as enters.
pub record IsGroupFlow (p : ShareProblem) (a : SharesAnswer) : Type 0 where
  pub full : length a.flow ≡ length p.ends
  pub low : (i : ℕ) → i < length p.ends → pos 0 ≤ℤ at_arc a.flow i
  pub high : (i : ℕ) → i < length p.ends →
      at_arc a.flow i ≤ℤ (at_arc p.capacities i *ℤ (node_level a.levels a.groups (tail_of p i)).q)
  pub upward : (i : ℕ) → i < length p.ends → rank_at a.levels a.groups (tail_of p i) < rank_at a.levels a.groups (head_of p i) →
      at_arc a.flow i ≡ at_arc p.capacities i *ℤ (node_level a.levels a.groups (tail_of p i)).q
  pub downward : (i : ℕ) → i < length p.ends → rank_at a.levels a.groups (head_of p i) < rank_at a.levels a.groups (tail_of p i) →
      at_arc a.flow i ≡ pos 0
  pub kept : (v : ℕ) → v < p.nodes → v ≢ p.sink → entering p a v ≡ sum_out p.ends a.flow v

pub record CertifiesShares (p : ShareProblem) (a : SharesAnswer) : Type 0 where
  pub levels : AreLevels a.levels
  pub groups : AreGroups p (length a.levels) a.groups
  pub flow : IsGroupFlow p a

-- the share of each node: its level times its weight
abbrev pub share_of : Fraction → ℤ → Fraction
share_of level weight = record { p = level.p *ℤ weight; q = level.q }

abbrev pub shares_of : List Fraction → List ℤ → List ℤ → List Fraction
shares_of levels [] groups = []
shares_of levels (w ∷ weights) [] = []
shares_of levels (w ∷ weights) (g ∷ groups) = share_of (level_at levels (nat_abs g)) w ∷ shares_of levels weights groups

-- the levels of the groups are fair
pub record IsBestShares (p : ShareProblem) (a : SharesAnswer) : Type 0 where
  pub fair : IsFair p (shares_of a.levels p.weights a.groups)
