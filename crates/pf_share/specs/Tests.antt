-- The parts of the certificate of shares, each of which one function tests.
use Rattle.std.specs.Prelude.{◌≡◌, ◌≢◌, ℕ, suc, ◌+◌, ◌*◌, ◌<◌, ◌≤◌, ◌^◌, ℤ, ◌+ℤ◌, ◌-ℤ◌, ◌*ℤ◌, ◌≤ℤ◌, pos, neg_ℤ, Bool, true, not, ◌&&◌, ◌==◌, if◌then◌else◌, List, length, take}
use Rattle.pf_model.specs.Fraction.{Fraction, IsParameter, IsBelow}
use Rattle.pf_model.specs.Cut.{at_arc, sum_where}
use Rattle.pf_model.specs.Flow.{sum_out}
use Rattle.pf_share.specs.Problem.{ShareProblem, tail_of, head_of}
use Rattle.pf_share.specs.Certificate.{SharesAnswer, level_at, group_at, node_level, is_lower, entering, HasSource}

-- level j, from 0, is not below 0, and is above the one before it
pub record IsLevel (levels : List Fraction) (j : ℕ) : Type 0 where
  pub parameter : IsParameter (level_at levels (suc j))
  pub low : pos 0 ≤ℤ (level_at levels (suc j)).p
  pub above : (i : ℕ) → suc i ≡ j → IsBelow (level_at levels (suc i)) (level_at levels (suc j))

-- the node is a source of the group
pub record IsSourceOf (p : ShareProblem) (groups : List ℤ) (group node : ℕ) : Type 0 where
  pub source : pos 1 ≤ℤ at_arc p.weights node
  pub group_is : group_at groups node ≡ group

-- each group but group 0 has a source
pub record HaveSources (p : ShareProblem) (count : ℕ) (groups : List ℤ) : Type 0 where
  pub each : (j : ℕ) → j < count → HasSource p groups (suc j)

-- a number is from 0 to the whole capacity: the whole of it upward, and 0 downward
pub record IsRight (number whole : ℤ) (up down : Bool) : Type 0 where
  pub low : pos 0 ≤ℤ number
  pub high : number ≤ℤ whole
  pub upward : up ≡ true → number ≡ whole
  pub downward : down ≡ true → number ≡ pos 0

-- the number on arc i is such a one, by the groups of its ends
abbrev pub whole_of : ShareProblem → SharesAnswer → ℕ → ℕ → ℤ
whole_of p a i v = at_arc p.capacities i *ℤ (node_level a.levels a.groups v).q

pub record AreRight (p : ShareProblem) (a : SharesAnswer) (count : ℕ) : Type 0 where
  pub each : (i : ℕ) → i < count → IsRight (at_arc a.flow i) (whole_of p a i (tail_of p i)) (is_lower a.levels a.groups (tail_of p i) (head_of p i))
      (is_lower a.levels a.groups (head_of p i) (tail_of p i))

-- what arc i brings to its head, in the unit of the head's group
abbrev pub brought : ShareProblem → SharesAnswer → ℕ → ℤ
brought p a i = if is_lower a.levels a.groups (tail_of p i) (head_of p i) then whole_of p a i (head_of p i) else at_arc a.flow i

-- what each node is to have as its share, in the first places, with its sign turned
pub record AreOwn (p : ShareProblem) (a : SharesAnswer) (count : ℕ) (sums : List ℤ) : Type 0 where
  pub each : (v : ℕ) → v < count → at_arc sums v ≡ neg_ℤ ((node_level a.levels a.groups v).p *ℤ at_arc p.weights v)
  pub low : (v : ℕ) → v < count → neg_ℤ (pos (2 ^ 105)) ≤ℤ at_arc sums v
  pub high : (v : ℕ) → v < count → at_arc sums v ≤ℤ pos (2 ^ 105)

-- what enters a node by the first arcs, and its share
abbrev pub first_entering : ShareProblem → SharesAnswer → ℕ → ℕ → ℤ
first_entering p a k v =
    ((node_level a.levels a.groups v).p *ℤ at_arc p.weights v)
    +ℤ (sum_where (λ arc. (arc.1 == v) && not (is_lower a.levels a.groups arc.0 v)) (take k p.ends) (take k a.flow)
    +ℤ (sum_where (λ arc. (arc.1 == v) && is_lower a.levels a.groups arc.0 v) (take k p.ends) (take k p.capacities) *ℤ (node_level a.levels a.groups v).q))

-- what leaves each node by the first arcs less what enters it
pub record AreFirstBalances (p : ShareProblem) (a : SharesAnswer) (k : ℕ) (sums : List ℤ) : Type 0 where
  pub places : p.nodes ≤ length sums
  pub each : (v : ℕ) → v < p.nodes →
      at_arc sums v ≡ sum_where (λ arc. arc.0 == v) (take k p.ends) (take k a.flow) -ℤ first_entering p a k v
  pub low : (v : ℕ) → v < p.nodes → neg_ℤ (pos ((k + 1) * 2 ^ 105)) ≤ℤ at_arc sums v
  pub high : (v : ℕ) → v < p.nodes → at_arc sums v ≤ℤ pos ((k + 1) * 2 ^ 105)

-- the same of all arcs
pub record AreBalances (p : ShareProblem) (a : SharesAnswer) (sums : List ℤ) : Type 0 where
  pub each : (v : ℕ) → v < p.nodes → at_arc sums v ≡ sum_out p.ends a.flow v -ℤ entering p a v

-- as much leaves each of the first nodes as enters it, save the sink
pub record AreKept (p : ShareProblem) (a : SharesAnswer) : Type 0 where
  pub each : (v : ℕ) → v < p.nodes → v ≢ p.sink → entering p a v ≡ sum_out p.ends a.flow v

-- the first numbers are 0, save the sink's
pub record AreZero (sink : ℕ) (sums : List ℤ) (count : ℕ) : Type 0 where
  pub each : (v : ℕ) → v < count → v ≢ sink → at_arc sums v ≡ pos 0
