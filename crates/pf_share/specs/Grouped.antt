-- The network in which one greatest flow is the flow of every group at its own level. Nodes and arcs keep their numbers, and an arc keeps its
-- tail. An arc to a higher group ends at the sink, with all of its capacity, and one to a lower group carries nothing. What comes to a node
-- beside the arcs of its own group comes from a source, which follows the nodes. Each number is in the unit of the group of its tail, or
-- of its head where the tail is the source.
use Rattle.std.specs.Prelude.{◌≡◌, ℕ, zero, suc, ℤ, ◌+ℤ◌, ◌*ℤ◌, pos, ◌&&◌, ◌==◌, if◌then◌else◌, List, [], ◌∷◌, length, slice_index_or}
use Rattle.pf_model.specs.Fraction.{Fraction}
use Rattle.pf_model.specs.Cut.{FlowNetwork, at_arc, sum_where}
use Rattle.pf_model.specs.Network.{network_at}
use Rattle.pf_share.specs.Problem.{ShareProblem, tail_of, head_of}
use Rattle.pf_share.specs.Certificate.{SharesAnswer, node_level, is_lower, CertifiesShares}
use Rattle.pf_share.specs.Right.{IsSharesShape}
use Rattle.pf_share.specs.Reduction.{share_net}

-- a list of the first values of a function
abbrev pub tabled : {X : Type 0} → (ℕ → X) → ℕ → List X
tabled f zero = []
tabled f (suc n) = f 0 ∷ tabled (λ v. f (suc v)) n

-- the arc ends at the sink where its head is in a higher group
abbrev pub redirected : ShareProblem → List Fraction → List ℤ → ℕ × ℕ → ℕ × ℕ
redirected p levels groups arc = (arc.0, if is_lower levels groups arc.0 arc.1 then p.sink else arc.1)

-- the capacity of arc i in the unit of its tail's group, or 0 where its head is in a lower one
abbrev pub own_capacity : ShareProblem → List Fraction → List ℤ → ℕ → ℤ
own_capacity p levels groups i =
    if is_lower levels groups (head_of p i) (tail_of p i) then pos 0
    else at_arc p.capacities i *ℤ (node_level levels groups (tail_of p i)).q

-- the share of a node, and the capacities of the arcs to it from lower groups
abbrev pub brought_in : ShareProblem → List Fraction → List ℤ → ℕ → ℤ
brought_in p levels groups v =
    ((node_level levels groups v).p *ℤ at_arc p.weights v)
    +ℤ (sum_where (λ arc. (arc.1 == v) && is_lower levels groups arc.0 v) p.ends p.capacities *ℤ (node_level levels groups v).q)

-- what the source gives to a node: this, and nothing to the sink
abbrev pub supply : ShareProblem → List Fraction → List ℤ → ℕ → ℤ
supply p levels groups v = if v == p.sink then pos 0 else brought_in p levels groups v

-- the same nodes, with these arcs and supplies
abbrev pub group_problem : ShareProblem → List Fraction → List ℤ → ShareProblem
group_problem p levels groups = record {
  nodes = p.nodes;
  sink = p.sink;
  weights = tabled (supply p levels groups) p.nodes;
  ends = tabled (λ i. redirected p levels groups (slice_index_or p.ends i (0, 0))) (length p.ends);
  capacities = tabled (own_capacity p levels groups) (length p.ends);
}

abbrev pub one : Fraction
one = record { p = pos 1; q = pos 1 }

-- its network, in which each supply is the capacity of the source's arc to the node
abbrev pub group_net : ShareProblem → List Fraction → List ℤ → FlowNetwork
group_net p levels groups = network_at (share_net (group_problem p levels groups)) one

-- levels and groups with these numbers on the arcs
abbrev pub answer_of : List Fraction → List ℤ → List ℤ → SharesAnswer
answer_of levels groups flow = record { levels = levels; groups = groups; flow = flow }

-- some numbers on the arcs certify the levels and groups
pub record HasFlow (p : ShareProblem) (levels : List Fraction) (groups : List ℤ) : Type 0 where
  pub flow : List ℤ
  pub certified : CertifiesShares p (answer_of levels groups flow)

-- no number on an arc is above or below 0
pub record IsStill (flow : List ℤ) : Type 0 where
  pub each : (i : ℕ) → at_arc flow i ≡ pos 0

-- levels and groups that some flow certifies, and no number on an arc yet
pub record IsSplit (p : ShareProblem) (a : SharesAnswer) : Type 0 where
  pub shape : IsSharesShape p a
  pub still : IsStill a.flow
  pub some : HasFlow p a.levels a.groups
