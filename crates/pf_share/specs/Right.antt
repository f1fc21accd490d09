-- Which answers have the right shape, and which texts are right answers.
use Rattle.std.specs.Prelude.{◌≡◌, ℕ, ◌<◌, ℤ, ◌≤ℤ◌, pos, List, length, All}
use Rattle.pf_model.specs.Cut.{at_arc}
use Rattle.pf_model.specs.Limits.{capacity_bound}
use Rattle.pf_model.specs.Answer.{IsFractionShape, IsWithinSize}
use Rattle.pf_share.specs.Problem.{ShareProblem}
use Rattle.pf_share.specs.Certificate.{SharesAnswer, CertifiesShares, IsBestShares}
use Rattle.pf_share.specs.Text.{shares_text}

-- a number for each node, from 0 to the number of levels, and at least 1 at a source
pub record IsGroupsShape (p : ShareProblem) (count : ℕ) (groups : List ℤ) : Type 0 where
  pub full : length groups ≡ p.nodes
  pub low : (v : ℕ) → v < p.nodes → pos 0 ≤ℤ at_arc groups v
  pub high : (v : ℕ) → v < p.nodes → at_arc groups v ≤ℤ pos count
  pub sources : (v : ℕ) → v < p.nodes → pos 1 ≤ℤ at_arc p.weights v → pos 1 ≤ℤ at_arc groups v

-- levels in lowest terms, a group for each node, and a number for each arc of a size below the bound of capacities
pub record IsSharesShape (p : ShareProblem) (a : SharesAnswer) : Type 0 where
  pub levels : All IsFractionShape a.levels
  pub groups : IsGroupsShape p (length a.levels) a.groups
  pub flow_full : length a.flow ≡ length p.ends
  pub flow : All (IsWithinSize capacity_bound) a.flow

-- `share`: the fair shares, with groups and a flow that certify them
pub record IsRightShares (p : ShareProblem) (text : List ℕ) : Type 0 where
  pub answer : SharesAnswer
  pub shape : IsSharesShape p answer
  pub best : IsBestShares p answer
  pub certificate : CertifiesShares p answer
  pub text_is : text ≡ shares_text p answer

-- `check share`: the text is that of an answer of the right shape whose certificate holds
pub record IsCertifiedShares (p : ShareProblem) (text : List ℕ) : Type 0 where
  pub answer : SharesAnswer
  pub shape : IsSharesShape p answer
  pub certificate : CertifiesShares p answer
  pub text_is : text ≡ shares_text p answer
