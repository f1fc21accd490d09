-- What the first lines of the text of an answer say.
use Rattle.std.specs.Prelude.{ℕ, ◌<◌, ℤ, ◌≤ℤ◌, pos, List, [], ◌∷◌, ◌++◌, length, All, codes}
use Rattle.pf_model.specs.Fraction.{Fraction}
use Rattle.pf_model.specs.Answer.{IsFractionShape}
use Rattle.pf_model.specs.Cut.{at_arc}
use Rattle.pf_text.specs.Spelling.{row_line}
use Rattle.pf_share.specs.Problem.{ShareProblem}
use Rattle.pf_share.specs.Certificate.{SharesAnswer}
use Rattle.pf_share.specs.Right.{IsGroupsShape}
use Rattle.pf_share.specs.Text.{levels_text}

-- the group is above 0 where the weight is
pub record IsGrouped (weight group : ℤ) : Type 0 where
  pub above : pos 1 ≤ℤ weight → pos 1 ≤ℤ group

-- each source of the first nodes has a group above 0
pub record AreGrouped (p : ShareProblem) (groups : List ℤ) (count : ℕ) : Type 0 where
  pub each : (v : ℕ) → v < count → IsGrouped (at_arc p.weights v) (at_arc groups v)

-- the number of levels, the levels, and the groups
abbrev pub front_text : List Fraction → List ℤ → List ℕ
front_text levels groups = row_line (codes "k") (length levels ∷ []) [] ++ (levels_text 0 levels ++ row_line (codes "m") [] groups)

-- an answer of these, with no number on any arc
abbrev pub front_of : List Fraction → List ℤ → SharesAnswer
front_of levels groups = record { levels = levels; groups = groups; flow = [] }

pub record IsFrontShape (p : ShareProblem) (a : SharesAnswer) : Type 0 where
  pub levels : All IsFractionShape a.levels
  pub groups : IsGroupsShape p (length a.levels) a.groups
