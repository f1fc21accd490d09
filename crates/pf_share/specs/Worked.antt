-- Networks that are shared, worked by hand.
use Rattle.std.specs.Prelude.{◌≡◌, ℕ, ℤ, pos, List, [], ◌∷◌}
use Rattle.pf_model.specs.Fraction.{Fraction}
use Rattle.pf_share.specs.Problem.{ShareProblem, IsFair}
use Rattle.pf_share.specs.Certificate.{SharesAnswer, CertifiesShares, share_of, shares_of}

abbrev pub fraction : ℕ → ℕ → Fraction
fraction p q = record { p = pos p; q = pos q }

abbrev pub three : ℕ → ℕ → ℕ → List ℤ
three x y z = pos x ∷ (pos y ∷ (pos z ∷ []))

abbrev pub four : ℕ → ℕ → ℕ → ℕ → List ℤ
four x y z t = pos x ∷ three y z t

-- two sources push through one node: the first by a narrow arc
abbrev pub narrow_arc : ShareProblem
narrow_arc = record {
  nodes = 4;
  sink = 3;
  weights = four 1 1 0 0;
  ends = (0, 2) ∷ ((1, 2) ∷ ((2, 3) ∷ []));
  capacities = three 1 10 5;
}

abbrev pub answer : List Fraction → List ℤ → List ℤ → SharesAnswer
answer levels groups flow = record { levels = levels; groups = groups; flow = flow }

abbrev pub two_levels : SharesAnswer
two_levels = answer (fraction 1 1 ∷ (fraction 4 1 ∷ [])) (four 1 2 2 0) (three 1 4 5)

abbrev pub NarrowArc : Type 0
NarrowArc = CertifiesShares narrow_arc two_levels

abbrev pub NarrowShares : Type 0
NarrowShares =
    shares_of two_levels.levels narrow_arc.weights two_levels.groups
    ≡ fraction 1 1 ∷ (fraction 4 1 ∷ (share_of (fraction 4 1) (pos 0) ∷ (share_of (fraction 0 1) (pos 0) ∷ [])))

-- the first common level for both is not fair, since the second could have more and the first no less
abbrev pub OneLevel : Type 0
OneLevel = IsFair narrow_arc (fraction 1 1 ∷ (fraction 1 1 ∷ (fraction 0 1 ∷ (fraction 0 1 ∷ [])))) → ⊥

-- a number that leaves part of a full arc free certifies nothing
abbrev pub NotFull : Type 0
NotFull = CertifiesShares narrow_arc (answer two_levels.levels two_levels.groups (three 0 4 4)) → ⊥

-- a source with no way out has nothing
abbrev pub no_way_out : ShareProblem
no_way_out = record { nodes = 3; sink = 2; weights = three 1 1 0; ends = (1, 2) ∷ []; capacities = pos 5 ∷ [] }

abbrev pub level_of_nothing : SharesAnswer
level_of_nothing = answer (fraction 0 1 ∷ (fraction 5 1 ∷ [])) (three 1 2 0) (pos 5 ∷ [])

abbrev pub NoWayOut : Type 0
NoWayOut = CertifiesShares no_way_out level_of_nothing

-- levels in thirds: sources of the weights 1 and 2 share an arc of capacity 4, and what they push together is counted in thirds after it
abbrev pub thirds : ShareProblem
thirds = record {
  nodes = 4;
  sink = 3;
  weights = four 1 2 0 0;
  ends = (0, 2) ∷ ((1, 2) ∷ ((2, 3) ∷ []));
  capacities = three 9 9 4;
}

abbrev pub Thirds : Type 0
Thirds = CertifiesShares thirds (answer (fraction 4 3 ∷ []) (four 1 1 1 0) (three 4 8 12))
