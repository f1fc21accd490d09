-- Closure problems worked by hand, with their certificates.
use Rattle.std.specs.Prelude.{◌≡◌, ℕ, pos, Bool, true, false, List, [], ◌∷◌}
use Rattle.pf_model.specs.Fraction.{Fraction}
use Rattle.pf_model.specs.Line.{AffineLine}
use Rattle.pf_model.specs.Network.{line_of}
use Rattle.pf_closure.specs.Problem.{ClosureProblem, IsLeastRatio, cost_of, weight_of}
use Rattle.pf_closure.specs.Certificate.{CertifiesRatio}
use Rattle.pf_closure.specs.Reduction.{closure_net, side_of}

-- two items, of which the first needs the second
abbrev pub two_items : ℕ → ℕ → ℕ → ℕ → ClosureProblem
two_items c w c' w' = record {
  costs = pos c ∷ (pos c' ∷ []);
  weights = pos w ∷ (pos w' ∷ []);
  needs = (0, 1) ∷ [];
}

abbrev pub fraction : ℕ → ℕ → Fraction
fraction p q = record { p = pos p; q = pos q }

abbrev pub both : Bool → Bool → List Bool
both a b = a ∷ (b ∷ [])

abbrev pub affine_line : ℕ → ℕ → AffineLine
affine_line a b = record { a = pos a; b = pos b }

-- the first item is dear: the second alone is best
abbrev pub DearItem : Type 0
DearItem = CertifiesRatio (two_items 3 1 1 1) (fraction 1 1) (both false true) (pos 0 ∷ [])

-- both have the ratio 1, so the greater closure is best
abbrev pub EqualItems : Type 0
EqualItems = CertifiesRatio (two_items 1 1 1 1) (fraction 1 1) (both true true) (pos 0 ∷ [])

-- the second item alone is a closure of that ratio too, but not the answer
abbrev pub SmallerClosure : Type 0
SmallerClosure = IsLeastRatio (two_items 1 1 1 1) (fraction 1 1) (both false true) → ⊥

-- the first item is cheap and takes the second with it; 7 halves go along the need
abbrev pub CheapItem : Type 0
CheapItem = CertifiesRatio (two_items 1 3 5 1) (fraction 3 2) (both true true) (pos 7 ∷ [])

-- with 6 halves the first item would be brought more than it may be
abbrev pub WrongRouting : Type 0
WrongRouting = CertifiesRatio (two_items 1 3 5 1) (fraction 3 2) (both true true) (pos 6 ∷ []) → ⊥

-- what both items cost and weigh, and the line of their cut
abbrev pub CheapNumbers : Type 0
CheapNumbers = (cost_of (two_items 1 3 5 1) (both true true) ≡ pos 6) × (weight_of (two_items 1 3 5 1) (both true true) ≡ pos 4)

abbrev pub CheapLine : Type 0
CheapLine = line_of (closure_net (two_items 1 3 5 1)) (side_of (both true true)) ≡ affine_line 4000010 0
