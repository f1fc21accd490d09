-- Product selections worked by hand, with their certificates.
use Rattle.std.specs.Prelude.{◌≡◌, ℕ, ℤ, pos, Bool, true, false, List, [], ◌∷◌}
use Rattle.pf_model.specs.Fraction.{Fraction}
use Rattle.pf_select.specs.Problem.{SelectionProblem, IsBest, IsGreatestBest, gain_of, worth}
use Rattle.pf_select.specs.Certificate.{CertifiesSchedule}

abbrev pub fraction : ℕ → ℕ → Fraction
fraction p q = record { p = pos p; q = pos q }

abbrev pub both : Bool → Bool → List Bool
both a b = a ∷ (b ∷ [])

abbrev pub pair : ℕ → ℕ → List ℤ
pair x y = pos x ∷ (pos y ∷ [])

-- parts that cost 2 and 3
abbrev pub with_products : List ℤ → List (ℕ × ℕ) → SelectionProblem
with_products gains needs = record { costs = pair 2 3; gains = gains; needs = needs }

-- a product that needs both parts
abbrev pub whole_product : SelectionProblem
whole_product = with_products (pos 10 ∷ []) ((0, 0) ∷ ((0, 1) ∷ []))

abbrev pub WholeProduct : Type 0
WholeProduct =
    CertifiesSchedule whole_product (fraction 2 1 ∷ []) (both true true ∷ (both false false ∷ [])) (pair 4 6 ∷ [])

-- with 7 on the second part more than the gain is charged
abbrev pub ChargeAboveGain : Type 0
ChargeAboveGain =
    CertifiesSchedule whole_product (fraction 2 1 ∷ []) (both true true ∷ (both false false ∷ [])) (pair 4 7 ∷ []) → ⊥

-- at the price 2 nothing is worth as much as both parts, so it is best too, but not the greatest
abbrev pub NothingIsBest : Type 0
NothingIsBest = worth whole_product (fraction 2 1) (both false false) ≡ worth whole_product (fraction 2 1) (both true true)

abbrev pub SmallerSelection : Type 0
SmallerSelection = IsBest whole_product (fraction 2 1) (both true true) → IsGreatestBest whole_product (fraction 2 1) (both false false) → ⊥

-- without products no part is needed, and there is no price
abbrev pub NoProducts : Type 0
NoProducts = CertifiesSchedule (with_products [] []) [] (both false false ∷ []) []

-- the second product needs nothing, so it is always gained; the second part is in no product, so it is never chosen
abbrev pub free_product : SelectionProblem
free_product = with_products (pair 10 7) ((0, 0) ∷ [])

abbrev pub FreeProduct : Type 0
FreeProduct =
    CertifiesSchedule free_product (fraction 5 1 ∷ []) (both true false ∷ (both false false ∷ [])) ((pos 10 ∷ []) ∷ [])

abbrev pub FreeGains : Type 0
FreeGains =
    (gain_of free_product (both false false) ≡ pos 7) × (gain_of free_product (both true false) ≡ pos 17)
    × (worth free_product (fraction 9 2) (both true false) ≡ pos 16)

-- two needs of the same product and the same part
abbrev pub parallel_needs : SelectionProblem
parallel_needs = with_products (pos 10 ∷ []) ((0, 0) ∷ ((0, 0) ∷ []))

abbrev pub ParallelNeeds : Type 0
ParallelNeeds =
    CertifiesSchedule parallel_needs (fraction 5 1 ∷ []) (both true false ∷ (both false false ∷ [])) (pair 4 6 ∷ [])
