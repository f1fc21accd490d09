-- What holds of product selections and of what certifies them.
use Rattle.std.specs.Prelude.{◌≡◌, ◌↔◌, ℕ, suc, ◌<◌, ◌≤◌, ℤ, Bool, List, length, Ok}
use Rattle.pf_model.specs.Fraction.{Fraction, IsEqual, IsLowest}
use Rattle.pf_text.specs.Kinds.{Accepted, problem_of}
use Rattle.pf_select.specs.Problem.{SelectionProblem, IsSelectionProblem, IsBoundedProblem, IsBestSchedule, price_at}
use Rattle.pf_select.specs.Certificate.{ScheduleAnswer, CertifiesSchedule}
use Rattle.pf_select.specs.Text.{select, schedule_text}
use Rattle.pf_select.specs.Right.{IsScheduleShape, IsRightSchedule, IsCertifiedSchedule}

-- the certificate proves the schedule best
abbrev pub CertificateImpliesBest : Type 0
CertificateImpliesBest = (p : SelectionProblem) (prices : List Fraction) (selections : List (List Bool)) (charges : List (List ℤ)) →
    IsSelectionProblem p → CertifiesSchedule p prices selections charges → IsBestSchedule p prices selections

-- at most one schedule is best
pub record IsSameSchedule (prices prices' : List Fraction) (selections selections' : List (List Bool)) : Type 0 where
  pub same : selections ≡ selections'
  pub count : length prices ≡ length prices'
  pub equal : (j : ℕ) → j ≤ length prices → IsEqual (price_at prices j) (price_at prices' j)

abbrev pub OneBestSchedule : Type 0
OneBestSchedule = (p : SelectionProblem) (prices prices' : List Fraction) (selections selections' : List (List Bool)) →
    IsBestSchedule p prices selections → IsBestSchedule p prices' selections' → IsSameSchedule prices prices' selections selections'

-- each price is in lowest terms
pub record AreLowest (prices : List Fraction) : Type 0 where
  pub each : (j : ℕ) → j < length prices → IsLowest (price_at prices (suc j))

-- and the same fractions, where they are in lowest terms
abbrev pub OneBestScheduleInLowestTerms : Type 0
OneBestScheduleInLowestTerms = (p : SelectionProblem) (prices prices' : List Fraction) (selections selections' : List (List Bool)) →
    IsBestSchedule p prices selections → IsBestSchedule p prices' selections' → AreLowest prices → AreLowest prices' → prices ≡ prices'

-- a text that is accepted gives a problem within its limits
abbrev pub AcceptedIsBounded : Type 0
AcceptedIsBounded = (text : List ℕ) (read : Accepted SelectionProblem) → problem_of select text ≡ Ok read → IsBoundedProblem read.problem

-- answers of the right shape with equal texts are equal
abbrev pub ScheduleFromText : Type 0
ScheduleFromText = (p : SelectionProblem) (a b : ScheduleAnswer) → IsBoundedProblem p → IsScheduleShape p a → IsScheduleShape p b →
    schedule_text p a ≡ schedule_text p b → a ≡ b

-- the verdict is `yes` for exactly the texts of right answers
abbrev pub CertifiedIsRight : Type 0
CertifiedIsRight = (p : SelectionProblem) (text : List ℕ) → IsBoundedProblem p → IsCertifiedSchedule p text ↔ IsRightSchedule p text
