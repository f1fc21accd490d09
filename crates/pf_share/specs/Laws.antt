-- What holds of fair shares and of what certifies them.
use Rattle.std.specs.Prelude.{◌≡◌, ◌↔◌, ℕ, ◌<◌, ◌≤◌, ◌^◌, pos, List, length, Ok}
use Rattle.pf_model.specs.Fraction.{Fraction, IsEqual}
use Rattle.pf_model.specs.Answer.{Curve}
use Rattle.pf_model.specs.Curve.{IsCurve, CertifiesCurve, point_at}
use Rattle.pf_share.specs.Problem.{ShareProblem, IsShareProblem, IsBoundedSharing, share_at, IsFair}
use Rattle.pf_share.specs.Certificate.{SharesAnswer, CertifiesShares, IsBestShares}
use Rattle.pf_text.specs.Kinds.{Accepted, problem_of}
use Rattle.pf_share.specs.Text.{share, shares_text}
use Rattle.pf_share.specs.Right.{IsSharesShape, IsRightShares, IsCertifiedShares}
use Rattle.pf_share.specs.Reduction.{share_net, IsReadOff}

-- the certificate proves the shares fair
abbrev pub CertificateImpliesFair : Type 0
CertificateImpliesFair = (p : ShareProblem) (a : SharesAnswer) → IsShareProblem p → CertifiesShares p a → IsBestShares p a

-- at most one vector of shares is fair
abbrev pub OneFairVector : Type 0
OneFairVector = (p : ShareProblem) (shares other : List Fraction) → IsShareProblem p → IsFair p shares → IsFair p other →
    (v : ℕ) → v < p.nodes → IsEqual (share_at shares v) (share_at other v)

-- what is read off a curve of the network is certified
abbrev pub CurveIsRead : Type 0
CurveIsRead = (p : ShareProblem) (curve : Curve) (a : SharesAnswer) → IsBoundedSharing p → IsCurve (share_net p) curve.points curve.cuts →
    CertifiesCurve (share_net p) curve.points curve.cuts curve.flows → (point_at (share_net p) curve.points (length curve.cuts)).q ≡ pos 1 →
    IsReadOff p curve a → CertifiesShares p a

-- a text that is accepted gives a network within its limits
abbrev pub AcceptedIsBounded : Type 0
AcceptedIsBounded = (text : List ℕ) (read : Accepted ShareProblem) → problem_of share text ≡ Ok read → IsBoundedSharing read.problem

-- answers of the right shape with equal texts are equal, where one of them has fewer levels than a number of 64 digits can count
abbrev pub SharesFromText : Type 0
SharesFromText = (p : ShareProblem) (a b : SharesAnswer) → IsSharesShape p a → IsSharesShape p b → length a.levels < 10 ^ 64 →
    shares_text p a ≡ shares_text p b → a ≡ b

-- a certified answer has no more levels than the network has nodes
abbrev pub FewLevels : Type 0
FewLevels = (p : ShareProblem) (a : SharesAnswer) → CertifiesShares p a → length a.levels ≤ p.nodes

-- the text of a certified answer is the text of no other answer of the right shape, however many levels that has
abbrev pub CertifiedFromText : Type 0
CertifiedFromText = (p : ShareProblem) (a b : SharesAnswer) → IsBoundedSharing p → IsSharesShape p a → IsSharesShape p b → CertifiesShares p a →
    shares_text p a ≡ shares_text p b → a ≡ b

-- the verdict is `yes` for exactly the texts of right answers
abbrev pub CertifiedIsRight : Type 0
CertifiedIsRight = (p : ShareProblem) (text : List ℕ) → IsShareProblem p → IsCertifiedShares p text ↔ IsRightShares p text
