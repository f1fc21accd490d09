-- What holds of closure problems, their certificates and their networks.
use Rattle.std.specs.Prelude.{◌≡◌, ◌↔◌, ℕ, ◌^◌, ℤ, ◌+ℤ◌, ◌-ℤ◌, ◌*ℤ◌, ◌≤ℤ◌, ◌<ℤ◌, pos, Bool, List, Ok}
use Rattle.pf_model.specs.Fraction.{Fraction, IsEqual, IsLowest}
use Rattle.pf_model.specs.Cut.{IsLeast, IsSmallestLeast, capacity}
use Rattle.pf_model.specs.Network.{IsInInterval, IsNetworkCut, network_at, cut_a, cut_b}
use Rattle.pf_text.specs.Kinds.{Accepted, problem_of}
use Rattle.pf_net.specs.Limits.{IsBuilt}
use Rattle.pf_closure.specs.Text.{closure, ratio_text}
use Rattle.pf_closure.specs.Right.{IsRatioShape, IsRightRatio, IsCertifiedRatio}
use Rattle.pf_closure.specs.Problem.{ClosureProblem, IsClosureProblem, IsClosure, IsNonempty, IsLeastRatio, cost_of, weight_of, IsBoundedProblem, sum_of_all}
use Rattle.pf_closure.specs.Certificate.{RatioAnswer, CertifiesRatio}
use Rattle.pf_closure.specs.Reduction.{closure_net, side_of, items_of}

-- a text that is accepted gives items within their limits
abbrev pub AcceptedIsBounded : Type 0
AcceptedIsBounded = (text : List ℕ) (read : Accepted ClosureProblem) → problem_of closure text ≡ Ok read → IsBoundedProblem read.problem

-- answers of the right shape with equal texts are equal
abbrev pub RatioFromText : Type 0
RatioFromText = (p : ClosureProblem) (a b : RatioAnswer) → IsRatioShape p a → IsRatioShape p b → ratio_text a ≡ ratio_text b → a ≡ b

-- the verdict is `yes` for exactly the texts of right answers
abbrev pub CertifiedIsRight : Type 0
CertifiedIsRight = (p : ClosureProblem) (text : List ℕ) → IsClosureProblem p → IsCertifiedRatio p text ↔ IsRightRatio p text

-- the network of items within their limits is a monotone one within its own
abbrev pub ClosureNetIsBuilt : Type 0
ClosureNetIsBuilt = (p : ClosureProblem) → IsBoundedProblem p → IsBuilt (closure_net p)

-- the certificate proves the ratio and the closure best
abbrev pub CertificateImpliesBest : Type 0
CertificateImpliesBest = (p : ClosureProblem) (x : Fraction) (chosen : List Bool) (routing : List ℤ) → IsClosureProblem p →
    CertifiesRatio p x chosen routing → IsLeastRatio p x chosen

-- at most one answer is best
pub record IsSameAnswer (x y : Fraction) (set other : List Bool) : Type 0 where
  pub equal : IsEqual x y
  pub same : set ≡ other

abbrev pub OneLeastRatio : Type 0
OneLeastRatio = (p : ClosureProblem) (x y : Fraction) (set other : List Bool) → IsClosureProblem p →
    IsLeastRatio p x set → IsLeastRatio p y other → IsSameAnswer x y set other

-- and the same fraction, where it is in lowest terms
abbrev pub OneLeastRatioInLowestTerms : Type 0
OneLeastRatioInLowestTerms = (p : ClosureProblem) (x y : Fraction) (set other : List Bool) → IsClosureProblem p →
    IsLeastRatio p x set → IsLeastRatio p y other → IsLowest x → IsLowest y → x ≡ y

-- the side of a closure is a cut; with W the weight of all items, A is 1000001 W and its cost, and B is W less its weight
pub record IsClosureLine (p : ClosureProblem) (set : List Bool) : Type 0 where
  pub cut : IsNetworkCut (closure_net p) (side_of set)
  pub constant : cut_a (closure_net p) (side_of set) ≡ (pos 1000001 *ℤ sum_of_all p.weights) +ℤ cost_of p set
  pub slope : cut_b (closure_net p) (side_of set) ≡ sum_of_all p.weights -ℤ weight_of p set

abbrev pub ClosureHasLine : Type 0
ClosureHasLine = (p : ClosureProblem) (set : List Bool) → IsClosureProblem p → IsClosure p set → IsClosureLine p set

-- so its capacity at p/q, in units of 1/q
abbrev pub ClosureCapacity : Type 0
ClosureCapacity = (p : ClosureProblem) (set : List Bool) (x : Fraction) → IsClosureProblem p → IsClosure p set →
    capacity (network_at (closure_net p) x) (side_of set)
    ≡ ((((pos 1000001 *ℤ x.q) +ℤ x.p) *ℤ sum_of_all p.weights) +ℤ ((x.q *ℤ cost_of p set) -ℤ (x.p *ℤ weight_of p set)))

-- each cut is the side of a set of items
abbrev pub CutIsSide : Type 0
CutIsSide = (p : ClosureProblem) (side : List Bool) → IsNetworkCut (closure_net p) side → side ≡ side_of (items_of p side)

-- where its items are no closure it crosses the arc of a need, so its capacity is at least 2 ^ 56, in units of 1/q at the parameter p/q
abbrev pub OpenCutIsDear : Type 0
OpenCutIsDear = (p : ClosureProblem) (x : Fraction) (side : List Bool) → IsBoundedProblem p → IsInInterval (closure_net p) x →
    IsNetworkCut (closure_net p) side → (IsClosure p (items_of p side) → ⊥) → (pos (2 ^ 56) *ℤ x.q) ≤ℤ capacity (network_at (closure_net p) x) side

-- so a least cut at a parameter of the interval crosses none
abbrev pub LeastIsClosure : Type 0
LeastIsClosure = (p : ClosureProblem) (x : Fraction) (side : List Bool) → IsBoundedProblem p → IsInInterval (closure_net p) x →
    IsLeast (network_at (closure_net p) x) side → IsClosure p (items_of p side)

-- where the smallest least cut holds an item, its closure has a smaller ratio than the parameter
abbrev pub SmallestIsBelow : Type 0
SmallestIsBelow = (p : ClosureProblem) (x : Fraction) (side : List Bool) → IsBoundedProblem p → IsInInterval (closure_net p) x →
    IsSmallestLeast (network_at (closure_net p) x) side → IsNonempty (items_of p side) →
    (x.q *ℤ cost_of p (items_of p side)) <ℤ (x.p *ℤ weight_of p (items_of p side))

-- and where it holds none, no closure has a smaller ratio
abbrev pub SourceAloneIsBest : Type 0
SourceAloneIsBest = (p : ClosureProblem) (x : Fraction) (side : List Bool) → IsBoundedProblem p → IsInInterval (closure_net p) x →
    IsLeast (network_at (closure_net p) x) side → (IsNonempty (items_of p side) → ⊥) → (other : List Bool) → IsClosure p other →
    (x.p *ℤ weight_of p other) ≤ℤ (x.q *ℤ cost_of p other)
