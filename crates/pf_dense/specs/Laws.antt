-- What holds of densest sets and of what certifies them.
use Rattle.std.specs.Prelude.{◌≡◌, ◌↔◌, ℕ, ℤ, ◌+ℤ◌, ◌*ℤ◌, pos, Bool, List, length}
use Rattle.pf_model.specs.Fraction.{Fraction, IsEqual, IsLowest}
use Rattle.pf_graph.specs.WeightedGraph.{WeightedGraph, IsWeightedGraph}
use Rattle.pf_model.specs.Cut.{capacity}
use Rattle.pf_model.specs.Network.{IsNetworkCut, network_at}
use Rattle.pf_dense.specs.Densest.{HasPositiveCosts, IsDensest}
use Rattle.pf_dense.specs.Certificate.{AreCharges, AreWithin, CertifiesDense}
use Rattle.pf_dense.specs.Answer.{DenseAnswer, IsDenseShape}
use Rattle.pf_dense.specs.Text.{dense_text}
use Rattle.pf_dense.specs.Right.{IsRightDense, IsCertifiedDense}
use Rattle.pf_dense.specs.Newton.{deficit}
use Rattle.pf_dense.specs.Reduction.{total_weight, dense_net, side_of, outside_of, IsDenseLine}

-- the certificate proves the density and the set best
abbrev pub CertificateImpliesDensest : Type 0
CertificateImpliesDensest = (g : WeightedGraph) (x : Fraction) (set : List Bool) (charges : List ℤ) → IsWeightedGraph g →
    CertifiesDense g x set charges → IsDensest g x set

-- and charges that keep within what each vertex may be charged certify the densest set
abbrev pub ChargesCertifyDensest : Type 0
ChargesCertifyDensest = (g : WeightedGraph) (x : Fraction) (set : List Bool) (charges : List ℤ) → IsWeightedGraph g →
    AreCharges g x charges → AreWithin g x charges → IsDensest g x set → CertifiesDense g x set charges

-- at most one answer is best
pub record IsSameAnswer (x y : Fraction) (set other : List Bool) : Type 0 where
  pub equal : IsEqual x y
  pub same : set ≡ other

abbrev pub OneDensest : Type 0
OneDensest = (g : WeightedGraph) (x y : Fraction) (set other : List Bool) → IsWeightedGraph g → HasPositiveCosts g →
    IsDensest g x set → IsDensest g y other → IsSameAnswer x y set other

-- and the same fraction, where it is in lowest terms
abbrev pub OneDensityInLowestTerms : Type 0
OneDensityInLowestTerms = (g : WeightedGraph) (x y : Fraction) (set other : List Bool) → IsWeightedGraph g → HasPositiveCosts g →
    IsDensest g x set → IsDensest g y other → IsLowest x → IsLowest y → x ≡ y

-- answers of the right shape with equal texts are equal
abbrev pub DenseFromText : Type 0
DenseFromText = (g : WeightedGraph) (a b : DenseAnswer) → IsDenseShape g a → IsDenseShape g b → dense_text a ≡ dense_text b → a ≡ b

-- the verdict is `yes` for exactly the texts of right answers
abbrev pub CertifiedIsRight : Type 0
CertifiedIsRight = (g : WeightedGraph) (text : List ℕ) → IsWeightedGraph g → IsCertifiedDense g text ↔ IsRightDense g text

-- the side outside which a set of vertices lies is a cut of the network, with this line
abbrev pub SetHasLine : Type 0
SetHasLine = (g : WeightedGraph) (set : List Bool) → IsWeightedGraph g → length set ≡ g.nodes → IsDenseLine g set

-- so its capacity at p/q, in units of 1/q
abbrev pub SetCapacity : Type 0
SetCapacity = (g : WeightedGraph) (x : Fraction) (set : List Bool) → IsWeightedGraph g → length set ≡ g.nodes →
    capacity (network_at (dense_net g) x) (side_of set) ≡ (x.q *ℤ (pos g.nodes *ℤ total_weight g)) +ℤ (pos 2 *ℤ deficit g x set)

-- and each cut is the side of the vertices outside it
abbrev pub CutIsSide : Type 0
CutIsSide = (g : WeightedGraph) (side : List Bool) → IsNetworkCut (dense_net g) side → side ≡ side_of (outside_of g side)
