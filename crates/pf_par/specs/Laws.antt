-- What holds of every text of a network, and of its answers.
use Rattle.std.specs.Prelude.{◌≡◌, ◌↔◌, ℕ, ◌≤◌, List, length, All, pos, neg_ℤ, ◌≤ℤ◌, Ok}
use Rattle.pf_model.specs.declared.AffineArc.{AffineArc}
use Rattle.pf_model.specs.Fraction.{Fraction, IsParameter, IsLowest}
use Rattle.pf_model.specs.Network.{Network, IsMonotone}
use Rattle.pf_model.specs.Answer.{Point, Curve, IsPointShape, IsCurveShape}
use Rattle.pf_text.specs.Kinds.{Accepted, problem_of}
use Rattle.pf_text.specs.Numbers.{billion}
use Rattle.pf_par.specs.Text.{par}
use Rattle.pf_par.specs.Answers.{point_text, curve_text}
use Rattle.pf_par.specs.Right.{IsRightPoint, IsRightCurve, IsCertifiedCurve, IsRightCheck}

-- an end of an interval that a text gives, in lowest terms
pub record IsTextFraction (x : Fraction) : Type 0 where
  pub low : neg_ℤ (pos billion) ≤ℤ x.p
  pub high : x.p ≤ℤ pos billion
  pub parameter : IsParameter x
  pub denominator : x.q ≤ℤ pos billion
  pub lowest : IsLowest x

-- an arc that a text gives
pub record IsTextArc (arc : AffineArc) : Type 0 where
  pub a_low : neg_ℤ (pos billion) ≤ℤ arc.a
  pub a_high : arc.a ≤ℤ pos billion
  pub b_low : neg_ℤ (pos billion) ≤ℤ arc.b
  pub b_high : arc.b ≤ℤ pos billion

-- a network within the limits of texts
pub record IsTextNetwork (net : Network) : Type 0 where
  pub nodes_low : 2 ≤ net.nodes
  pub nodes_high : net.nodes ≤ 1000
  pub arc_count : length net.arcs ≤ 10000
  pub low : IsTextFraction net.low
  pub high : IsTextFraction net.high
  pub arcs : All IsTextArc net.arcs

-- an accepted text of the kind `par` gives a monotone network
abbrev pub AcceptedIsMonotone : Type 0
AcceptedIsMonotone = (text : List ℕ) (read : Accepted Network) → problem_of par text ≡ Ok read → IsMonotone read.problem

-- within the limits of texts
abbrev pub AcceptedIsTextNetwork : Type 0
AcceptedIsTextNetwork = (text : List ℕ) (read : Accepted Network) → problem_of par text ≡ Ok read → IsTextNetwork read.problem

-- answers of the right shape with equal texts are equal
abbrev pub PointFromText : Type 0
PointFromText = (net : Network) (a b : Point) → IsPointShape net a → IsPointShape net b → point_text net a ≡ point_text net b → a ≡ b

abbrev pub CurveFromText : Type 0
CurveFromText = (net : Network) (a b : Curve) → IsCurveShape net a → IsCurveShape net b → curve_text net a ≡ curve_text net b → a ≡ b

-- one of `yes` and `no` is the right verdict, and not the other
abbrev pub VerdictIsUnique : Type 0
VerdictIsUnique = (net : Network) (rest a b : List ℕ) → IsRightCheck net rest a → IsRightCheck net rest b → a ≡ b

-- the verdict is `yes` for exactly the texts of right answers to `curve`
abbrev pub CertifiedIsRight : Type 0
CertifiedIsRight = (net : Network) (text : List ℕ) → IsMonotone net → IsCertifiedCurve net text ↔ IsRightCurve net text

-- two right answers to `at` have the same parameter and the same cut
abbrev pub CutOfPointIsUnique : Type 0
CutOfPointIsUnique = (x : Fraction) (net : Network) (text other : List ℕ) (a : IsRightPoint x net text) (b : IsRightPoint x net other) →
    (a.point.at ≡ b.point.at) × (a.point.side ≡ b.point.side)

-- two right answers to `curve` have the same points and the same cuts
abbrev pub CutsOfCurveAreUnique : Type 0
CutsOfCurveAreUnique = (net : Network) (text other : List ℕ) (a : IsRightCurve net text) (b : IsRightCurve net other) → IsMonotone net →
    (a.curve.points ≡ b.curve.points) × (a.curve.cuts ≡ b.curve.cuts)
