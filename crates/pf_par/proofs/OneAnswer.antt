-- All but the flows is the same in two right answers.
use Rattle.std.proofs.Common.{◌≡◌, ℕ, List, sym, ◌∙◌, subst}
use Rattle.pf_model.specs.Fraction.{Fraction}
use Rattle.pf_model.specs.Cut.{IsSmallestLeast}
use Rattle.pf_model.specs.Network.{Network, IsMonotone, network_at}
use Rattle.pf_model.proofs.Unique.{smallest_unique, curve_unique}
use Rattle.pf_model.proofs.Whole.{same_lowest_points}
use Rattle.pf_par.specs.Right.{IsRightPoint, IsRightCurve}

pub one_point : (x : Fraction) (net : Network) (text other : List ℕ) (a : IsRightPoint x net text) (b : IsRightPoint x net other) →
    (a.point.at ≡ b.point.at) × (a.point.side ≡ b.point.side)
one_point x net text other a b =
    let same : a.point.at ≡ b.point.at = a.parameter ∙ sym b.parameter in
    let P : Fraction → Type 0 = λ y. IsSmallestLeast (network_at net y) a.point.side in
    (same, smallest_unique (network_at net b.point.at) a.point.side b.point.side (subst P same a.best.smallest) b.best.smallest)

pub one_curve : (net : Network) (text other : List ℕ) (a : IsRightCurve net text) (b : IsRightCurve net other) → IsMonotone net →
    (a.curve.points ≡ b.curve.points) × (a.curve.cuts ≡ b.curve.cuts)
one_curve net text other a b m = (
  same_lowest_points net a.curve.points b.curve.points a.curve.cuts b.curve.cuts m a.best b.best
      (λ i low. (a.shape.points i net.low low).lowest) (λ i low. (b.shape.points i net.low low).lowest),
  (curve_unique net a.curve.points b.curve.points a.curve.cuts b.curve.cuts m a.best b.best).same_cuts,
)
