use Rattle.pf_select.specs.Carried.{ArePrices}
use Rattle.pf_select.proofs.solving.inner_points.Given as goal

abbrev pub invariant-points : goal.invariant-points
invariant-points l = ArePrices l.catalogue l.curve.points l.prices l.j
