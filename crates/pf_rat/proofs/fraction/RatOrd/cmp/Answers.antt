use Rattle.std.proofs.Common.{arith, sym}
use Rattle.std.specs.Prelude.{◌*ℤ◌}
use Rattle.std.specs.Cmp.{int_ranks}
use Rattle.std.proofs.lemmas.Int.{ints}
use Rattle.pf_model.specs.Fraction.{Fraction}
use Rattle.pf_model.proofs.FractionOrder.{cross_order}
use Rattle.pf_rat.proofs.Products.{cross, comes_back}
use Rattle.pf_model.proofs.Lowest.{same_fraction}
use Rattle.pf_rat.proofs.fraction.RatOrd.cmp.Goals as goal

pub returns-clause-is : goal.returns-clause-is
returns-clause-is c =
    let f = c.self.invariant.0 in
    let g = c.other.invariant.0 in
    let x : Fraction = record { p = c.self.inside.numerator; q = c.self.inside.denominator } in
    let y : Fraction = record { p = c.other.inside.numerator; q = c.other.inside.denominator } in
    let b = cross x y f g in
    let d = cross y x g f in
    rw (
      c.cmp.ensures,
      ← c.self.view_is,
      ← c.other.view_is,
      comes_back c.self.inside.numerator (omega (arith, ints, f.p_low, f.p_high)),
      comes_back c.other.inside.denominator (omega (arith, ints, g.parameter, g.q_high)),
      comes_back c.other.inside.numerator (omega (arith, ints, g.p_low, g.p_high)),
      comes_back c.self.inside.denominator (omega (arith, ints, f.parameter, f.q_high)),
      comes_back (x.p *ℤ y.q) (omega (arith, b)),
      comes_back (y.p *ℤ x.q) (omega (arith, d)),
    )
    (sym (cross_order x y f.parameter g.parameter))

pub returns-clause-order : goal.returns-clause-order
returns-clause-order c =
    let f = c.self.invariant.0 in
    let g = c.other.invariant.0 in
    let x : Fraction = record { p = c.self.inside.numerator; q = c.self.inside.denominator } in
    let y : Fraction = record { p = c.other.inside.numerator; q = c.other.inside.denominator } in
    let b = cross x y f g in
    let d = cross y x g f in
    rw (
      c.cmp.ensures,
      ← c.self.view_is,
      ← c.other.view_is,
      comes_back c.self.inside.numerator (omega (arith, ints, f.p_low, f.p_high)),
      comes_back c.other.inside.denominator (omega (arith, ints, g.parameter, g.q_high)),
      comes_back c.other.inside.numerator (omega (arith, ints, g.p_low, g.p_high)),
      comes_back c.self.inside.denominator (omega (arith, ints, f.parameter, f.q_high)),
      comes_back (x.p *ℤ y.q) (omega (arith, b)),
      comes_back (y.p *ℤ x.q) (omega (arith, d)),
    )
    (int_ranks (x.p *ℤ y.q) (y.p *ℤ x.q))

pub returns-clause-same : goal.returns-clause-same
returns-clause-same c = rw (← c.self.view_is, ← c.other.view_is)
    (λ e. same_fraction _ _ c.self.invariant.0.parameter c.other.invariant.0.parameter c.self.invariant.1 c.other.invariant.1 e)
