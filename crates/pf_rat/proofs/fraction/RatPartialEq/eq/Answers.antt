use Rattle.std.proofs.Common.{◌≡◌, true, sym, ◌∙◌, ap}
use Rattle.std.specs.declared.cmp.Ordering.{Ordering}
use Rattle.std.specs.declared.cmp.Ordering.TheVariants.{Less, Equal, Greater}
use Rattle.std.specs.Cmp.{eq_by_cmp_equiv}
use Rattle.std.specs.Ordering.{MatchOrdering, is_eq}
use Rattle.pf_model.specs.Fraction.{Fraction, IsBelow, IsEqual, fraction_cmp}
use Rattle.pf_model.proofs.FractionOrder.{fraction_cmp_total}
use Rattle.pf_rat.proofs.fraction.RatPartialEq.eq.Goals as goal

told_equal : (o : Ordering) (x y : Fraction) → MatchOrdering o (IsBelow x y) (IsEqual x y) (IsBelow y x) → is_eq o ≡ true → IsEqual x y
told_equal Less x y m e = absurd cc
told_equal Equal x y m e = m
told_equal Greater x y m e = absurd cc

itself : (x y : Fraction) → x ≡ y → is_eq (fraction_cmp x y) ≡ true
itself x y e = ap (λ z. is_eq (fraction_cmp x z)) (sym e) ∙ (eq_by_cmp_equiv fraction_cmp_total).refl x

pub returns-clause-same : goal.returns-clause-same
returns-clause-same c = (
  λ told. c.cmp.ensures.same (told_equal c.cmp.result c.args.self.now c.args.other.now c.cmp.ensures.order (sym c.is_eq.ensures ∙ told)),
  λ e. c.is_eq.ensures ∙ ap is_eq c.cmp.ensures.is ∙ itself c.args.self.now c.args.other.now e,
)
