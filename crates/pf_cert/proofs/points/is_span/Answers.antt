use Rattle.std.proofs.Common.{sym, ◌∙◌}
use Rattle.std.proofs.lemmas.Bool.{false≢true}
use Rattle.pf_cert.proofs.Neighbours.{same_is}
use Rattle.pf_cert.proofs.points.is_span.Goals as goal

pub returns-then-not-is_eq : goal.returns-then-not-is_eq
returns-then-not-is_eq c = (
  λ told. absurd (false≢true told),
  λ p. c.if-not-is_eq.ensures ∙ (same_is c.cmp.result c.args.first.now c.args.lo.now c.cmp.ensures.order).1 p.0,
)

pub returns : goal.returns
returns c = (
  λ told. (
    (same_is c.cmp.result c.args.first.now c.args.lo.now c.cmp.ensures.order).0 (sym c.if-not-is_eq.ensures),
    (same_is c.cmp-2.result c.args.last.now c.args.hi.now c.cmp-2.ensures.order).0 (sym c.is_eq-2.ensures ∙ told),
  ),
  λ p. c.is_eq-2.ensures ∙ (same_is c.cmp-2.result c.args.last.now c.args.hi.now c.cmp-2.ensures.order).1 p.1,
)
