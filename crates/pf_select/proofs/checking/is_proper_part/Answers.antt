use Rattle.std.proofs.Common.{refl}
use Rattle.std.proofs.lemmas.Bool.{false≢true}
use Rattle.pf_select.proofs.checking.is_proper_part.Goals as goal

pub returns-then-is_same : goal.returns-then-is_same
returns-then-is_same c = (λ e. absurd (false≢true e), λ h. absurd (h.different (c.if-is_same.ensures.0 refl)))

pub returns : goal.returns
returns c = (
  λ told. record { contained = c.is_contained.ensures.0 told; different = λ e. absurd (false≢true (c.if-is_same.ensures.1 e)) },
  λ h. c.is_contained.ensures.1 h.contained,
)
