use Rattle.std.proofs.Common.{subst}
use Rattle.pf_model.specs.Fraction.{lowest}
use Rattle.pf_sweep.specs.Swept.{Swept, parameter_of}
use Rattle.pf_sweep.specs.Rows.{IsRightRow}
use Rattle.pf_sweep.proofs.Sweeping.{bounds_of, kept_anew}
use Rattle.pf_sweep.proofs.sweep.Sweep.row.Goals as goal

pub keep-requires-clause-bounds : goal.keep-requires-clause-bounds
keep-requires-clause-bounds c = bounds_of _ _ _ _ _ c.self.inside.at.p c.self.invariant c.self.invariant.settled.inside

pub row_of-requires-clause-bounds : goal.row_of-requires-clause-bounds
row_of-requires-clause-bounds c = bounds_of _ _ _ _ _ c.self.inside.at.p c.self.invariant c.self.invariant.settled.inside

pub invariant_of-self : goal.invariant_of-self
invariant_of-self c = kept_anew _ _ _ _ _ _ _ c.self.invariant c.keep.ensures.places c.keep.ensures.kept

pub returns-clause-right : goal.returns-clause-right
returns-clause-right c =
    let P : Swept → Type 0 = λ s. IsRightRow s.net (lowest (parameter_of s)) c.row_of.result in
    subst P c.self.view_is c.row_of.ensures
