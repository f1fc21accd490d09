use Rattle.std.proofs.Common.{◌≡◌, suc, ◌-◌, ◌<◌, length, arith, ap, sym, ◌∙◌}
use Rattle.pf_principal.specs.Reading.{before_step}
use Rattle.pf_principal.proofs.StepLemmas.{before_is}
use Rattle.pf_principal.proofs.steps.before.Goals as goal

pub returns-else-i-eq0 : goal.returns-else-i-eq0
returns-else-i-eq0 c =
    let e : suc (c.args.i - 1) ≡ c.args.i = omega (arith, c.if-i-eq0.false) in
    let low : c.args.i - 1 < length c.args.steps.now = omega (arith, c.if-i-eq0.false, c.requires) in
    sym (before_is c.args.first.now c.args.steps.now (c.args.i - 1) c.index-steps-i.result low) ∙ ap (before_step c.args.first.now c.args.steps.now) e
