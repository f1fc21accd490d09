use Rattle.std.proofs.Common.{length, ap, sym, arith, ◌∙◌, subst, add-one}
use Rattle.std.proofs.lemmas.Bool.{false≢true}
use Rattle.pf_share.specs.Certificate.{HasSource}
use Rattle.pf_share.proofs.checking.have_sources.Goals as goal

pub returns-then-not-has_source : goal.returns-then-not-has_source
returns-then-not-has_source c =
    let shown = ap length (c.get-count.ensures ∙ c.levels.ensures) in
    let P = HasSource c.args.sharing.now c.args.answer.now.groups in
    (λ e. absurd (false≢true e), λ h. c.if-not-has_source.ensures.1 (subst P (sym (add-one c.groups.j)) (h.each c.groups.j (omega (arith, c.groups-test.true, shown)))))
