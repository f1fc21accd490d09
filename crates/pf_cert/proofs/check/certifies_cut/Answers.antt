use Rattle.std.proofs.Common.{ℕ, refl, sym, subst}
use Rattle.pf_cert.specs.Parts.{IsReached}
use Rattle.pf_cert.proofs.check.certifies_cut.Goals as goal

pub returns-clause-exact : goal.returns-clause-exact
returns-clause-exact c =
    let own = c.own_place-own.ensures.own in
    let P : ℕ → Type 0 = λ j. IsReached c.args.net.now c.args.curve.now.points c.args.curve.now.cuts c.args.curve.now.flows j c.args.i in (
      λ told. record { left = c.if-not-meets.ensures.0 refl; right = c.if-not-meets-2.ensures.0 refl; reach = subst P own (c.is_reached.ensures.exact.0 told) },
      λ k. c.is_reached.ensures.exact.1 (subst P (sym own) k.reach),
    )
