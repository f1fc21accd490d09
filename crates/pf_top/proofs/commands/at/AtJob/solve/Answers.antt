use Rattle.std.proofs.Common.{◌≡◌, refl}
use Rattle.pf_text.specs.declared.Refusal.TheVariants.{Outside}
use Rattle.pf_top.proofs.PointLemmas.{refused_outside, passed_inside}
use Rattle.pf_top.proofs.commands.at.AtJob.solve.Goals as goal

pub returns-in-Ok-clause-right : goal.returns-in-Ok-clause-right
returns-in-Ok-clause-right c = record { point = c.in-Ok.point; shape = c.in-Ok.ensures.shape; parameter = c.in-Ok.ensures.parameter; best = c.in-Ok.ensures.point; text_is = refl }

pub returns-in-Ok-clause-passed : goal.returns-in-Ok-clause-passed
returns-in-Ok-clause-passed c = passed_inside c.args.self.now.parameter c.args.problem.now (λ out. absurd (let e = c.at.ensures.outside.1 out in cc))

pub returns-in-Err-Outside-clause-refused : goal.returns-in-Err-Outside-clause-refused
returns-in-Err-Outside-clause-refused c = λ refusal e.
    let same : refusal ≡ Outside = cc in
    rw same (refused_outside c.args.self.now.parameter c.args.problem.now (c.at.ensures.outside.0 cc))
