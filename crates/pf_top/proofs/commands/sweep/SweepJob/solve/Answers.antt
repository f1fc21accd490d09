use Rattle.std.proofs.Common.{◌≡◌}
use Rattle.pf_text.specs.declared.Refusal.TheVariants.{TooFine}
use Rattle.pf_top.proofs.SweepLemmas.{fine_seen, refused_fine, passed_coarse}
use Rattle.pf_top.proofs.commands.sweep.SweepJob.solve.Goals as goal

pub returns-in-Ok-clause-passed : goal.returns-in-Ok-clause-passed
returns-in-Ok-clause-passed c =
    let exact = fine_seen _ _ c.args.self.now _ c.args.problem.now c.rows_of.ensures.fine c.self.view_is c.net.ensures.value in
    passed_coarse c.args.self.now c.args.problem.now (λ told. absurd (let e = exact.1 told in cc))

pub returns-in-Err-TooFine-clause-refused : goal.returns-in-Err-TooFine-clause-refused
returns-in-Err-TooFine-clause-refused c = λ refusal e.
    let exact = fine_seen _ _ c.args.self.now _ c.args.problem.now c.rows_of.ensures.fine c.self.view_is c.net.ensures.value in
    let same : refusal ≡ TooFine = cc in
    rw same (refused_fine c.args.self.now c.args.problem.now (exact.0 cc))
