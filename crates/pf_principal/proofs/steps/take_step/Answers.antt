use Rattle.std.proofs.Common.{◌++◌, ◌∙◌, append_assoc}
use Rattle.std.proofs.lemmas.Result.{err_from_is_err_and}
use Rattle.pf_principal.specs.Text.{level_line, part_line}
use Rattle.pf_principal.proofs.StepLemmas.{same_step}
use Rattle.pf_principal.proofs.steps.take_step.Goals as goal

pub returns-in_err-level-clause-found : goal.returns-in_err-level-clause-found
returns-in_err-level-clause-found c = λ step rest shape e.
    let level = level_line c.args.j step.level in
    let labels = part_line c.args.j step.partition in
    absurd (c.in_err-level.ensures.found step.level (labels ++ rest) shape.level (e ∙ append_assoc level labels rest))

pub returns-in_err-partition-clause-found : goal.returns-in_err-partition-clause-found
returns-in_err-partition-clause-found c = λ step rest shape e.
    let p = err_from_is_err_and c.from_residual-in_err-partition.result c.from_residual-in_err-partition.ensures.1 in
    let level = level_line c.args.j step.level in
    let labels = part_line c.args.j step.partition in
    let first = c.in_ok-level.ensures.found step.level (labels ++ rest) shape.level (e ∙ append_assoc level labels rest) in
    rw (p.1, p.2) (c.in_err-partition.ensures.found step.partition rest shape.partition first.1)

pub returns-clause-found : goal.returns-clause-found
returns-clause-found c = λ step rest shape e.
    let level = level_line c.args.j step.level in
    let labels = part_line c.args.j step.partition in
    let first = c.in_ok-level.ensures.found step.level (labels ++ rest) shape.level (e ∙ append_assoc level labels rest) in
    let given = c.in_ok-partition.ensures.found step.partition rest shape.partition first.1 in
    (same_step c.in_ok-level.level c.in_ok-partition.partition step first.0 given.0, given.1)
