use Rattle.std.proofs.Common.{sym, ◌∙◌}
use Rattle.pf_par.specs.ParState.{given_of}
use Rattle.pf_par.proofs.LineLemmas.{interval_numbers}
use Rattle.pf_par.proofs.given.ParState.interval_line.Goals as goal

pub fraction-requires-2 : goal.fraction-requires-2
fraction-requires-2 c = (interval_numbers c.args.numbers.now c.requires).high

pub returns-in-Some-clause-obeys : goal.returns-in-Some-clause-obeys
returns-in-Some-clause-obeys c =
    (interval_numbers c.args.numbers.now c.requires).rules (given_of c.args.self.now) c.fraction.result c.fraction-2.result c.fraction.ensures c.fraction-2.ensures ∙ sym (c.in-Some.ensures _)

pub returns-clause-obeys : goal.returns-clause-obeys
returns-clause-obeys c =
    (interval_numbers c.args.numbers.now c.requires).rules (given_of c.args.self.now) c.fraction.result c.fraction-2.result c.fraction.ensures c.fraction-2.ensures ∙ sym (c.in_default-against_interval.ensures _)
