use Rattle.std.proofs.Common.{refl, sym, ◌∙◌, arith}
use Rattle.pf_par.specs.ParState.{given_of, header_of}
use Rattle.pf_par.proofs.LineLemmas.{arc_numbers}
use Rattle.pf_par.proofs.given.ParState.arc_line.Goals as goal

pub returns-in-Some-clause-obeys : goal.returns-in-Some-clause-obeys
returns-in-Some-clause-obeys c =
    arc_numbers c.args.self.now.nodes (header_of c.args.self.now) c.args.numbers.now (given_of c.args.self.now) c.sense_or_rising-sense.result c.index_of-tail.result c.index_of-head.result c.sense_or_rising-sense.ensures refl (omega arith) c.requires
    c.index_of-tail.ensures c.index_of-head.ensures ∙ sym (c.in-Some.ensures (given_of c.args.self.now))
