use Rattle.std.proofs.lemmas.Result.{err_from_is_err_and}
use Rattle.pf_io.proofs.PrintingLemmas.{adds_then, adds_stopped}
use Rattle.pf_format.proofs.format.EndedFormat.print.Goals as goal

pub returns-in_err-print : goal.returns-in_err-print
returns-in_err-print g c =
    let p = err_from_is_err_and c.from_residual.result c.from_residual.ensures.1 in
    rw p.1 (adds_stopped {T = Unit {0}} {U = Unit {0}} c.args.self.now.word.now c.in_err-print.ensures)

pub returns : goal.returns
returns g c = adds_then c.in_ok-print.ensures c.word.ensures
