use Rattle.std.proofs.lemmas.Result.{err_from_is_err_and}
use Rattle.pf_io.proofs.PrintingLemmas.{adds_then, adds_stopped}
use Rattle.pf_format.proofs.format.MarkedFormat.print.Goals as goal

pub returns-in_err-word : goal.returns-in_err-word
returns-in_err-word g c =
    let p = err_from_is_err_and c.from_residual.result c.from_residual.ensures.1 in
    rw p.1 (adds_stopped {T = Unit {0}} {U = Unit {0}} (g.F.Format.text c.args.self.now.format c.args.value.now) c.in_err-word.ensures)

pub returns : goal.returns
returns g c = adds_then c.in_ok-word.ensures c.print.ensures
