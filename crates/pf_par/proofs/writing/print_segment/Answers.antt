use Rattle.std.proofs.Common.{◌∷◌}
use Rattle.std.specs.Prelude.{codes}
use Rattle.std.specs.Fmt.{decimal}
use Rattle.pf_text.specs.Spelling.{line}
use Rattle.pf_par.specs.Answers.{point_fields}
use Rattle.std.proofs.lemmas.Result.{err_from_is_err_and}
use Rattle.pf_io.proofs.PrintingLemmas.{adds_then, adds_stopped}
use Rattle.pf_par.proofs.writing.print_segment.Goals as goal

pub returns-in_err-print_cut : goal.returns-in_err-print_cut
returns-in_err-print_cut g c =
    let p = err_from_is_err_and c.from_residual.result c.from_residual.ensures.1 in
    rw p.1 (adds_stopped {T = Unit {0}} (line (codes "b" ∷ decimal c.args.i ∷ point_fields c.args.net.now c.args.at.now c.args.flow.now)) c.in_err-print_cut.ensures)

pub returns : goal.returns
returns g c = adds_then c.in_ok-print_cut.ensures c.print_point.ensures
