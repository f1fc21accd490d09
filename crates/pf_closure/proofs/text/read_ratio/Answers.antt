use Rattle.pf_format.proofs.Formats.{made_whole, made_refused}
use Rattle.pf_closure.proofs.SameAnswers.{parts_of, made}
use Rattle.pf_closure.proofs.text.read_ratio.Goals as goal

pub returns-in_err-parts : goal.returns-in_err-parts
returns-in_err-parts c = made_refused {parts = parts_of} c.from_residual.result c.in_err-parts.ensures c.from_residual.ensures.1 (made c.args.items.now _ _ c.items-count.ensures.value c.needs-width.ensures)

pub returns : goal.returns
returns c = made_whole {parts = parts_of} c.in_ok-parts.ensures c.of_parts.ensures (made c.args.items.now _ _ c.items-count.ensures.value c.needs-width.ensures)
