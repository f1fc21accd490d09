use Rattle.std.proofs.Common.{◌+◌, drop}
use Rattle.pf_io.proofs.PrintedLemmas.{HasPrinted}
use Rattle.pf_select.specs.Problem.{selection_at}
use Rattle.pf_select.specs.Text.{changes_text}
use Rattle.pf_select.proofs.writing.print_changes.Given as goal

abbrev pub invariant-prices : goal.invariant-prices
invariant-prices g l = HasPrinted l.fn.out l.out
    (changes_text l.catalogue 0 (selection_at l.answer.selections 0) l.answer.prices (drop 1 l.answer.selections))
    (changes_text l.catalogue l.j (selection_at l.answer.selections l.j) (drop l.j l.answer.prices) (drop (l.j + 1) l.answer.selections))
