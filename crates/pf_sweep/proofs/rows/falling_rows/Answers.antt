use Rattle.std.proofs.Common.{map, ap, ◌∙◌}
use Rattle.std.specs.Prelude.{reverse}
use Rattle.pf_sweep.specs.Rows.{turned_row}
use Rattle.pf_sweep.proofs.TurnedRows.{near_ends_turned, rising_turned, rows_back}
use Rattle.pf_sweep.proofs.rows.falling_rows.Goals as goal

pub rising_rows-requires-clause-rising : goal.rising_rows-requires-clause-rising
rising_rows-requires-clause-rising c = rising_turned c.args.net.now c.in_ok-other.other c.in_ok-other.ensures c.requires.falling

pub rising_rows-requires-clause-ends : goal.rising_rows-requires-clause-ends
rising_rows-requires-clause-ends c = near_ends_turned c.args.net.now c.in_ok-other.other c.in_ok-other.ensures c.requires.ends

pub returns-clause-rows : goal.returns-clause-rows
returns-clause-rows c =
    rows_back c.args.net.now c.in_ok-other.other c.args.k c.in_ok-rows.rows c.in_ok-made.made c.in_ok-other.ensures c.is_too_fine.ensures.built.monotone c.requires.some c.in_ok-rows.ensures.rows
    (c.in_ok-made.ensures ∙ ap (λ xs. reverse (map turned_row xs)) c.get.ensures)
