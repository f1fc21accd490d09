use Rattle.std.proofs.Common.{ap, ◌∙◌}
use Rattle.pf_sweep.specs.Swept.{Swept}
use Rattle.pf_sweep.proofs.Rowing.{underway_begins}
use Rattle.pf_sweep.proofs.rows.rows_from.Goals as goal

pub add_rows-requires-clause-sweep : goal.add_rows-requires-clause-sweep
add_rows-requires-clause-sweep c =
    let same = c.in_ok-add_row.ensures.same in
    underway_begins c.args.net.now c.args.k c.add_row.new.sweep c.add_row.new.rows c.frame.ensures.built.monotone (ap (λ (s : Swept). s.net) same ∙ c.requires.net)
    (ap (λ (s : Swept). s.unit) same ∙ c.requires.unit) (ap (λ (s : Swept). s.at) same ∙ c.requires.at) c.in_ok-add_row.ensures.rows
