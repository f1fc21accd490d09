use Rattle.pf_sweep.proofs.rows.rows_from.Given as goal

abbrev pub ghosts-add_rows : goal.ghosts-add_rows
ghosts-add_rows a = record { name = a.blank.name; parts = a.blank.parts }
