use Rattle.pf_preflow.proofs.engine.Engine.find_from.Given as goal

abbrev pub ghosts-run_uncounted : goal.ghosts-run_uncounted
ghosts-run_uncounted a = record { name = a.blank.name; parts = a.blank.parts }
