use Rattle.pf_preflow.proofs.engine.Engine.find.Given as goal

abbrev pub ghosts-start_and_run : goal.ghosts-start_and_run
ghosts-start_and_run a = record { name = a.blank.name; parts = a.blank.parts }
