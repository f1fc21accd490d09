use Rattle.pf_tests.proofs.sweeps.labels_only_rise.Given as goal

abbrev pub ghosts-climb : goal.ghosts-climb
ghosts-climb g a = record { name = a.blank.name; parts = a.blank.parts }
