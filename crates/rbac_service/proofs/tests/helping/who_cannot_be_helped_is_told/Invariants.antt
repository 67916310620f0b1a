use Rattle.rbac_service.proofs.tests.helping.who_cannot_be_helped_is_told.Given as goal

-- the founding that was just made
abbrev pub ghosts-run_told : goal.ghosts-run_told
ghosts-run_told g a = record { group = a.founding.group; vocabulary = a.founding.words; cells = a.founding.rows }
