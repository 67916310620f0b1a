use Rattle.rbac_service.proofs.tests.hints.a_sweep_brings_all_that_is_shown.Given as goal

-- the founding that was just made
abbrev pub ghosts-run_sweep : goal.ghosts-run_sweep
ghosts-run_sweep g a = record { group = a.founding.group; vocabulary = a.founding.words; cells = a.founding.rows }
