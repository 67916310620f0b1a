use Rattle.rbac_service.proofs.thread_tests.run_seed.Given as goal

-- the founding that was just made
abbrev pub ghosts-run_with : goal.ghosts-run_with
ghosts-run_with g a = record { group = a.founding.group; vocabulary = a.founding.words; cells = a.founding.rows }
