use Rattle.rbac_service.proofs.tests.cells.a_cell_that_another_thread_set_is_seen.Given as goal

-- the founding that was just made
abbrev pub ghosts-run_taken : goal.ghosts-run_taken
ghosts-run_taken g a = record { group = a.founding.group; vocabulary = a.founding.words; cells = a.founding.rows }
