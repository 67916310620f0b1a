use Rattle.rbac_service.proofs.tests.cells.an_answer_by_cells_that_were_taken_is_not_confirmed.Given as goal

-- the founding that was just made
abbrev pub ghosts-run_twin : goal.ghosts-run_twin
ghosts-run_twin g a = record { group = a.founding.group; vocabulary = a.founding.words; cells = a.founding.rows }
