use Rattle.rbac_service.proofs.tests.cells.nobody_is_told_of_what_is_not_published.Given as goal

-- the founding that was just made
abbrev pub ghosts-run_unpublished : goal.ghosts-run_unpublished
ghosts-run_unpublished g a = record { group = a.founding.group; vocabulary = a.founding.words; cells = a.founding.rows }
