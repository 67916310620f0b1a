use Rattle.rbac_service.proofs.tests.helping.who_submits_takes_the_turns_of_all.Given as goal

-- the founding that was just made
abbrev pub ghosts-run_helped : goal.ghosts-run_helped
ghosts-run_helped g a = record { group = a.founding.group; vocabulary = a.founding.words; cells = a.founding.rows }
