use Rattle.rbac_service.proofs.thread_tests.hints_alone_bring_answers_and_the_stop.Given as goal

-- the founding that was just made
abbrev pub ghosts-run_with_patience : goal.ghosts-run_with_patience
ghosts-run_with_patience g a = record { group = a.group; vocabulary = a.words; cells = a.rows }
