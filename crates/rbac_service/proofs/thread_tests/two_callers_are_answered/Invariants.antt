use Rattle.rbac_service.proofs.thread_tests.two_callers_are_answered.Given as goal

-- the founding that was just made
abbrev pub ghosts-run_with_channels : goal.ghosts-run_with_channels
ghosts-run_with_channels g a = record { group = a.group; vocabulary = a.words; cells = a.rows }
