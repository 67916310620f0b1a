use Rattle.rbac_service.proofs.tests.two_callers_take_turns.Given as goal

-- the founding that was just made
abbrev pub ghosts-run_alone : goal.ghosts-run_alone
ghosts-run_alone g a = record { group = a.founding.group; vocabulary = a.founding.words; cells = a.founding.rows }
