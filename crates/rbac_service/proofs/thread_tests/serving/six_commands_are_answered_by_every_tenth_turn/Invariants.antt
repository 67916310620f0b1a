use Rattle.rbac_service.proofs.thread_tests.serving.six_commands_are_answered_by_every_tenth_turn.Given as goal

-- the founding that was just made
abbrev pub ghosts-run : goal.ghosts-run
ghosts-run g a = record { group = a.founding.group; vocabulary = a.founding.words; cells = a.founding.rows }
