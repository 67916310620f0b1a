use Rattle.rbac_service.proofs.thread_tests.stopping.a_stop_amid_calls_of_both_members.Given as goal

-- the founding that was just made
abbrev pub ghosts-run : goal.ghosts-run
ghosts-run g a = record { group = a.founding.group; vocabulary = a.founding.words; cells = a.founding.rows }
