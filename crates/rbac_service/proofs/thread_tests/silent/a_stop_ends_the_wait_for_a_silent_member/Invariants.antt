use Rattle.rbac_service.proofs.thread_tests.silent.a_stop_ends_the_wait_for_a_silent_member.Given as goal

-- the founding that was just made
abbrev pub ghosts-run : goal.ghosts-run
ghosts-run g a = record { group = a.founding.group; vocabulary = a.founding.words; cells = a.founding.rows }
