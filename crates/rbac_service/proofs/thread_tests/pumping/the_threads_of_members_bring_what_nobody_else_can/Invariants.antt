use Rattle.rbac_service.proofs.thread_tests.pumping.the_threads_of_members_bring_what_nobody_else_can.Given as goal

-- the founding that was just made
abbrev pub ghosts-run : goal.ghosts-run
ghosts-run g a = record { group = a.founding.group; vocabulary = a.founding.words; cells = a.founding.rows }
