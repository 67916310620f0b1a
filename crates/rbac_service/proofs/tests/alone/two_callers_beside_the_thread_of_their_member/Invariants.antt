use Rattle.rbac_service.proofs.tests.alone.two_callers_beside_the_thread_of_their_member.Given as goal

-- the founding that was just made
abbrev pub ghosts-run : goal.ghosts-run
ghosts-run g a = record { group = a.founding.group; vocabulary = a.founding.words; cells = a.founding.rows }
