use Rattle.rbac_service.proofs.tests.helping.a_stopped_member_is_not_helped.Given as goal

-- the founding that was just made
abbrev pub ghosts-run_stopped : goal.ghosts-run_stopped
ghosts-run_stopped g a = record { group = a.founding.group; vocabulary = a.founding.words; cells = a.founding.rows }
