use Rattle.rbac_service.proofs.tests.two_members_answer_and_stop.Given as goal

-- the founding that was just made
abbrev pub ghosts-run_two : goal.ghosts-run_two
ghosts-run_two g a = record { group = a.founding.group; vocabulary = a.founding.words; cells = a.founding.rows }
