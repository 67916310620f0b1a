use Rattle.rbac_service.proofs.tests.helping.news_is_left_to_those_who_go_round.Given as goal

-- the founding that was just made
abbrev pub ghosts-run_left : goal.ghosts-run_left
ghosts-run_left g a = record { group = a.founding.group; vocabulary = a.founding.words; cells = a.founding.rows }
