use Rattle.rbac_service.proofs.tests.hints.a_hint_of_itself_delivers.Given as goal

-- the founding that was just made
abbrev pub ghosts-run_own_hint : goal.ghosts-run_own_hint
ghosts-run_own_hint g a = record { group = a.founding.group; vocabulary = a.founding.words; cells = a.founding.rows }
