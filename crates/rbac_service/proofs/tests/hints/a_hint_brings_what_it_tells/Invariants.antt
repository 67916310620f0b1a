use Rattle.rbac_service.proofs.tests.hints.a_hint_brings_what_it_tells.Given as goal

-- the founding that was just made
abbrev pub ghosts-run_hints : goal.ghosts-run_hints
ghosts-run_hints g a = record { group = a.founding.group; vocabulary = a.founding.words; cells = a.founding.rows }
