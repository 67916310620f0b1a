use Rattle.group_tests.proofs.tests.passes.passes_of_others_are_foreign.Given as goal

-- the founding that was just made
abbrev pub ghosts-strangers : goal.ghosts-strangers
ghosts-strangers g a = record { group = a.group; vocabulary = a.vocabulary; cells = a.rows.now }
