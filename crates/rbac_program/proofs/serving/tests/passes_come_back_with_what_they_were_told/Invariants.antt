use Rattle.rbac_program.proofs.serving.tests.passes_come_back_with_what_they_were_told.Given as goal

-- the founding that was just made, and its rows
abbrev pub ghosts-run : goal.ghosts-run
ghosts-run g a = record { group = a.group; vocabulary = a.words; cells = a.rows }
