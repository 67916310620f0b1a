use Rattle.group_tests.proofs.tests.nodes.a_full_row_takes_no_more.Given as goal

-- the founding that was just made
abbrev pub ghosts-fill : goal.ghosts-fill
ghosts-fill g a = record { group = a.founding.now.group; vocabulary = a.founding.now.vocabulary; cells = a.founding.now.rows }
