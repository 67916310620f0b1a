use Rattle.group_tests.proofs.tests.nodes.what_was_not_published_is_of_no_group.Given as goal

-- the founding that was just made
abbrev pub ghosts-read_too_much : goal.ghosts-read_too_much
ghosts-read_too_much g a = record { group = a.founding.now.group; vocabulary = a.founding.now.vocabulary; cells = a.founding.now.rows }
