use Rattle.group_tests.proofs.tests.refused_passes.a_command_of_a_node_that_is_asked_again.Given as goal

-- the founding that was just made
abbrev pub ghosts-one_command : goal.ghosts-one_command
ghosts-one_command g a = record { group = a.group; vocabulary = a.vocabulary; cells = a.rows.now }
