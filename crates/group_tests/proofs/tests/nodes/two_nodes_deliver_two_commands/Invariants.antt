use Rattle.group_tests.proofs.tests.nodes.two_nodes_deliver_two_commands.Given as goal

-- the founding that was just made
abbrev pub ghosts-talk : goal.ghosts-talk
ghosts-talk g a = record { group = a.founding.now.group; vocabulary = a.founding.now.vocabulary; cells = a.founding.now.rows }
