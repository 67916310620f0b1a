use Rattle.group_tests.proofs.tests.nodes.two_nodes_deliver_a_command.Given as goal

-- the founding that was just made
abbrev pub ghosts-talk_once : goal.ghosts-talk_once
ghosts-talk_once g a = record { group = a.founding.now.group; vocabulary = a.founding.now.vocabulary; cells = a.founding.now.rows }
