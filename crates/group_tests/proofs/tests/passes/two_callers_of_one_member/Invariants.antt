use Rattle.group_tests.proofs.tests.passes.two_callers_of_one_member.Given as goal

-- the founding that was just made
abbrev pub ghosts-two_callers : goal.ghosts-two_callers
ghosts-two_callers g a = record { group = a.group; vocabulary = a.vocabulary; cells = a.rows.now }
