use Rattle.rbac_service.proofs.thread_tests.a_call_is_held_while_another_is_answered.Given as goal

-- the founding that was just made
abbrev pub ghosts-run_with_gate : goal.ghosts-run_with_gate
ghosts-run_with_gate g a = record { group = a.founding.group; vocabulary = a.founding.words; cells = a.founding.rows }
