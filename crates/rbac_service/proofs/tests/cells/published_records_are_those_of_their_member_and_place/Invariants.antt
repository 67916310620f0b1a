use Rattle.rbac_service.proofs.tests.cells.published_records_are_those_of_their_member_and_place.Given as goal

-- the founding that was just made
abbrev pub ghosts-run_published : goal.ghosts-run_published
ghosts-run_published g a = record { group = a.founding.group; vocabulary = a.founding.words; cells = a.founding.rows }
