use Rattle.rbac_program.proofs.serving.serve.Given as goal

-- the founding that was just read, and its rows
abbrev pub ghosts-serve_group : goal.ghosts-serve_group
ghosts-serve_group g a = record { group = a.founding.group; vocabulary = a.founding.vocabulary; cells = a.rows }
