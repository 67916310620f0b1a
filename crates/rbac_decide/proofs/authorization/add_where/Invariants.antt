use Rattle.std.proofs.Common.{◌≡◌, ◌||◌, ◌&&◌, drop}
use Rattle.rbac_decide.proofs.Common.{has, Name, name_cmp}
use Rattle.rbac_decide.proofs.authorization.add_where.Given as goal

abbrev pub invariant-loop-name : goal.invariant-loop-name
invariant-loop-name g l =
    (r : Name) → (has name_cmp r l.kept || (has name_cmp r (drop l.name-index l.names) && g.T.KeyTest.passes l.test r)) ≡ (has name_cmp r l.fn.kept || (has name_cmp r l.names && g.T.KeyTest.passes l.test r))
