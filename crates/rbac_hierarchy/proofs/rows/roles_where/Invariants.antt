use Rattle.std.proofs.Common.{◌≡◌, take}
use Rattle.std.specs.List.{filter}
use Rattle.rbac_hierarchy.specs.Rows.{roles_in}
use Rattle.rbac_hierarchy.proofs.rows.roles_where.Given as goal

abbrev pub invariant-loop-entry : goal.invariant-loop-entry
invariant-loop-entry g l = l.roles ≡ roles_in (filter (λ e. g.T.KeyTest.passes l.test e.0) (take l.entry-index l.rows))
