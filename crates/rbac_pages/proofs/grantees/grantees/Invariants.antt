use Rattle.std.proofs.Common.{◌≡◌, filter, take}
use Rattle.rbac_pages.specs.GranteeText.{is_grantee}
use Rattle.rbac_pages.proofs.grantees.grantees.Given as goal

-- those of the roles so far
abbrev pub invariant-loop-role : goal.invariant-loop-role
invariant-loop-role l = l.roles.items ≡ filter (is_grantee l.policy (l.operation, l.object)) (take l.role-index l.role-items)
