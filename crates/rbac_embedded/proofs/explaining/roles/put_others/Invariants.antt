use Rattle.std.proofs.Common.{◌≡◌, ◌++◌, take}
use Rattle.std.specs.List.{flat_map}
use Rattle.rbac_embedded.specs.Explaining.{next_role}
use Rattle.rbac_embedded.proofs.explaining.roles.put_others.Given as goal

-- the roles so far
abbrev pub invariant-loop-role : goal.invariant-loop-role
invariant-loop-role l = l.text.items ≡ l.fn.text.items ++ flat_map next_role (take l.role-index l.roles)
