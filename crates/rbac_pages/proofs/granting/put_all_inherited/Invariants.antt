use Rattle.std.proofs.Common.{◌≡◌, ◌++◌, take}
use Rattle.std.specs.List.{flat_map}
use Rattle.rbac_pages.specs.WhyText.{inherits_text}
use Rattle.rbac_pages.proofs.granting.put_all_inherited.Given as goal

-- the roles so far
abbrev pub invariant-loop-role : goal.invariant-loop-role
invariant-loop-role l = l.text.items ≡ l.fn.text.items ++ flat_map inherits_text (take l.role-index l.roles)
