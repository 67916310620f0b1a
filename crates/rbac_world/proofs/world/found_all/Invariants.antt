use Rattle.std.proofs.Common.{◌≡◌}
use Rattle.rbac_world.specs.Inside.{founded_all}
use Rattle.rbac_world.proofs.world.found_all.Given as goal

-- the members so far
abbrev pub invariant-loop-place : goal.invariant-loop-place
invariant-loop-place l = l.members.items ≡ founded_all l.group l.vocabulary l.place
