use Rattle.std.proofs.Common.{◌≡◌, take}
use Rattle.rbac_founding.proofs.names.with_shared_names.Given as goal

abbrev pub invariant-loop-permission : goal.invariant-loop-permission
invariant-loop-permission l = l.shared.items ≡ take l.permission-index l.permissions
