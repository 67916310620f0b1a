use Rattle.std.proofs.Common.{◌≡◌, take}
use Rattle.std.specs.Option.{option_copied}
use Rattle.staged.specs.Made.{made_all}
use Rattle.hashed_keys.specs.Pairs.{found, seconds}
use Rattle.rbac_terms.specs.Name.{pair_cmp}
use Rattle.rbac_rolesets.specs.Changes.{made}
use Rattle.rbac_rolesets.proofs.granting.roles_after.Given as goal

abbrev pub invariant-loop-place : goal.invariant-loop-place
invariant-loop-place l = found (option_copied l.roles) ≡ seconds pair_cmp l.asked (made_all made (take l.place l.plan) l.sets.content).granted
