use Rattle.std.proofs.Common.{◌≡◌, take, slice_get, filter}
use Rattle.rbac_decide.proofs.Common.{filter_map, has, Name, name_cmp}
use Rattle.rbac_decide.proofs.gains.places_among.Given as goal

abbrev pub invariant-loop-name : goal.invariant-loop-name
invariant-loop-name l = filter_map (slice_get l.among) l.places.items ≡ filter (λ (r : Name). has name_cmp r l.among) (take l.name-index l.names)
