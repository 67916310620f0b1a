use Rattle.std.proofs.Common.{◌≡◌, ◌++◌, take}
use Rattle.std.specs.List.{flat_map}
use Rattle.rbac_pages.specs.TraceText.{held_in}
use Rattle.rbac_pages.proofs.held.add_all_held.Given as goal

-- the messages so far
abbrev pub invariant-loop-message : goal.invariant-loop-message
invariant-loop-message l = l.held.items ≡ l.fn.held.items ++ flat_map (held_in l.last) (take l.message-index l.messages)
