use Rattle.std.proofs.Common.{◌≡◌, ◌-◌, ◌==◌, drop}
use Rattle.std.specs.List.{filter, slice_get}
use Rattle.rbac_pages.specs.declared.diagram.messages.Sent.{Sent}
use Rattle.rbac_pages.proofs.diagram.messages.message_of.Given as goal

-- so many of the member's messages are before it, from here on
abbrev pub invariant-loop-one : goal.invariant-loop-one
invariant-loop-one l =
    slice_get (filter (λ (s : Sent). s.member == l.from) (drop l.one-index l.sent)) l.before ≡ slice_get (filter (λ (s : Sent). s.member == l.from) l.sent) (l.number - 1)
