-- What a member's calls answer.
use Rattle.std.specs.Prelude.{ℕ, ◌==◌, if◌then◌else◌, Option, Some, None}
use Rattle.rbac_words.specs.Keeping.Links.{has_link}
use Rattle.rbac_words.specs.World.{read_of}
use Rattle.rbac_words.specs.Keeping.Member.{Member, node_of, links_of}
use Rattle.rbac_words.specs.declared.event.Refusal.{Refusal}
use Rattle.rbac_words.specs.declared.event.Refusal.TheVariants as refused
use Rattle.rbac_links.specs.declared.refusal.LinkRefusal.{LinkRefusal}
use Rattle.rbac_links.specs.declared.refusal.LinkRefusal.TheVariants as link
use Rattle.rbac_member.specs.declared.refusal.SubmitRefusal.{SubmitRefusal}
use Rattle.rbac_member.specs.declared.refusal.SubmitRefusal.TheVariants as submit
use Rattle.rbac_member.specs.declared.refusal.ReceiveRefusal.{ReceiveRefusal}
use Rattle.rbac_member.specs.declared.refusal.ReceiveRefusal.TheVariants as receive
use Rattle.rbac_member.specs.declared.refusal.OwnRefusal.{OwnRefusal}
use Rattle.rbac_member.specs.declared.refusal.OwnRefusal.TheVariants as own

-- a member's refusals as the world's
abbrev pub submit_refused : SubmitRefusal → Refusal
submit_refused submit.BadBatch = refused.BadBatch
submit_refused submit.ClockFull = refused.ClockFull
submit_refused submit.SentFull = refused.SentFull
submit_refused (submit.BadSerial next) = refused.BadSerial next
submit_refused submit.NoMemory = refused.NoMemory

abbrev pub receipt_refused : ReceiveRefusal → Refusal
receipt_refused receive.UnknownMember = refused.UnknownMember
receipt_refused receive.FromSelf = refused.FromSelf
receipt_refused (receive.Repeat expected) = refused.Repeat expected
receipt_refused (receive.Gap expected) = refused.Gap expected
receipt_refused receive.StampNotRising = refused.StampNotRising
receipt_refused receive.BadBatch = refused.BadBatch
receipt_refused receive.ClockFull = refused.ClockFull
receipt_refused receive.SentFull = refused.SentFull
receipt_refused (receive.BadSerial next) = refused.BadSerial next
receipt_refused receive.NoMemory = refused.NoMemory

abbrev pub own_refused : OwnRefusal → Refusal
own_refused (own.Repeat expected) = refused.Repeat expected
own_refused (own.Gap expected) = refused.Gap expected
own_refused own.StampNotRising = refused.StampNotRising
own_refused own.BadBatch = refused.BadBatch
own_refused own.ClockFull = refused.ClockFull
own_refused own.SentFull = refused.SentFull
own_refused (own.BadSerial next) = refused.BadSerial next
own_refused own.NoMemory = refused.NoMemory

-- the rule that a refusal names; want of memory comes only where no rule refuses
abbrev pub rule_of : Refusal → Option Refusal
rule_of refused.UnknownMember = Some refused.UnknownMember
rule_of refused.BadBatch = Some refused.BadBatch
rule_of refused.FromSelf = Some refused.FromSelf
rule_of refused.NotSent = Some refused.NotSent
rule_of (refused.Repeat expected) = Some (refused.Repeat expected)
rule_of (refused.Gap expected) = Some (refused.Gap expected)
rule_of refused.StampNotRising = Some refused.StampNotRising
rule_of refused.ClockFull = Some refused.ClockFull
rule_of refused.SentFull = Some refused.SentFull
rule_of (refused.BadSerial next) = Some (refused.BadSerial next)
rule_of refused.NoMemory = None

-- a link's refusal as a member's
abbrev pub of_link : LinkRefusal → ReceiveRefusal
of_link link.UnknownMember = receive.UnknownMember
of_link link.FromSelf = receive.FromSelf
of_link (link.Repeat expected) = receive.Repeat expected
of_link (link.Gap expected) = receive.Gap expected
of_link link.StampNotRising = receive.StampNotRising

-- how many messages a member took of another one: none of itself and of a stranger
abbrev pub taken_of : Member → ℕ → ℕ
taken_of v k = if k == v.number then 0 else (if has_link (links_of v) k then read_of (node_of v) k else 0)
