-- The refusals of this crate as the book's, and when a message is not sent.
use Rattle.std.specs.Prelude.{◌≡◌, ◌<◌, ◌≤◌, length}
use Rattle.rbac_words.specs.declared.event.Refusal.{Refusal}
use Rattle.rbac_words.specs.declared.event.Refusal.TheVariants as refused
use Rattle.rbac_links.specs.Outbox.{Outbox}
use Rattle.rbac_links.specs.declared.refusal.LinkRefusal.{LinkRefusal}
use Rattle.rbac_links.specs.declared.refusal.LinkRefusal.TheVariants.{UnknownMember, FromSelf, Repeat, Gap, StampNotRising}
use Rattle.rbac_links.specs.declared.refusal.OutboxRefusal.{OutboxRefusal}
use Rattle.rbac_links.specs.declared.refusal.OutboxRefusal.TheVariants.{Full, NoMemory}

abbrev pub link_refused : LinkRefusal → Refusal
link_refused UnknownMember = refused.UnknownMember
link_refused FromSelf = refused.FromSelf
link_refused (Repeat expected) = refused.Repeat expected
link_refused (Gap expected) = refused.Gap expected
link_refused StampNotRising = refused.StampNotRising

-- a full list refuses each message, and want of memory one for which there is no room yet in a list that is not full
abbrev pub IsSendRefused : Outbox → OutboxRefusal → Type 0
IsSendRefused o Full = o.limit ≤ length o.sent
IsSendRefused o NoMemory = (length o.sent < o.limit) × (o.room ≡ 0)
