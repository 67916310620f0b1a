-- What a pass is told where its member refuses a submit.
use Rattle.std.specs.Prelude.{Option, Some, None}
use Rattle.rbac_words.specs.declared.event.Refusal.{Refusal}
use Rattle.rbac_words.specs.declared.event.Refusal.TheVariants as rule
use Rattle.rbac_node.specs.declared.refusal.ServiceRefusal.{ServiceRefusal}
use Rattle.rbac_node.specs.declared.refusal.ServiceRefusal.TheVariants as refused

-- a member's reason to refuse a submit, as a pass is told it: a serial that the member does not expect, or takes for too large,
-- is that of another service's pass
abbrev pub told : Refusal → ServiceRefusal
told rule.UnknownMember = refused.Foreign
told rule.BadBatch = refused.Foreign
told rule.FromSelf = refused.Foreign
told rule.NotSent = refused.Foreign
told (rule.Repeat expected) = refused.Foreign
told (rule.Gap expected) = refused.Foreign
told rule.StampNotRising = refused.Foreign
told rule.ClockFull = refused.ClockFull
told rule.SentFull = refused.SentFull
told (rule.BadSerial next) = refused.Foreign
told rule.NoMemory = refused.NoMemory

abbrev pub if_told : Option Refusal → Option ServiceRefusal
if_told None = None
if_told (Some r) = Some (told r)
