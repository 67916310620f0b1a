-- What a refusal hands back, and what a whole call leaves.
use Rattle.std.specs.Prelude.{◌≡◌, ◌+◌, true, length}
use Rattle.rbac_terms.specs.declared.command.Command.{Command}
use Rattle.rbac_words.specs.declared.stamp.Stamp.{Stamp}
use Rattle.rbac_node.specs.Pass.{PassState, TicketState, Owns}
use Rattle.rbac_service.specs.declared.refusal.AwaitRefusal.{AwaitRefusal}
use Rattle.rbac_service.specs.declared.refusal.AwaitRefusal.TheVariants as awaiting
use Rattle.rbac_service.specs.declared.refusal.CallRefusal.{CallRefusal}
use Rattle.rbac_service.specs.declared.refusal.CallRefusal.TheVariants.{Submit, Await}

-- the ticket that was not answered
abbrev pub ticket_back : AwaitRefusal → TicketState
ticket_back (awaiting.Stopped ticket) = ticket
ticket_back (awaiting.NoMemory ticket) = ticket

-- the ticket of a pass's next command, submitted with this stamp
abbrev pub called : PassState → Stamp → Command → TicketState
called p stamp command = record { call = record { stamp = stamp; caller = p.caller; serial = p.next; command = command }; seen = length p.front }

-- a call that is refused at its submit changes nothing; one that is refused while it waits has submitted its command, and hands back the ticket, which is
-- the pass's outstanding one
abbrev pub IsCallRefused : PassState → Command → CallRefusal → PassState → Type 0
IsCallRefused old command (Submit refusal) new = new ≡ old
IsCallRefused old command (Await refusal) new =
    (new ≡ record old { next = old.next + 1; is_waiting = true }) × Owns new (ticket_back refusal) × (ticket_back refusal ≡ called old (ticket_back refusal).call.stamp command)
