-- What one member's move leaves of the members of a group.
use Rattle.std.specs.Prelude.{ℕ, Bool, true, not, ◌≡◌, ◌≢◌, ◌+◌, ◌==◌, ◌||◌, nat_lt, if◌then◌else◌, List, length, slice_set, Option, Some, None, is_some, Result, IfOk, IfErr, OnOk, OnErr}
use Rattle.rbac_terms.specs.Vocabulary.{Vocabulary}
use Rattle.rbac_words.specs.Group.{Group}
use Rattle.rbac_words.specs.Message.{has_commands}
use Rattle.rbac_words.specs.World.{stamp, message, acknowledgement, place_of, submit_refusal}
use Rattle.rbac_words.specs.Step.{IsStep}
use Rattle.rbac_words.specs.Keeping.Member.{Member, node_of, submitted, received, deliver_due, due_at, message_refusal}
use Rattle.rbac_words.specs.Keeping.Members.{AreMembers, member_at, world_of}
use Rattle.rbac_terms.specs.declared.command.Command.{Command}
use Rattle.rbac_words.specs.declared.event.Event.{Event}
use Rattle.rbac_words.specs.declared.event.Outcome.{Outcome}
use Rattle.rbac_words.specs.declared.event.Outcome.TheVariants.{Submitted, Received, Delivered}
use Rattle.rbac_words.specs.declared.event.Refusal.{Refusal}
use Rattle.rbac_words.specs.declared.event.Refusal.TheVariants.{NotSent, NoMemory}

-- a move of one member: what refuses it, what it gives, what it leaves of the member, and whether it makes something longer
pub record Move : Type 0 where
  pub refusal : Option Refusal
  pub outcome : Outcome
  pub after : Member
  pub grows : Bool

-- what a member answers that makes a move, where memory may run out, and what is left of it
pub record IsMoved (m : Move) (old : Member) (result : Result Outcome Refusal) (new : Member) : Type 0 where
  pub outcome : IfOk result (λ o. o ≡ m.outcome)
  pub moved : OnOk result (new ≡ m.after)
  pub accepted : OnOk result (m.refusal ≡ None)
  pub first_refusal : IfErr result (λ r. r ≢ NoMemory → m.refusal ≡ Some r)
  pub memory_last : IfErr result (λ r. r ≡ NoMemory → m.refusal ≡ None)
  pub memory_needed : IfErr result (λ r. r ≡ NoMemory → m.grows ≡ true)
  pub unchanged : OnErr result (new ≡ old)

-- the member at this place made the move, and all others are as they were
pub record IsMovedAt (place : ℕ) (m : Move) (old : List Member) (result : Result Outcome Refusal) (new : List Member) : Type 0 where
  pub after : Member
  pub is_moved : IsMoved m (member_at old place) result after
  pub changed : new ≡ slice_set old place after

abbrev pub submit_of : Member → ℕ → ℕ → List Command → Move
submit_of v caller serial commands = record {
  refusal = submit_refusal v.group (node_of v) caller serial (length commands);
  outcome = Submitted (stamp (v.clock + 1) v.number);
  after = submitted v caller serial commands;
  grows = true;
}

-- whether a member sent a message of this number
abbrev pub is_sent : Member → ℕ → Bool
is_sent v n = not (n == 0 || nat_lt (length v.sent) n)

-- why a member does not receive the message of this number of another one
abbrev pub receipt_refusal : Member → Member → ℕ → Option Refusal
receipt_refusal v sender n = if n == 0 || nat_lt (length sender.sent) n then Some NotSent else message_refusal v sender.number n (message (node_of sender) n)

abbrev pub receipt_of : Member → Member → ℕ → Move
receipt_of v sender n = record {
  refusal = receipt_refusal v sender n;
  outcome = Received (acknowledgement (node_of v) (message (node_of sender) n));
  after = received v sender.number (message (node_of sender) n);
  grows = has_commands (message (node_of sender) n);
}

abbrev pub delivery_of : Member → Move
delivery_of v = record {
  refusal = None;
  outcome = Delivered (place_of (node_of v) (due_at v));
  after = deliver_due v (due_at v);
  grows = is_some (due_at v);
}

-- an event was the step of the world, and its members are still those of a group
pub record IsGroupStep (group : Group) (vocabulary : Vocabulary) (old : List Member) (e : Event) (result : Result Outcome Refusal) (new : List Member) : Type 0 where
  pub step : IsStep (world_of group vocabulary old) e result (world_of group vocabulary new)
  pub members : AreMembers group vocabulary new
