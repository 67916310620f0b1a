-- A caller's pass, its outstanding ticket, and the answer.
use Rattle.std.specs.Prelude.{ℕ, Bool, true, false, ◌≡◌, ◌≤◌, ◌+◌, ◌==◌, ◌||◌, not, nat_le, max, if◌then◌else◌, List, length, take, Option, Some, slice_get}
use Rattle.std.specs.List.{filter}
use Rattle.rbac_words.specs.Message.{commands_of, is_by, CountsFrom}
use Rattle.rbac_words.specs.Front.{is_of}
use Rattle.rbac_words.specs.Play.{IsPrefixOf}
use Rattle.rbac_words.specs.World.{submit_refusal}
use Rattle.rbac_words.specs.Keeping.Member.{Member, node_of}
use Rattle.rbac_terms.specs.declared.answer.Answer.{Answer}
use Rattle.rbac_words.specs.declared.message.Submission.{Submission}
use Rattle.rbac_words.specs.declared.record.Record.{Record}
use Rattle.rbac_node.specs.Node.{NodeState}
use Rattle.rbac_node.specs.Told.{if_told}
use Rattle.rbac_node.specs.declared.refusal.ServiceRefusal.{ServiceRefusal}
use Rattle.rbac_node.specs.declared.refusal.ServiceRefusal.TheVariants as refused

-- its member, its caller's number there, its next serial, whether a ticket is outstanding, and what it knows of the member's
-- history
pub record PassState : Type 0 where
  pub member : ℕ
  pub caller : ℕ
  pub next : ℕ
  pub is_waiting : Bool
  pub front : List Record

-- the command that was submitted, and how long the pass's front was then
pub record TicketState : Type 0 where
  pub call : Submission
  pub seen : ℕ

-- the ticket is the pass's outstanding one
pub record Owns (p : PassState) (t : TicketState) : Type 0 where
  pub waits : p.is_waiting ≡ true
  pub member : t.call.stamp.member ≡ p.member
  pub caller : t.call.caller ≡ p.caller
  pub serial : t.call.serial + 1 ≡ p.next

-- ---- Submit

-- why a node does not submit a pass's next command: the first that applies
abbrev pub pass_refusal : NodeState → PassState → Option ServiceRefusal
pass_refusal n p =
    if n.is_stopped then Some refused.Stopped
    else (if p.is_waiting then Some refused.Busy
    else (if not (n.member.number == p.member) || nat_le n.next_caller p.caller then Some refused.Foreign
    else if_told (submit_refusal n.member.group (node_of n.member) p.caller p.next 1)))

-- ---- Answers

-- the commands of a caller of a member in a history
abbrev pub calls_of : ℕ → ℕ → List Record → List Submission
calls_of member caller history = filter (is_by caller) (filter (is_of member) (commands_of history))

abbrev pub answered_with : Submission → Answer → Record
answered_with x answer = record { stamp = x.stamp; caller = x.caller; serial = x.serial; command = x.command; answer = answer }

-- the front begins with what it was and goes on to the ticket's call, which stands at the place with this answer, no earlier
-- than what was known when it was submitted; up to there the caller's calls are those with the serials 0, 1, 2 and so on to
-- the ticket's
pub record Reaches (old : List Record) (t : TicketState) (place : ℕ) (answer : Answer) (new : List Record) : Type 0 where
  pub begins : IsPrefixOf old new
  pub long : length new ≡ max (length old) (place + 1)
  pub stands : slice_get new place ≡ Some (answered_with t.call answer)
  pub later : t.seen ≤ place
  pub in_order : CountsFrom 0 (calls_of t.call.stamp.member t.call.caller (take (place + 1) new))
  pub all : length (calls_of t.call.stamp.member t.call.caller (take (place + 1) new)) ≡ t.call.serial + 1

-- the pass's front reaches the ticket's call, and no ticket is outstanding
pub record IsAnswered (old : PassState) (t : TicketState) (place : ℕ) (answer : Answer) (new : PassState) : Type 0 where
  pub front : Reaches old.front t place answer new.front
  pub rest : new ≡ record old { is_waiting = false; front = new.front }
