-- Members that are called by bytes, each by itself: what they are after their calls, and when the texts that they got are those
-- that the others told.
use Rattle.std.specs.Prelude.{ℕ, Bool, true, false, ◌≡◌, ◌≢◌, ◌<◌, ◌+◌, ◌-◌, ⊤, List, [], ◌∷◌, length, Some, None, Ok, slice_get}
use Rattle.rbac_terms.specs.Vocabulary.{Vocabulary}
use Rattle.rbac_words.specs.Group.{Group}
use Rattle.rbac_words.specs.World.{World}
use Rattle.rbac_words.specs.Play.{IsPrefixOf}
use Rattle.rbac_words.specs.Keeping.Member.{Member, IsNumber, founded}
use Rattle.rbac_words.specs.Keeping.Members.{member_at}
use Rattle.rbac_words.specs.Keeping.Own.{next_own, own_refusal}
use Rattle.rbac_words.specs.declared.message.Message.{Message}
use Rattle.rbac_moves.specs.Seal.{row}
use Rattle.rbac_moves.specs.Rows.{with_message}
use Rattle.rbac_message_text.specs.Message.{message_read}
use Rattle.rbac_embedded_member.specs.Place.{KeptMember}
use Rattle.rbac_embedded_member.specs.Observing.{acting_step, receiving}
use Rattle.rbac_embedded_member.specs.Step.{Step, submit_step, submit_batch_step, receive_step, take_own_step, deliver_step}

-- a call that was not answered NO_MEMORY, whatever else it was answered with
pub data Call : Type 0 where
  calls_submit : ℕ → ℕ → List ℕ → Call
  calls_submit_batch : ℕ → ℕ → List ℕ → Call
  calls_receive : ℕ → ℕ → List ℕ → Call
  calls_take_own : ℕ → List ℕ → Call
  calls_deliver : Call

abbrev pub step_of : Call → Member → Step
step_of (calls_submit caller serial text) v = submit_step caller serial text v
step_of (calls_submit_batch caller serial text) v = submit_batch_step caller serial text v
step_of (calls_receive from number text) v = receive_step from number text v
step_of (calls_take_own number text) v = take_own_step number text v
step_of calls_deliver v = deliver_step v

-- the member after these calls
abbrev pub called : Member → List Call → Member
called v [] = v
called v (call ∷ calls) = called (step_of call v).member calls

-- the text is one of message `number` of these
pub record IsTold (sent : List Message) (number : ℕ) (text : List ℕ) : Type 0 where
  pub message : Message
  pub is : slice_get sent (number - 1) ≡ Some message
  pub reads : message_read text ≡ Ok message

-- each text that was brought as one of member k is one of a message that k sent, by its number
abbrev pub WereTold : ℕ → List Message → List Call → Type 0
WereTold k sent [] = ⊤
WereTold k sent (calls_receive from number text ∷ calls) = (from ≡ k → IsTold sent number text) × WereTold k sent calls
WereTold k sent (calls_submit caller serial text ∷ calls) = WereTold k sent calls
WereTold k sent (calls_submit_batch caller serial text ∷ calls) = WereTold k sent calls
WereTold k sent (calls_take_own number text ∷ calls) = WereTold k sent calls
WereTold k sent (calls_deliver ∷ calls) = WereTold k sent calls

-- the members of one founding, each run by whoever calls it, over transports that bring only texts of sent messages
pub record AreCalled (group : Group) (vocabulary : Vocabulary) (members : List Member) (calls : ℕ → List Call) : Type 0 where
  pub count : length members ≡ group.members
  pub made : (i : ℕ) → i < length members → called (founded group (i + 1) vocabulary) (calls i) ≡ member_at members i
  pub told : (i j : ℕ) → i < length members → j < length members → i ≢ j → WereTold (j + 1) (member_at members j).sent (calls i)

-- ---- Rows: what each member sent stands in its row before it is in any memory

-- a process that is a member by these calls, over a transport that brought only texts of what stands in the rows; all that it sent
-- and took of its own stands in its row
pub record IsCalledInRow (w : World) (number : ℕ) (v : Member) (calls : List Call) : Type 0 where
  pub is_number : IsNumber w.group number
  pub made : called (founded w.group number w.vocabulary) calls ≡ v
  pub told : (k : ℕ) → IsNumber w.group k → k ≢ number → WereTold k (row w k) calls
  pub own : IsPrefixOf v.sent (row w number)

-- a process of member k, called so, which has taken all of its row and does not refuse this message as the next
pub record MayBeSet (w : World) (k : ℕ) (m : Message) : Type 0 where
  pub by : Member
  pub calls : List Call
  pub is_called : IsCalledInRow w k by calls
  pub has_all : by.sent ≡ row w k
  pub accepted : own_refusal by (next_own by) m ≡ None

-- messages that were set one after the other, each behind the row of its member
abbrev pub WereSet : World → List (ℕ × Message) → Type 0
WereSet w [] = ⊤
WereSet w (s ∷ sets) = MayBeSet w s.0 s.1 × WereSet (with_message w s.0 s.1) sets

-- ---- A place that only observes

-- what a call does in a place, which acts or only observes
abbrev pub call_step : Call → KeptMember → Step
call_step (calls_submit caller serial text) k = acting_step (submit_step caller serial text) k
call_step (calls_submit_batch caller serial text) k = acting_step (submit_batch_step caller serial text) k
call_step (calls_receive from number text) k = receiving from number text k
call_step (calls_take_own number text) k = take_own_step number text k.member
call_step calls_deliver k = deliver_step k.member

abbrev pub observing : Member → KeptMember
observing v = record { member = v; observes = true }

-- the member of a place that only observes, after these calls
abbrev pub observed : Member → List Call → Member
observed v [] = v
observed v (call ∷ calls) = observed (call_step call (observing v)).member calls

-- whether a call takes of the member's own row
abbrev pub is_of_own : Call → Bool
is_of_own (calls_take_own number text) = true
is_of_own (calls_submit caller serial text) = false
is_of_own (calls_submit_batch caller serial text) = false
is_of_own (calls_receive from number text) = false
is_of_own calls_deliver = false

-- each text that was given as one of its own row is one of a message of that row, by its number
abbrev pub WereOwn : List Message → List Call → Type 0
WereOwn row [] = ⊤
WereOwn row (calls_take_own number text ∷ calls) = IsTold row number text × WereOwn row calls
WereOwn row (calls_submit caller serial text ∷ calls) = WereOwn row calls
WereOwn row (calls_submit_batch caller serial text ∷ calls) = WereOwn row calls
WereOwn row (calls_receive from number text ∷ calls) = WereOwn row calls
WereOwn row (calls_deliver ∷ calls) = WereOwn row calls

-- a process that observes a member by these calls, over a transport that brought only texts of what stands in the rows
pub record IsObserved (w : World) (number : ℕ) (v : Member) (calls : List Call) : Type 0 where
  pub is_number : IsNumber w.group number
  pub made : observed (founded w.group number w.vocabulary) calls ≡ v
  pub told : (k : ℕ) → IsNumber w.group k → k ≢ number → WereTold k (row w k) calls
  pub own : WereOwn (row w number) calls
