-- What one member did, move after move, by itself: a member that is run by whoever brings it the messages of the others. A
-- move is a call that was not refused; a refused one changes nothing and is no move.
use Rattle.std.specs.Prelude.{ℕ, ◌≡◌, ◌≢◌, ◌<◌, ◌+◌, ◌-◌, ⊤, List, [], ◌∷◌, ◌++◌, length, Option, Some, None, slice_get}
use Rattle.rbac_terms.specs.Vocabulary.{Vocabulary}
use Rattle.rbac_terms.specs.declared.command.Command.{Command}
use Rattle.rbac_words.specs.Group.{Group}
use Rattle.rbac_words.specs.World.{submit_refusal}
use Rattle.rbac_words.specs.Keeping.Member.{Member, founded, node_of, submitted, received, message_refusal, deliver_due, due_at}
use Rattle.rbac_words.specs.Keeping.Members.{member_at}
use Rattle.rbac_words.specs.Keeping.Own.{own_refusal, took_own}
use Rattle.rbac_words.specs.declared.event.Refusal.{Refusal}
use Rattle.rbac_words.specs.declared.message.Message.{Message}

-- a caller's next commands are submitted together; message `number` of member `from` is received; message `number` of the
-- member's own row is taken; what is due is delivered
pub data Move : Type 0 where
  submits : ℕ → ℕ → List Command → Move
  receives : ℕ → ℕ → Message → Move
  takes_own : ℕ → Message → Move
  delivers : Move

-- why a call is no move: the first refusal that applies
abbrev pub move_refusal : Member → Move → Option Refusal
move_refusal v (submits caller serial commands) = submit_refusal v.group (node_of v) caller serial (length commands)
move_refusal v (receives from number m) = message_refusal v from number m
move_refusal v (takes_own number m) = own_refusal v number m
move_refusal v delivers = None

-- what a move leaves
abbrev pub moved : Member → Move → Member
moved v (submits caller serial commands) = submitted v caller serial commands
moved v (receives from number m) = received v from m
moved v (takes_own number m) = took_own v m
moved v delivers = deliver_due v (due_at v)

-- what moves leave, one after the other: a function of the moves, so whoever makes the same moves has the same member
abbrev pub run : Member → List Move → Member
run v [] = v
run v (move ∷ moves) = run (moved v move) moves

-- none of them is refused in its turn
abbrev pub AreMoves : Member → List Move → Type 0
AreMoves v [] = ⊤
AreMoves v (move ∷ moves) = (move_refusal v move ≡ None) × AreMoves (moved v move) moves

-- the member of this number made just these moves from its founding on
pub record HasMade (group : Group) (vocabulary : Vocabulary) (number : ℕ) (v : Member) (moves : List Move) : Type 0 where
  pub allowed : AreMoves (founded group number vocabulary) moves
  pub is : run (founded group number vocabulary) moves ≡ v

-- each message that these moves took of member k is one that it sent, by its number
abbrev pub WereSent : ℕ → List Message → List Move → Type 0
WereSent k sent [] = ⊤
WereSent k sent (receives from number m ∷ moves) = (from ≡ k → slice_get sent (number - 1) ≡ Some m) × WereSent k sent moves
WereSent k sent (submits caller serial commands ∷ moves) = WereSent k sent moves
WereSent k sent (takes_own number m ∷ moves) = WereSent k sent moves
WereSent k sent (delivers ∷ moves) = WereSent k sent moves

-- members of one founding, each run by itself, over transports that brought only sent messages
pub record AreRun (group : Group) (vocabulary : Vocabulary) (members : List Member) (moves : ℕ → List Move) : Type 0 where
  pub count : length members ≡ group.members
  pub made : (i : ℕ) → i < length members → HasMade group vocabulary (i + 1) (member_at members i) (moves i)
  pub brought : (i j : ℕ) → i < length members → j < length members → i ≢ j → WereSent (j + 1) (member_at members j).sent (moves i)

-- ---- A member that was lost, and made anew

-- a member that made these moves, and others after them by which it sent nothing
pub record SentNothingSince (v : Member) (moves later : List Move) : Type 0 where
  pub same : (run v (moves ++ later)).sent ≡ (run v moves).sent

-- what a member of this number once was, before it was lost: all that it sent then is the beginning of what the member of that
-- number has sent, and it too took only what was sent
pub record IsEarlier (group : Group) (vocabulary : Vocabulary) (members : List Member) (i : ℕ) (before : Member) : Type 0 where
  pub moves : List Move
  pub made : HasMade group vocabulary (i + 1) before moves
  pub more : List Message
  pub sent : (member_at members i).sent ≡ before.sent ++ more
  pub brought : (j : ℕ) → j < length members → i ≢ j → WereSent (j + 1) (member_at members j).sent moves
