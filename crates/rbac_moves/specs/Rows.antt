-- Processes that are members by the rows alone: what a member sends stands in its row before anything follows from it, and each
-- process of that member, one or several at a time, takes it from there. A world is read here for its rows alone.
use Rattle.std.specs.Prelude.{ℕ, false, ◌≡◌, ◌≢◌, ◌+◌, ◌-◌, max, ⊤, List, [], ◌∷◌, ◌++◌, Some, None, slice_get, slice_set}
use Rattle.rbac_words.specs.Message.{stamp_of}
use Rattle.rbac_words.specs.World.{World, Node, node}
use Rattle.rbac_words.specs.Play.{IsPrefixOf}
use Rattle.rbac_words.specs.Keeping.Member.{Member, IsNumber}
use Rattle.rbac_words.specs.declared.message.Message.{Message}
use Rattle.rbac_words.specs.Keeping.Own.{next_own, own_refusal}
use Rattle.rbac_moves.specs.Moves.{Move, submits, receives, takes_own, delivers, HasMade, WereSent}
use Rattle.rbac_moves.specs.Seal.{row, wants_answer}

-- the messages of its own row that these moves take
abbrev pub own_messages : List Move → List Message
own_messages [] = []
own_messages (submits caller serial commands ∷ moves) = own_messages moves
own_messages (receives from number m ∷ moves) = own_messages moves
own_messages (takes_own number m ∷ moves) = m ∷ own_messages moves
own_messages (delivers ∷ moves) = own_messages moves

-- moves of a member that only watches, which has sent and taken these: it submits nothing, takes of its own row what stands there,
-- and receives what it need not acknowledge, so what lies below the last message that it took of its own row
abbrev pub AreWatching : List Message → List Message → List Move → Type 0
AreWatching row sent [] = ⊤
AreWatching row sent (submits caller serial commands ∷ moves) = ⊥
AreWatching row sent (receives from number m ∷ moves) = (wants_answer sent m ≡ false) × AreWatching row sent moves
AreWatching row sent (takes_own number m ∷ moves) = (slice_get row (number - 1) ≡ Some m) × AreWatching row (sent ++ m ∷ []) moves
AreWatching row sent (delivers ∷ moves) = AreWatching row sent moves

-- a process that was run as this member by itself, over a transport that brought only what stands in the rows: all that it sent and
-- took of its own stands in its row
pub record HasRunInRow (w : World) (number : ℕ) (v : Member) (moves : List Move) : Type 0 where
  pub is_number : IsNumber w.group number
  pub made : HasMade w.group w.vocabulary number v moves
  pub brought : (k : ℕ) → IsNumber w.group k → k ≢ number → WereSent k (row w k) moves
  pub own : IsPrefixOf v.sent (row w number)

-- a process that only watched
pub record HasWatched (w : World) (number : ℕ) (v : Member) (moves : List Move) : Type 0 where
  pub is_number : IsNumber w.group number
  pub made : HasMade w.group w.vocabulary number v moves
  pub brought : (k : ℕ) → IsNumber w.group k → k ≢ number → WereSent k (row w k) moves
  pub watching : AreWatching (row w number) [] moves

-- these messages of its row are taken one after the other, after the first n
abbrev pub taking : ℕ → List Message → List Move
taking n [] = []
taking n (m ∷ ms) = takes_own (n + 1) m ∷ taking (n + 1) ms

-- a clock that moves to each of these stamps, where it is not there yet
abbrev pub clock_over : ℕ → List Message → ℕ
clock_over c [] = c
clock_over c (m ∷ ms) = clock_over (max c (stamp_of m).clock) ms

-- ---- Rows that grow

-- the rows with a message more in that of member k
abbrev pub with_message : World → ℕ → Message → World
with_message w k m = record w { nodes = slice_set w.nodes (k - 1) (let v : Node = record (node w k) { sent = row w k ++ m ∷ [] } in v) }

-- rows of the same founding, each of which goes on where it ended before
pub record HasGrown (w : World) (later : World) : Type 0 where
  pub same_group : w.group ≡ later.group
  pub same_vocabulary : w.vocabulary ≡ later.vocabulary
  pub rows : (k : ℕ) → IsNumber w.group k → IsPrefixOf (row w k) (row later k)

-- ---- Rows that are set message by message, by any processes

-- a process of member k which has taken all of its row does not refuse this message as the next
pub record MaySet (w : World) (k : ℕ) (m : Message) : Type 0 where
  pub by : Member
  pub moves : List Move
  pub has_run : HasRunInRow w k by moves
  pub has_all : by.sent ≡ row w k
  pub accepted : own_refusal by (next_own by) m ≡ None

-- the rows after these messages were set, each behind the row of its member
abbrev pub rows_after : World → List (ℕ × Message) → World
rows_after w [] = w
rows_after w (s ∷ sets) = rows_after (with_message w s.0 s.1) sets

abbrev pub AreSet : World → List (ℕ × Message) → Type 0
AreSet w [] = ⊤
AreSet w (s ∷ sets) = MaySet w s.0 s.1 × AreSet (with_message w s.0 s.1) sets
