-- What a desk with a pass for each member tells of itself.
use Rattle.std.specs.Prelude.{ℕ, ◌≡◌, ◌≢◌, ◌+◌, ◌<◌, ◌⊎◌, true, List, length, Option, Some, IfSome, Ok, Err, slice_get, slice_set}
use Rattle.std.specs.Io.KnownBytes.{Appends}
use Rattle.line_engine.specs.Lines.{lines}
use Rattle.rbac_terms.specs.declared.command.Command.{Command}
use Rattle.rbac_words.specs.declared.stamp.Stamp.{Stamp}
use Rattle.rbac_words.specs.Play.{IsPrefixOf}
use Rattle.rbac_node.specs.Node.{NodeState}
use Rattle.rbac_node.specs.Pass.{PassState, IsAnswered}
use Rattle.rbac_service.specs.Ticket.{called}
use Rattle.rbac_lines.specs.declared.refusal.DeskRefusal.{DeskRefusal}
use Rattle.rbac_lines.specs.declared.refusal.DeskRefusal.TheVariants.{NoMemory, Stopped, UnknownMember}
use Rattle.rbac_lines.specs.Text.{Reply}
use Rattle.rbac_lines.specs.Conversation.{Conversation}

-- the pass with its next command submitted
abbrev pub with_ticket : PassState → PassState
with_ticket p = record p { next = p.next + 1; is_waiting = true }

-- why a caller waits no more: the member was stopped, or memory ended
abbrev pub EndsWaiting : DeskRefusal → Type 0
EndsWaiting refusal = (refusal ≡ Stopped) ⊎ (refusal ≡ NoMemory)

-- what a pass is told: an answer stands with the command in the front that the pass has then, and is its own next call, at a
-- stamp of its member; at a refusal nothing was submitted, or the caller waits no more for a command that was. The refusal is
-- never that the member is unknown
abbrev pub Told : PassState → Command → Reply → PassState → Type 0
Told old command (Ok answer) new =
    (stamp : Stamp) × (place : ℕ) × (stamp.member ≡ old.member) × IsAnswered (with_ticket old) (called old stamp command) place answer new
Told old command (Err refusal) new = (refusal ≢ UnknownMember) × ((new ≡ old) ⊎ (EndsWaiting refusal × (new ≡ with_ticket old)))

-- the pass of a member: members are counted from 1
abbrev pub PassOf : List PassState → ℕ → Type 0
PassOf passes at = (place : ℕ) × (p : PassState) × (at ≡ place + 1) × (slice_get passes place ≡ Some p) × (p.member ≡ at)

-- the pass of the member was told so, and the others are as before; where there is none, nothing changed
abbrev pub AsksPasses : List PassState → ℕ → Command → Reply → List PassState → Type 0
AsksPasses old at command reply new =
    ((new ≡ old) × (reply ≡ Err UnknownMember) × (PassOf old at → ⊥))
    ⊎ ((its : PassOf old at) × (q : PassState) × (new ≡ slice_set old its.0 q) × Told its.1 command reply q)

-- the lines of the input, where its bytes are known, were answered by these passes, each line once and in order, and what was
-- written is their texts
abbrev pub Serves : Option (List ℕ) → Option (List ℕ) → Option (List ℕ) → List PassState → List PassState → Type 0
Serves input before after old new =
    IfSome input (λ bytes. (text : List ℕ) × (refused : ℕ) × Appends before after text × Conversation AsksPasses old (lines bytes) text refused new)

-- the pass is of the member of one of the nodes, and its front begins that member's history
abbrev pub IsConfirmed : List NodeState → PassState → Type 0
IsConfirmed nodes p = (place : ℕ) × (n : NodeState) × (slice_get nodes place ≡ Some n) × (n.member.number ≡ p.member) × IsPrefixOf p.front n.member.history

abbrev pub AreConfirmed : List NodeState → List PassState → Type 0
AreConfirmed nodes passes = (place : ℕ) → place < length passes → (p : PassState) → slice_get passes place ≡ Some p → IsConfirmed nodes p
