-- A running member: what lies under its lock, and what its calls leave of that. Each submit, receipt and delivery of a node is
-- one of its member (Member.antt of rbac_words); to publish a message or a record is no event of the world.
use Rattle.std.specs.Prelude.{ℕ, zero, suc, Bool, true, false, ◌≡◌, ◌≢◌, ◌≤◌, ◌<◌, ◌+◌, ◌-◌, ◌==◌, ◌||◌, min, nat_le, List, [], length, map, replicate, Option, Some, None, is_some, slice_get, slice_index_or}
use Rattle.std.specs.List.{AllByRecursion}
use Rattle.rbac_terms.specs.Vocabulary.{Vocabulary}
use Rattle.rbac_words.specs.Group.{Group}
use Rattle.rbac_words.specs.Message.{submissions}
use Rattle.rbac_words.specs.World.{read_of, acknowledgement}
use Rattle.rbac_words.specs.Play.{IsPrefixOf}
use Rattle.rbac_words.specs.Keeping.Member.{Member, IsMember, IsNumber, node_of, founded, received, message_refusal, due_at, deliver_due}
use Rattle.rbac_words.specs.Keeping.Members.{HasReadOf, no_member}
use Rattle.rbac_words.specs.declared.message.Message.{Message}
use Rattle.rbac_words.specs.declared.message.Submission.{Submission}
use Rattle.rbac_words.specs.declared.record.Record.{Record}
use Rattle.rbac_words.specs.declared.stamp.Stamp.{Stamp}

-- the member, what it has published of what it sent and of its history, what it knows of each member's sent row, in order of
-- number, the number of its next caller, and whether it is stopped
pub record NodeState : Type 0 where
  pub member : Member
  pub sent : List Message
  pub history : List Record
  pub reads : List (List Message)
  pub next_caller : ℕ
  pub is_stopped : Bool

abbrev pub founded_node : Group → ℕ → Vocabulary → NodeState
founded_node group number vocabulary = record {
  member = founded group number vocabulary;
  sent = [];
  history = [];
  reads = replicate group.members [];
  next_caller = 0;
  is_stopped = false;
}

abbrev pub with_own_member : NodeState → Member → NodeState
with_own_member n v = record n { member = v }

-- what a node knows of the sent row of member k
abbrev pub seen_of : NodeState → ℕ → List Message
seen_of n k = slice_index_or n.reads (k - 1) []

-- another member of the group
pub record IsAnother (v : Member) (k : ℕ) : Type 0 where
  pub number : IsNumber v.group k
  pub other : k ≢ v.number

-- ---- What a node keeps

-- what a node shows and sees of the rows
pub record IsShown (n : NodeState) : Type 0 where
  -- what it has published begins what its member sent, and what its member delivered
  pub sent : IsPrefixOf n.sent n.member.sent
  pub history : IsPrefixOf n.history n.member.history
  -- of what it knows of each other member's row, a first part are the messages that its member has received
  pub reads : (k : ℕ) → IsAnother n.member k → HasReadOf n.member k (seen_of n k)
  -- each caller in the sent list has a smaller number than the next one
  pub callers : AllByRecursion (λ (x : Submission). x.caller < n.next_caller) (submissions n.member.sent)

pub record IsNode (n : NodeState) : Type 0 where
  pub member : IsMember n.member
  pub shown : IsShown n

-- ---- Receive

-- a node knows at most one message more of the row of member k, and all else is as it was
pub record SeesMore (k : ℕ) (old new : NodeState) : Type 0 where
  pub same : new ≡ record old { reads = new.reads }
  pub others : (j : ℕ) → 1 ≤ j → j ≢ k → seen_of new j ≡ seen_of old j
  pub more : IsPrefixOf (seen_of old k) (seen_of new k)
  pub one : length (seen_of new k) ≤ length (seen_of old k) + 1

-- the number with which the next message of member k is received; numbers end at 4,294,967,295
abbrev pub next_number : Member → ℕ → ℕ
next_number v k = min (read_of (node_of v) k + 1) 4294967295

-- of these messages of member k, the next one is received
pub record Takes (k : ℕ) (messages : List Message) (old : Member) (stamp : Option Stamp) (new : Member) : Type 0 where
  pub message : Message
  pub next : slice_get messages (read_of (node_of old) k) ≡ Some message
  pub accepted : message_refusal old k (next_number old k) message ≡ None
  pub acknowledged : stamp ≡ acknowledgement (node_of old) message
  pub taken : new ≡ received old k message

-- a node's member receives the next message of member k, which the node knows, and all else is as it was
pub record TakesNext (k : ℕ) (old : NodeState) (stamp : Option Stamp) (new : NodeState) : Type 0 where
  pub takes : Takes k (seen_of old k) old.member stamp new.member
  pub same : new ≡ with_own_member old new.member

-- a node first learns of the message, if it does not know it yet
pub record ReceivesNext (k : ℕ) (old : NodeState) (stamp : Option Stamp) (new : NodeState) : Type 0 where
  pub seen : NodeState
  pub sees : SeesMore k old seen
  pub takes : TakesNext k seen stamp new

-- ---- Deliver

-- so many deliveries, one after the other, each of a command that was due
abbrev pub AreDeliveries : ℕ → Member → Member → Type 0
AreDeliveries zero old new = new ≡ old
AreDeliveries (suc n) old new = (v : Member) × AreDeliveries n old v × (is_some (due_at v) ≡ true) × (new ≡ deliver_due v (due_at v))

-- ---- Nodes of a group

abbrev pub members_of : List NodeState → List Member
members_of nodes = map (λ n. n.member) nodes

-- whether a node's member has read no more of another one than that one's node has published
abbrev pub is_within : NodeState → NodeState → Bool
is_within n other = (other.member.number == n.member.number) || nat_le (read_of (node_of n.member) other.member.number) (length other.sent)

abbrev pub no_node : NodeState
no_node = record { member = no_member; sent = []; history = []; reads = []; next_caller = 0; is_stopped = false }

abbrev pub node_at : List NodeState → ℕ → NodeState
node_at nodes i = slice_index_or nodes i no_node

-- at least one node, each member of the group once, in order of number, and none has read more of another than that one's node
-- has published
pub record AreNodes (group : Group) (nodes : List NodeState) : Type 0 where
  pub some : 1 ≤ length nodes
  pub count : length nodes ≡ group.members
  pub numbered : (i : ℕ) → i < length nodes → (node_at nodes i).member.number ≡ i + 1
  pub published : (i j : ℕ) → i < length nodes → j < length nodes → is_within (node_at nodes i) (node_at nodes j) ≡ true
