-- Why a node does not receive a message.
use Rattle.std.specs.Prelude.{ℕ, ◌≡◌, ◌≢◌, ⊤, List, Some, None, slice_get}
use Rattle.rbac_words.specs.World.{read_of}
use Rattle.rbac_words.specs.Keeping.Member.{Member, node_of, message_refusal}
use Rattle.rbac_words.specs.declared.message.Message.{Message}
use Rattle.rbac_member.specs.Calls.{receipt_refused, rule_of}
use Rattle.rbac_member.specs.declared.refusal.ReceiveRefusal.TheVariants as receipt
use Rattle.rbac_node.specs.Node.{NodeState, seen_of, next_number}
use Rattle.rbac_node.specs.declared.refusal.NodeRefusal.{NodeRefusal}
use Rattle.rbac_node.specs.declared.refusal.NodeRefusal.TheVariants.{NotShown, Receive, NoMemory}

-- of these messages of member k the next one is not there, or it is there and the member refuses it for the first reason that
-- applies; want of memory may come in any place
abbrev pub IsRefusedOf : ℕ → List Message → Member → NodeRefusal → Type 0
IsRefusedOf k messages v NotShown = slice_get messages (read_of (node_of v) k) ≡ None
IsRefusedOf k messages v (Receive r) =
    (message : Message) × (slice_get messages (read_of (node_of v) k) ≡ Some message) × (r ≢ receipt.NoMemory) × (message_refusal v k (next_number v k) message ≡ rule_of (receipt_refused r))
IsRefusedOf k messages v NoMemory = ⊤

-- a node does not receive the next message of member k
abbrev pub IsNotReceived : ℕ → NodeState → NodeRefusal → Type 0
IsNotReceived k n refusal = IsRefusedOf k (seen_of n k) n.member refusal
