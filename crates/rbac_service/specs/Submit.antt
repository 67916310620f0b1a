-- What a submit tells of the node that it found under a lock.
use Rattle.std.specs.Prelude.{◌≡◌, ◌≢◌, ◌+◌, Some, None}
use Rattle.rbac_terms.specs.Vocabulary.{Vocabulary}
use Rattle.rbac_words.specs.Group.{Group}
use Rattle.rbac_words.specs.World.{stamp}
use Rattle.rbac_words.specs.declared.stamp.Stamp.{Stamp}
use Rattle.rbac_node.specs.Node.{NodeState, IsNode}
use Rattle.rbac_node.specs.Pass.{PassState, pass_refusal}
use Rattle.rbac_node.specs.declared.refusal.ServiceRefusal.{ServiceRefusal}
use Rattle.rbac_node.specs.declared.refusal.ServiceRefusal.TheVariants as refused
use Rattle.rbac_service.specs.Ticket.{ticket_back}
use Rattle.rbac_service.specs.declared.refusal.CallRefusal.{CallRefusal}
use Rattle.rbac_service.specs.declared.refusal.CallRefusal.TheVariants.{Submit, Await}

-- a node of the founding: all that is known of what lies under a lock
pub record IsOfFounding (founded_group : Group) (founded_vocabulary : Vocabulary) (n : NodeState) : Type 0 where
  pub kept : IsNode n
  pub group : n.member.group ≡ founded_group
  pub vocabulary : n.member.vocabulary ≡ founded_vocabulary

-- a node of the founding that had no reason to refuse the pass's next command submitted it, with its member's next stamp
pub record IsSubmitted (founded_group : Group) (founded_vocabulary : Vocabulary) (p : PassState) (s : Stamp) : Type 0 where
  pub node : NodeState
  pub founding : IsOfFounding founded_group founded_vocabulary node
  pub accepted : pass_refusal node p ≡ None
  pub next : s ≡ stamp (node.member.clock + 1) node.member.number

-- a node of the founding did not submit it, for the first reason that applied; for want of memory, where none did
pub record IsNotSubmitted (founded_group : Group) (founded_vocabulary : Vocabulary) (p : PassState) (refusal : ServiceRefusal) : Type 0 where
  pub node : NodeState
  pub founding : IsOfFounding founded_group founded_vocabulary node
  pub first : refusal ≢ refused.NoMemory → pass_refusal node p ≡ Some refusal
  pub memory : refusal ≡ refused.NoMemory → pass_refusal node p ≡ None

-- what a call that is refused tells of its submit: one that is refused while it waits has submitted its command
abbrev pub TellsSubmit : Group → Vocabulary → PassState → CallRefusal → Type 0
TellsSubmit group vocabulary p (Submit refusal) = IsNotSubmitted group vocabulary p refusal
TellsSubmit group vocabulary p (Await refusal) = IsSubmitted group vocabulary p (ticket_back refusal).call.stamp
