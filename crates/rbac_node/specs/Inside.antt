-- How a node's fields make its value, and what they keep.
use Rattle.std.specs.Prelude.{ℕ, Bool, ◌≡◌, ◌≤◌, ◌-◌, List, length, map, slice_index_or}
use Rattle.rbac_terms.specs.Vocabulary.{Vocabulary}
use Rattle.rbac_words.specs.Group.{Group}
use Rattle.rbac_words.specs.Keeping.Member.{Member}
use Rattle.rbac_words.specs.declared.message.Message.{Message}
use Rattle.rbac_words.specs.declared.record.Record.{Record}
use Rattle.rbac_board.specs.Known.{Known, IsOf}
use Rattle.rbac_node.specs.Cells.{Cells, sent_cells, history_cells}
use Rattle.rbac_node.specs.Node.{NodeState, IsShown}

abbrev pub state_of : Member → Known Message → Known Record → List (Known Message) → ℕ → Bool → NodeState
state_of v sent history reads next_caller is_stopped = record {
  member = v;
  sent = sent.values;
  history = history.values;
  reads = map (λ r. r.values) reads;
  next_caller = next_caller;
  is_stopped = is_stopped;
}

-- a mark of each member's sent row, in order of number
pub record AreReads (c : Cells) (members : ℕ) (marks : List (Known Message)) : Type 0 where
  pub count : length marks ≡ members
  pub rows : (k : ℕ) (d : Known Message) → 1 ≤ k → k ≤ members → IsOf (sent_cells c k) (slice_index_or marks (k - 1) d)

-- the node is of this founding, its marks are of that founding's rows, and it shows and sees what nodes do
pub record IsKept (founded_group : Group) (founded_vocabulary : Vocabulary) (c : Cells) (n : NodeState) (sent_mark : Known Message) (history_mark : Known Record) (marks : List (Known Message)) : Type 0 where
  pub group : n.member.group ≡ founded_group
  pub vocabulary : n.member.vocabulary ≡ founded_vocabulary
  pub shown : IsShown n
  pub sent : IsOf (sent_cells c n.member.number) sent_mark
  pub history : IsOf (history_cells c n.member.number) history_mark
  pub reads : AreReads c founded_group.members marks
