-- The members of one group, and what each of them has taken of each other one.
use Rattle.std.specs.Prelude.{ℕ, ◌≡◌, ◌≢◌, ◌<◌, ◌+◌, List, [], ◌++◌, length, map, slice_index_or}
use Rattle.std.specs.List.{filter}
use Rattle.rbac_terms.specs.Vocabulary.{Vocabulary, no_vocabulary}
use Rattle.rbac_words.specs.Group.{Group}
use Rattle.rbac_terms.specs.State.{founding_state}
use Rattle.rbac_words.specs.Stamp.{last_stamp}
use Rattle.rbac_words.specs.Message.{stamp_of, submissions, IsLawful}
use Rattle.rbac_words.specs.Front.{is_of}
use Rattle.rbac_words.specs.World.{World, nobody, read_of}
use Rattle.rbac_words.specs.Keeping.Member.{Member, IsMember, node_of, latest_of, known}
use Rattle.rbac_words.specs.declared.message.Message.{Message}

-- these are the messages that a member has taken of member k: so many were read, their commands are those of k that it
-- knows, and the last stamp is the latest of k
pub record HasTaken (v : Member) (k : ℕ) (taken : List Message) : Type 0 where
  pub count : read_of (node_of v) k ≡ length taken
  pub commands : filter (is_of k) (known v) ≡ submissions taken
  pub latest : latest_of v k ≡ last_stamp stamp_of taken

-- what a member has taken of member k is a first part of these messages
pub record HasReadOf (v : Member) (k : ℕ) (messages : List Message) : Type 0 where
  pub taken : List Message
  pub unread : List Message
  pub sent : messages ≡ taken ++ unread
  pub has_taken : HasTaken v k taken

-- what a receiver has taken of a sender is a first part of what the sender sent
abbrev pub HasRead : Member → Member → Type 0
HasRead receiver sender = HasReadOf receiver sender.number sender.sent

abbrev pub no_group : Group
no_group = record { members = 0; clock = 0; sent_limit = 0 }

abbrev pub no_member : Member
no_member = record { group = no_group; vocabulary = no_vocabulary; number = 0; clock = 0; sent = []; read = []; latest = []; held = []; history = []; policy = founding_state no_vocabulary }

abbrev pub member_at : List Member → ℕ → Member
member_at members i = slice_index_or members i no_member

-- the members of a group, in order of number: each keeps what a member keeps, and each has read each other one
pub record AreMembers (group : Group) (vocabulary : Vocabulary) (members : List Member) : Type 0 where
  pub count : length members ≡ group.members
  pub numbered : (i : ℕ) → i < length members → (member_at members i).number ≡ i + 1
  pub same_group : (i : ℕ) → i < length members → (member_at members i).group ≡ group
  pub same_vocabulary : (i : ℕ) → i < length members → (member_at members i).vocabulary ≡ vocabulary
  pub kept : (i : ℕ) → i < length members → IsMember (member_at members i)
  pub read : (i j : ℕ) → i < length members → j < length members → i ≢ j → HasRead (member_at members i) (member_at members j)

-- their world
abbrev pub world_of : Group → Vocabulary → List Member → World
world_of group vocabulary members = record { group = group; vocabulary = vocabulary; nodes = map node_of members }

-- this world is that of the members of a group
pub record HasMembers (group : Group) (vocabulary : Vocabulary) (w : World) : Type 0 where
  pub members : List Member
  pub are_members : AreMembers group vocabulary members
  pub same : world_of group vocabulary members ≡ w

-- a world with one member for each number of the group, in order, each with a lawful sent list
pub record IsLawfulWorld (w : World) : Type 0 where
  pub count : length w.nodes ≡ w.group.members
  pub numbered : (i : ℕ) → i < length w.nodes → (slice_index_or w.nodes i nobody).number ≡ i + 1
  pub lawful : (i : ℕ) → i < length w.nodes → IsLawful (slice_index_or w.nodes i nobody).number w.group (slice_index_or w.nodes i nobody).sent
