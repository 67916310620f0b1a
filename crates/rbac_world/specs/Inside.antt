-- A world's members as the world of the definitions.
use Rattle.std.specs.Prelude.{ℕ, Bool, ◌<◌, ◌==◌, ◌||◌, List, length, map}
use Rattle.rbac_terms.specs.Vocabulary.{Vocabulary}
use Rattle.rbac_words.specs.Group.{Group}
use Rattle.rbac_words.specs.World.{World}
use Rattle.rbac_words.specs.Keeping.Member.{Member, founded, numbers}
use Rattle.rbac_words.specs.Keeping.Members.{AreMembers, member_at, world_of}
use Rattle.rbac_member.specs.Calls.{taken_of}
use Rattle.rbac_world.specs.declared.world.World.TheInside.{Inside}

-- the world of some members, of the group and vocabulary that the first of them has
abbrev pub shown_by : List Member → World
shown_by ms = world_of (member_at ms 0).group (member_at ms 0).vocabulary ms

abbrev pub shown : Inside → World
shown a = shown_by a.members.items

-- these are members of one group, and there is one
pub record IsGroupOf (ms : List Member) : Type 0 where
  pub some : 0 < length ms
  pub are_members : AreMembers (member_at ms 0).group (member_at ms 0).vocabulary ms

abbrev pub IsKept : Inside → Type 0
IsKept a = IsGroupOf a.members.items

-- all members of a group, in order of number, as they are founded
abbrev pub founded_all : Group → Vocabulary → ℕ → List Member
founded_all group vocabulary n = map (λ k. founded group k vocabulary) (numbers n 0)

-- whether a member has read all that another one sent
abbrev pub has_read : Member → Member → Bool
has_read v other = v.number == other.number || taken_of v other.number == length other.sent
