-- The sets that commands change, with a vocabulary, as the state of a policy.
use Rattle.std.specs.Prelude.{[], ◌≡◌, None}
use Rattle.rbac_decide.specs.Words.{Each, with_key, Name, pair_cmp, first_denial, IsSound, IsSessionSound, State, Vocabulary, no_vocabulary, Command, Sets}
use Rattle.rbac_decide.specs.Words.{Order}
use Rattle.rbac_decide.specs.declared.tables.Tables.{Tables}

abbrev pub state_of : Tables → Vocabulary → State
state_of t v = record {
  users = t.sets.content.users;
  roles = t.hierarchy.content.roles;
  assigned = t.sets.content.assigned;
  granted = t.sets.content.granted;
  declared = t.hierarchy.content.declared;
  static_sets = t.static_sets.content;
  dynamic_sets = t.dynamic_sets.content;
  sessions = t.sessions.content;
  vocabulary = v;
}

-- a state with these sets alone: who is authorized for a role is a matter of nothing else
abbrev pub state_of_roles : Sets → Order → State
state_of_roles s h = record {
  users = s.users;
  roles = h.roles;
  assigned = s.assigned;
  granted = s.granted;
  declared = h.declared;
  static_sets = [];
  dynamic_sets = [];
  sessions = [];
  vocabulary = no_vocabulary;
}

-- the hierarchy has the roles of the role sets
abbrev pub HasSameRoles : Tables → Type 0
HasSameRoles t = t.hierarchy.content.roles ≡ t.sets.content.roles

-- with some vocabulary the state is sound, and the command is not denied
pub record IsUndenied (c : Command) (t : Tables) : Type 0 where
  pub vocabulary : Vocabulary
  pub sound : IsSound (state_of t vocabulary)
  pub undenied : first_denial c (state_of t vocabulary) ≡ None

-- each session is as it should be, whatever the vocabulary
abbrev pub HasSoundSessions : Tables → Type 0
HasSoundSessions t = (v : Vocabulary) → Each (λ e. IsSessionSound (state_of t v) e.1) t.sessions.content

-- each session was as it should be while some pair with this descendant was declared
abbrev pub HadSoundSessions : Name → Tables → Type 0
HadSoundSessions descendant t =
    (ascendant : Name)
    × ((v : Vocabulary) → Each (λ e. IsSessionSound (record (state_of t v) { declared = with_key pair_cmp (ascendant, descendant) t.hierarchy.content.declared }) e.1) t.sessions.content)

-- both have the same sets
pub record HaveSameSets (t other : Tables) : Type 0 where
  pub sets : t.sets.content ≡ other.sets.content
  pub hierarchy : t.hierarchy.content ≡ other.hierarchy.content
  pub static_sets : t.static_sets.content ≡ other.static_sets.content
  pub dynamic_sets : t.dynamic_sets.content ≡ other.dynamic_sets.content
  pub sessions : t.sessions.content ≡ other.sessions.content
