-- What changes that may want memory make of sessions (ANSI INCITS 359-2004, 6.1.2: CreateSession, AddActiveRole).
use Rattle.std.specs.Prelude.{List, Option, Some}
use Rattle.std.specs.Option.{option_map}
use Rattle.std.specs.FinMap.Entries.{put}
use Rattle.sorted_keys.specs.Keys.{updated}
use Rattle.rbac_terms.specs.Name.{Name, name_cmp}
use Rattle.rbac_terms.specs.State.{Session}
use Rattle.rbac_terms.specs.Change.{with_active}
use Rattle.rbac_sessions.specs.declared.plan.Change.{Change}
use Rattle.rbac_sessions.specs.declared.plan.Change.TheVariants.{Create, Activate}

-- a session that is opened, and a role that is made active in a session that is there
abbrev pub changed : Change → List (Name × Session) → List (Name × Session)
changed (Create session user roles) es = put name_cmp session.now (record { owner = user.now; active = roles.now }) es
changed (Activate session role) es = updated name_cmp session.now (with_active role.now) es

-- the name of the session that a change is about, and what becomes of the session there
abbrev pub session_of : Change → Name
session_of (Create session user roles) = session.now
session_of (Activate session role) = session.now

abbrev pub becomes : Change → Option Session → Option Session
becomes (Create session user roles) found = Some (record { owner = user.now; active = roles.now })
becomes (Activate session role) found = option_map (with_active role.now) found
