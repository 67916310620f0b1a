-- What the proofs share that a command keeps a policy sound: preconditions that hold, and what stays of sets and sessions.
use Rattle.std.proofs.Common.{List, [], ◌∷◌, length, Bool, true, false, not, cond, ◌&&◌, ◌≡◌, ◌≤◌, IsTrue, Some, None, refl}
use Rattle.std.proofs.lemmas.Bool.{and_parts}
use Rattle.std.specs.List.{AllByRecursion as Each}
use Rattle.std.specs.List.Sorted.{IsStrictlySortedBy}
use Rattle.sorted_keys.specs.Keys.{has, by_key}
use Rattle.sorted_keys.proofs.Kept.{each_kept}
use Rattle.rbac_terms.specs.Name.{Name, Permission, Grant, name_cmp, pair_cmp, grant_cmp}
use Rattle.rbac_terms.specs.Limits.{most_users, most_roles, most_sessions}
use Rattle.rbac_terms.specs.State.{State, Session}
use Rattle.rbac_terms.specs.Authorization.{IsAuthorized, is_authorized, is_entitled, purge}
use Rattle.rbac_terms.specs.Rows.{Precondition, leftmost}
use Rattle.rbac_terms.specs.Change.{ended_where}
use Rattle.rbac_terms.specs.Constraints.{is_violated}
use Rattle.rbac_terms.specs.Sound.{IsWithinLimits, IsSessionSound, IsSound}
use Rattle.rbac_terms.specs.declared.separation.Separation.TheVariants.{Static, Dynamic}
use Rattle.sorted_keys.proofs.Ties.{all_member}
use Rattle.rbac_terms.proofs.NameLemmas.{names_total, names_exact}
use Rattle.sorted_keys.proofs.Lists.{Each-weaker}
use Rattle.rbac_rules.proofs.AuthorizationLemmas.{is_authorized_iff}

-- ---- What holds where no precondition fails

abbrev pub NoneFails : List Precondition → Type 0
NoneFails [] = Unit {0}
NoneFails (p ∷ ps) = (p.fails ≡ false) × NoneFails ps

pub none_fails : (ps : List Precondition) → leftmost ps ≡ None → NoneFails ps
none_fails [] e = tt
none_fails (p ∷ ps) e = go (none_fails ps) p.fails e
  where
    go : (leftmost ps ≡ None → NoneFails ps) → (b : Bool) → cond b (Some p.denial) (leftmost ps) ≡ None → (b ≡ false) × NoneFails ps
    go rest true e = cc
    go rest false e = (refl, rest e)

-- ---- Limits and sessions of a state

-- a state with these sets is within the limits
pub within : {s : State} → IsWithinLimits s → (users roles : List Name) (assigned : List (Name × Name)) (granted : List Grant) (declared : List (Name × Name)) (sessions : List (Name × Session))
    → length users ≤ most_users → length roles ≤ most_roles → length sessions ≤ most_sessions
    → IsWithinLimits (record s { users = users; roles = roles; assigned = assigned; granted = granted; declared = declared; sessions = sessions })
within h users roles assigned granted declared sessions u r x = record {
  users = u;
  roles = r;
  sessions = x;
  operations = h.operations;
  objects = h.objects;
  permissions = h.permissions;
}

-- a session stays sound where its owner and what the owner is authorized for stay
pub session_stays : (s t : State) (session : Session) → (IsTrue (has name_cmp session.owner s.users) → IsTrue (has name_cmp session.owner t.users))
    → ((role : Name) → IsAuthorized s session.owner role → IsAuthorized t session.owner role)
    → IsSessionSound s session → IsSessionSound t session
session_stays s t session users authorized h = record { owned = users h.owned; active = h.active; authorized = λ role m. authorized role (h.authorized role m) }

-- so do all where the users and what they are authorized for stay
pub sessions_stay : (s t : State) → ((user : Name) → IsTrue (has name_cmp user s.users) → IsTrue (has name_cmp user t.users)) → ((user role : Name) → IsAuthorized s user role → IsAuthorized t user role)
    → (sessions : List (Name × Session)) → Each (λ e. IsSessionSound s e.1) sessions → Each (λ e. IsSessionSound t e.1) sessions
sessions_stay s t users authorized sessions all =
    Each-weaker (λ e. IsSessionSound s e.1) (λ e. IsSessionSound t e.1) sessions (λ e. session_stays s t e.1 (users e.1.owner) (authorized e.1.owner)) all

-- a session's owner is there, and its active roles are a set
abbrev pub IsOwned : State → Session → Type 0
IsOwned s session = IsTrue (has name_cmp session.owner s.users) × IsStrictlySortedBy name_cmp session.active

-- the sessions that a purge leaves are sound where their owners are there
pub purged : (s : State) → Each (λ (e : Name × Session). IsOwned s e.1) s.sessions → Each (λ e. IsSessionSound (purge s) e.1) (purge s).sessions
purged s owned =
    each_kept (λ (e : Name × Session). is_entitled s e.1) (λ e. IsOwned s e.1) (λ e. IsSessionSound (purge s) e.1)
    (λ e there entitled. record {
      owned = there.0;
      active = there.1;
      authorized = λ role m. (is_authorized_iff s e.1.owner role).0
          (and_parts _ _ (all_member names_total names_exact (λ r. has name_cmp r s.roles && is_authorized s e.1.owner r) e.1.active role entitled m)).1;
    })
    s.sessions owned

-- owners of the sessions that are left
pub owners : (ends : Session → Bool) (s : State) → Each (λ e. IsSessionSound s e.1) s.sessions → Each (λ (e : Name × Session). IsOwned s e.1) (ended_where ends s.sessions)
owners ends s all = each_kept (λ (e : Name × Session). not (ends e.1)) (λ e. IsSessionSound s e.1) (λ e. IsOwned s e.1) (λ e sound _. (sound.owned, sound.active)) s.sessions all

-- ---- Other users, pairs, grants and sessions

-- what has to hold of users, their roles, grants and sessions, where roles, declared pairs and sets of separation are sound
pub record HasSoundUsers (s : State) : Type 0 where
  pub users : IsStrictlySortedBy name_cmp s.users
  pub few_users : length s.users ≤ most_users
  pub assigned : IsStrictlySortedBy pair_cmp s.assigned
  pub assigned_exist : (user role : Name) → IsTrue (has pair_cmp (user, role) s.assigned) → IsTrue (has name_cmp user s.users) × IsTrue (has name_cmp role s.roles)
  pub granted : IsStrictlySortedBy grant_cmp s.granted
  pub granted_exist : (permission : Permission) (role : Name) → IsTrue (has grant_cmp (permission, role) s.granted) → IsTrue (has pair_cmp permission s.vocabulary.permissions) × IsTrue (has name_cmp role s.roles)
  pub sessions : IsStrictlySortedBy (by_key name_cmp) s.sessions
  pub few_sessions : length s.sessions ≤ most_sessions
  pub each_session : Each (λ e. IsSessionSound s e.1) s.sessions
  pub static : is_violated Static s ≡ false
  pub dynamic : is_violated Dynamic s ≡ false

-- a policy stays sound with other users, assignments, grants and sessions that are
pub with_users : (s : State) (users : List Name) (assigned : List (Name × Name)) (granted : List Grant) (sessions : List (Name × Session))
    → HasSoundUsers (record s { users = users; assigned = assigned; granted = granted; sessions = sessions }) → IsSound s
    → IsSound (record s { users = users; assigned = assigned; granted = granted; sessions = sessions })
with_users s users assigned granted sessions are h = record {
  vocabulary = h.vocabulary;
  in_order = record {
    users = are.users;
    roles = h.in_order.roles;
    assigned = are.assigned;
    granted = are.granted;
    declared = h.in_order.declared;
    sessions = are.sessions;
  };
  references = record { assigned = are.assigned_exist; granted = are.granted_exist; declared = h.references.declared };
  limits = within h.limits users s.roles assigned granted s.declared sessions are.few_users h.limits.roles are.few_sessions;
  no_cycle = h.no_cycle;
  kind = h.kind;
  separation = record { static_sets = h.separation.static_sets; dynamic_sets = h.separation.dynamic_sets; static = are.static; dynamic = are.dynamic };
  sessions = are.each_session;
}

-- a policy whose users and assignments stay
with_grants_and_sessions : (s : State) (granted : List Grant) (sessions : List (Name × Session)) → IsStrictlySortedBy grant_cmp granted
    → ((permission : Permission) (role : Name) → IsTrue (has grant_cmp (permission, role) granted) → IsTrue (has pair_cmp permission s.vocabulary.permissions) × IsTrue (has name_cmp role s.roles))
    → IsStrictlySortedBy (by_key name_cmp) sessions → length sessions ≤ most_sessions → Each (λ e. IsSessionSound s e.1) sessions
    → is_violated Dynamic (record s { sessions = sessions }) ≡ false → IsSound s → IsSound (record s { granted = granted; sessions = sessions })
with_grants_and_sessions s granted sessions grants_sorted exist sorted few all separated h =
    with_users s s.users s.assigned granted sessions
    (record {
      users = h.in_order.users;
      few_users = h.limits.users;
      assigned = h.in_order.assigned;
      assigned_exist = h.references.assigned;
      granted = grants_sorted;
      granted_exist = exist;
      sessions = sorted;
      few_sessions = few;
      each_session = sessions_stay s (record s { granted = granted; sessions = sessions }) (λ user m. m) (λ user role a. a) sessions all;
      static = h.separation.static;
      dynamic = separated;
    })
    h

-- with other grants, sorted and between what exists
pub with_granted : (s : State) (granted : List Grant) → IsStrictlySortedBy grant_cmp granted
    → ((permission : Permission) (role : Name) → IsTrue (has grant_cmp (permission, role) granted) → IsTrue (has pair_cmp permission s.vocabulary.permissions) × IsTrue (has name_cmp role s.roles))
    → IsSound s → IsSound (record s { granted = granted })
with_granted s granted sorted exist h = with_grants_and_sessions s granted s.sessions sorted exist h.in_order.sessions h.limits.sessions h.sessions h.separation.dynamic h

-- with other sessions, each of which is sound in the old state
pub with_sessions : (s : State) (sessions : List (Name × Session)) → IsSound s → IsStrictlySortedBy (by_key name_cmp) sessions → length sessions ≤ most_sessions
    → Each (λ e. IsSessionSound s e.1) sessions → is_violated Dynamic (record s { sessions = sessions }) ≡ false → IsSound (record s { sessions = sessions })
with_sessions s sessions h sorted few all separated = with_grants_and_sessions s s.granted sessions h.in_order.granted h.references.granted sorted few all separated h
