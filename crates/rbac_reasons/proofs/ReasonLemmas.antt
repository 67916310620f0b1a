-- What a chain to a granted role tells of a session.
use Rattle.std.proofs.Common.{◌≡◌, true, List, Some, arith}
use Rattle.std.specs.FinMap.Entries.{find}
use Rattle.sorted_keys.specs.Keys.{has}
use Rattle.rbac_terms.specs.Name.{Name, Permission, name_cmp, grant_cmp}
use Rattle.rbac_terms.specs.State.{State, Session}
use Rattle.rbac_terms.specs.Sound.{IsSound, IsSessionSound}
use Rattle.sorted_keys.proofs.Kept.{each_found}
use Rattle.rbac_rules.proofs.InheritanceLemmas.{chain_end}
use Rattle.rbac_terms.specs.Authorization.{holds}
use Rattle.rbac_rules.proofs.AuthorizationLemmas.{holds_iff}
use Rattle.rbac_reasons.specs.Path.{NoneLeads}
use Rattle.rbac_reasons.proofs.WalkLemmas.{path_of_chain}

-- ---- Sessions

abbrev pub AreGranted : State → Permission → List Name → Type 0
AreGranted s permission roles = (role : Name) → has name_cmp role roles ≡ has grant_cmp (permission, role) s.granted

-- where no chain leads from an active role to one that is granted the permission, the session does not hold it
pub not_held : (s : State) (session : Session) (permission : Permission) (roles : List Name) → AreGranted s permission roles → NoneLeads s.declared session.active roles → holds s session permission ≡ true → ⊥
not_held s session permission roles are none held =
    let why = (holds_iff s session permission).0 held in
    grind (arith, none why.0 why.3.0 why.1 why.2 (path_of_chain s.roles s.declared why.0 why.3.0 why.1 why.3.1), are why.1, why.4)

-- an active role is a role
pub active_is_role : (s : State) → IsSound s → (name : Name) (session : Session) → find name_cmp name s.sessions ≡ Some session → (role : Name) → has name_cmp role session.active ≡ true → has name_cmp role s.roles ≡ true
active_is_role s h name session found role m =
    let authorized = (each_found name_cmp (IsSessionSound s) name s.sessions session found h.sessions).authorized role m in
    chain_end s.roles s.declared authorized.0 authorized.2.0 role authorized.2.1
