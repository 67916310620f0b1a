-- Why a session holds a permission.
use Rattle.std.specs.Prelude.{IsTrue}
use Rattle.sorted_keys.specs.Keys.{has}
use Rattle.rbac_terms.specs.Name.{Name, Permission, name_cmp, grant_cmp}
use Rattle.rbac_terms.specs.State.{State}
use Rattle.rbac_terms.specs.Inheritance.{IsChain}
use Rattle.rbac_terms.specs.Reviews.{active_roles}
use Rattle.rbac_reasons.specs.declared.told.Reason.{Reason}

-- a role that is active in the session inherits, by the roles between, one that is granted the permission (ANSI INCITS 359-2004,
-- 5.2: authorized_permissions, and 6.1.2: CheckAccess)
pub record IsReason (s : State) (session : Name) (permission : Permission) (reason : Reason) : Type 0 where
  pub active : IsTrue (has name_cmp reason.active (active_roles s session))
  pub inherited : IsChain s.roles s.declared reason.active reason.inherited.items reason.granted
  pub granted : IsTrue (has grant_cmp (permission, reason.granted) s.granted)
