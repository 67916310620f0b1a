-- What a change makes is a value at the session's name.
use Rattle.std.proofs.Common.{◌≡◌, List, refl, sym}
use Rattle.std.specs.FinMap.Entries.{find}
use Rattle.staged.specs.Entries.{with_entry}
use Rattle.staged.proofs.EntryLemmas.{updated_is}
use Rattle.rbac_terms.specs.Name.{Name, name_cmp}
use Rattle.rbac_terms.specs.State.{Session}
use Rattle.rbac_sessions.specs.Changes.{becomes, changed, session_of}
use Rattle.rbac_terms.specs.Change.{with_active}
use Rattle.rbac_sessions.specs.declared.plan.Change.{Change}
use Rattle.rbac_sessions.specs.declared.plan.Change.TheVariants.{Create, Activate}

pub changed_is : (change : Change) (es : List (Name × Session)) → with_entry name_cmp (session_of change) (becomes change (find name_cmp (session_of change) es)) es ≡ changed change es
changed_is (Create session user roles) es = refl
changed_is (Activate session role) es = sym (updated_is name_cmp session.now (with_active role.now) es)
