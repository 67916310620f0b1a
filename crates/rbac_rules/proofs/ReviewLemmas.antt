-- What the reviews of a sound policy list.
use Rattle.std.proofs.Common.{◌≡◌, Bool, Option, Some, None, refl, sym, ◌∙◌, IsTrue}
use Rattle.std.proofs.lemmas.Bool.{false≢true}
use Rattle.std.specs.List.{list_any}
use Rattle.std.specs.FinMap.Entries.{find}
use Rattle.sorted_keys.specs.Keys.{has}
use Rattle.rbac_terms.specs.Name.{Name, Permission, name_cmp, pair_cmp}
use Rattle.rbac_terms.specs.State.{State, Session}
use Rattle.rbac_terms.specs.Authorization.{has_permission}
use Rattle.rbac_terms.specs.Effect.{session_holds}
use Rattle.rbac_terms.specs.Reviews.{active_in, session_permissions}
use Rattle.rbac_terms.specs.Sound.{IsSound}
use Rattle.sorted_keys.proofs.Ties.{same_bits}
use Rattle.rbac_terms.proofs.NameLemmas.{pairs_total, pairs_exact}
use Rattle.rbac_rules.proofs.AuthorizationLemmas.{holds_iff}
use Rattle.sorted_keys.proofs.Kept.{was_kept, is_kept}

-- what a session holds is one of the permissions
pub is_permission : (s : State) (session : Option Session) (permission : Permission) → IsSound s → IsTrue (session_holds session s permission) → IsTrue (has pair_cmp permission s.vocabulary.permissions)
is_permission s None permission h held = absurd (false≢true held)
is_permission s (Some x) permission h held =
    let why = (holds_iff s x permission).0 held in
    (h.references.granted permission why.1 why.4).0

listed : (s : State) (session : Option Session) (permission : Permission) → session_holds session s permission ≡ list_any (has_permission s permission) (active_in session)
listed s None permission = refl
listed s (Some x) permission = refl

pub holds_what_is_listed : (s : State) (session : Name) (permission : Permission) → IsSound s → session_holds (find name_cmp session s.sessions) s permission ≡ has pair_cmp permission (session_permissions s session)
holds_what_is_listed s session permission h =
    let found = find name_cmp session s.sessions in
    let test : Permission → Bool = λ p. list_any (has_permission s p) (active_in found) in
    same_bits _ _
    (λ held. is_kept pairs_total pairs_exact test s.vocabulary.permissions permission (sym (listed s found permission) ∙ held) (is_permission s found permission h held))
    (λ e. listed s found permission ∙ (was_kept pairs_total pairs_exact test s.vocabulary.permissions permission e).0)
