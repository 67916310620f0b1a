-- What a walk from the roles of a user tells.
use Rattle.std.proofs.Common.{◌≡◌, true, List, Result, Ok, Err, IfOk, sym, ◌∙◌}
use Rattle.sorted_keys.specs.Keys.{has}
use Rattle.sorted_keys.proofs.Ties.{same_bits}
use Rattle.rbac_terms.specs.Name.{Name, name_cmp, pair_cmp}
use Rattle.rbac_terms.specs.State.{State}
use Rattle.rbac_terms.specs.Sound.{HasReferences}
use Rattle.rbac_terms.specs.Authorization.{is_authorized}
use Rattle.rbac_rules.proofs.AuthorizationLemmas.{is_authorized_iff}
use Rattle.rbac_reasons.specs.Path.{AreReached}
use Rattle.rbac_reasons.proofs.WalkLemmas.{path_of_chain, chain_of_path}

pub if_ok : {X E : Type 0} {P Q : X → Type 0} (r : Result X E) → ((x : X) → P x → Q x) → IfOk r P → IfOk r Q
if_ok (Ok x) f h = f x h
if_ok (Err e) f h = tt

-- what the roles that a user is assigned reach is what the user is authorized for
pub authorized_is : (s : State) → HasReferences s → (user : Name) (starts names : List Name) → ((role : Name) → has name_cmp role starts ≡ has pair_cmp (user, role) s.assigned) → AreReached s.declared starts names
    → (role : Name) → has name_cmp role names ≡ is_authorized s user role
authorized_is s refs user starts names are reached role = same_bits _ _
    (λ m.
    let from = (reached role).0 m in
    let assigned : has pair_cmp (user, from.0) s.assigned ≡ true = sym (are from.0) ∙ from.2 in
    (is_authorized_iff s user role).1 (from.0, assigned, (from.1, chain_of_path s.roles s.declared refs.declared from.0 from.1 role (refs.assigned user from.0 assigned).1 from.3)))
    (λ e. let a = (is_authorized_iff s user role).0 e in (reached role).1 (a.0, a.2.0, are a.0 ∙ a.1, path_of_chain s.roles s.declared a.0 a.2.0 role a.2.1))
