-- Each command of a dump is done, and leaves the state with one thing more.
use Rattle.std.proofs.Common.{List, [], ◌∷◌, ◌++◌, Bool, true, false, ◌≡◌, refl, sym, ap, ◌∙◌, subst}
use Rattle.std.proofs.lemmas.Bool.{and_parts, and_from, false≢true}
use Rattle.std.specs.declared.cmp.Ordering.{Ordering}
use Rattle.std.specs.Cmp.{IsTotalOrder}
use Rattle.std.specs.List.{filter}
use Rattle.std.specs.List.Sorted.{IsStrictlySortedBy}
use Rattle.sorted_keys.specs.Keys.{has, with_key}
use Rattle.sorted_keys.proofs.Lists.{Each-filter}
use Rattle.rbac_terms.specs.Name.{Name, Grant, pair_cmp}
use Rattle.rbac_terms.specs.Limits.{most_users, most_roles}
use Rattle.rbac_terms.specs.Separation.{RoleSet, is_broken_by}
use Rattle.rbac_terms.specs.State.{State, Session, founding_state}
use Rattle.rbac_terms.specs.Authorization.{IsAuthorized, inherits_in, is_authorized}
use Rattle.rbac_terms.specs.Change.{change}
use Rattle.rbac_terms.specs.Rows.{preconditions, is_limited_at}
use Rattle.rbac_terms.specs.Effect.{answer}
use Rattle.rbac_terms.specs.Constraints.{with_sets, is_violated}
use Rattle.rbac_terms.specs.Sound.{IsSound, BringsASet, IsRoleSet}
use Rattle.rbac_terms.specs.declared.separation.Separation.{Separation}
use Rattle.rbac_terms.specs.declared.separation.Separation.TheVariants.{Static, Dynamic}
use Rattle.rbac_terms.specs.declared.command.Command.{Command}
use Rattle.rbac_terms.specs.declared.answer.Answer.TheVariants.{Done}
use Rattle.rbac_terms.proofs.NameLemmas.{names_total, pairs_total, grants_total}
use Rattle.rbac_rules.proofs.AuthorizationLemmas.{is_authorized_iff}
use Rattle.rbac_rules.proofs.InheritanceLemmas.{inherits_iff, inherits_still, descendant_iff}
use Rattle.rbac_rules.proofs.SoundParts.{NoneFails}
use Rattle.rbac_rules.proofs.SoundSeparation.{is_false, static_less, sets_less}
use Rattle.rbac_dump.specs.Dump.{user_command, role_command, assignment_command, declaration_command, grant_command}
use Rattle.rbac_dump.proofs.Leading.{TellsNext, makes}
use Rattle.rbac_dump.proofs.Next.{IsNextKey, below_most, next_key}
use Rattle.rbac_dump.proofs.Early.{there}

-- keys are told where none of the commands is denied that make the next one
tells_keys : {K : Type 0} {R : K → K → Ordering} (o : IsTotalOrder R) (command : K → Command) (at : List K → State) (keys : List K) → IsStrictlySortedBy R keys
    → ((done : List K) (k : K) → change (command k) (at done) ≡ at (with_key R k done)) → ((done : List K) (k : K) → answer (command k) (at done) ≡ Done) → ((k : K) → BringsASet (command k))
    → ((done : List K) (k : K) (rest : List K) → keys ≡ done ++ (k ∷ rest) → IsNextKey o keys done k → NoneFails (preconditions (command k) (at done))) → TellsNext command at keys
tells_keys o command at keys sorted changes answers brings allowed done k rest e =
    let next = next_key o keys done k rest e sorted in
    makes (command k) (at done) (at (done ++ (k ∷ []))) (allowed done k rest e next) (changes done k ∙ ap at next.grown) (answers done k) (brings k)

-- `long` tells the sets that are made in parts, and early
module _ (long : Separation → Name × RoleSet → Bool) (s : State) where
  -- ---- The states on the way: what was told is whole, but for what is being told

  abbrev pub with_users : List Name → State
  with_users users = record (founding_state s.vocabulary) { users = users }

  abbrev pub with_roles : List Name → State
  with_roles roles = record (with_users s.users) { roles = roles }

  abbrev pub with_early_static : List (Name × RoleSet) → List (Name × RoleSet) → State
  with_early_static done rest = with_sets Static (filter (long Static) done) (with_roles s.roles)

  abbrev pub with_early_dynamic : List (Name × RoleSet) → List (Name × RoleSet) → State
  with_early_dynamic done rest = with_sets Dynamic (filter (long Dynamic) done) (with_early_static s.static_sets [])

  abbrev pub with_pairs : List (Name × Name) → List (Name × Name) → State
  with_pairs assigned declared = record (with_early_dynamic s.dynamic_sets []) { assigned = assigned; declared = declared }

  abbrev pub with_assigned : List (Name × Name) → State
  with_assigned pairs = with_pairs pairs []

  abbrev pub with_declared : List (Name × Name) → State
  with_declared pairs = with_pairs s.assigned pairs

  abbrev pub with_granted : List Grant → State
  with_granted grants = record (with_declared s.declared) { granted = grants }

  abbrev pub with_static : List (Name × RoleSet) → List (Name × RoleSet) → State
  with_static done rest = with_sets Static (done ++ filter (long Static) rest) (with_granted s.granted)

  abbrev pub with_sessions : List (Name × Session) → State
  with_sessions sessions = record s { dynamic_sets = filter (long Dynamic) s.dynamic_sets; sessions = sessions }

  abbrev pub with_dynamic : List (Name × RoleSet) → List (Name × RoleSet) → State
  with_dynamic done rest = with_sets Dynamic (done ++ filter (long Dynamic) rest) (with_sessions s.sessions)

  module _ (h : IsSound s) where
    pub tells_users : TellsNext user_command with_users s.users
    tells_users =
        tells_keys names_total user_command with_users s.users h.in_order.users (λ done x. refl) (λ done x. refl) (λ x. tt)
        (λ done x rest e next. (next.fresh, (below_most s.users done x rest most_users e h.limits.users, tt)))

    pub tells_roles : TellsNext role_command with_roles s.roles
    tells_roles =
        tells_keys names_total role_command with_roles s.roles h.in_order.roles (λ done x. refl) (λ done x. refl) (λ x. tt)
        (λ done x rest e next. (next.fresh, (below_most s.roles done x rest most_roles e h.limits.roles, tt)))

    -- ---- Assignments and declared pairs

    -- who is authorized by some pairs is authorized by all
    more_pairs : (assigned declared : List (Name × Name)) → ((q : Name × Name) → has pair_cmp q assigned ≡ true → has pair_cmp q s.assigned ≡ true)
        → ((q : Name × Name) → has pair_cmp q declared ≡ true → has pair_cmp q s.declared ≡ true) → (user role : Name) → IsAuthorized (with_pairs assigned declared) user role → IsAuthorized s user role
    more_pairs assigned declared were_assigned were_declared user role a =
        (a.0, were_assigned (user, a.0) a.1, inherits_still s.roles s.roles declared s.declared (λ r m. m) were_declared a.0 role a.2)

    -- so nobody breaks an early set on the way
    unbroken_early : (assigned declared : List (Name × Name)) → ((q : Name × Name) → has pair_cmp q assigned ≡ true → has pair_cmp q s.assigned ≡ true)
        → ((q : Name × Name) → has pair_cmp q declared ≡ true → has pair_cmp q s.declared ≡ true) → is_violated Static (with_pairs assigned declared) ≡ false
    unbroken_early assigned declared were_assigned were_declared =
        let early = filter (long Static) s.static_sets in
        let now = with_pairs assigned declared in
        static_less s.roles early (is_authorized s) (is_authorized now) s.users s.users (Each-filter (λ e. IsRoleSet s.roles e.1) (long Static) s.static_sets h.separation.static_sets.each)
        (λ u r m is e. (m, (is_authorized_iff s u r).1 (more_pairs assigned declared were_assigned were_declared u r ((is_authorized_iff now u r).0 e))))
        (sets_less (is_authorized s) s.static_sets early (λ p. Each-filter (λ e. is_broken_by p e.1 ≡ false) (long Static) s.static_sets) s.users h.separation.static)

    pub tells_assignments : TellsNext assignment_command with_assigned s.assigned
    tells_assignments =
        tells_keys pairs_total assignment_command with_assigned s.assigned h.in_order.assigned (λ done x. refl) (λ done x. refl) (λ x. tt)
        (λ done x rest e next.
        let exist = h.references.assigned x.0 x.1 next.member in
        (there _ exist.0, (there _ exist.1, (next.fresh, (unbroken_early (with_key pair_cmp x done) [] next.are (λ q m. absurd (false≢true m)), tt)))))

    -- a chain among the pairs so far is one among all
    no_cycle : (done : List (Name × Name)) (x : Name × Name) → IsNextKey pairs_total s.declared done x → inherits_in (with_declared done) x.1 x.0 ≡ false
    no_cycle done x next = is_false _ (λ back.
        h.no_cycle x.0 x.1 next.member (inherits_still s.roles s.roles done s.declared (λ r m. m) next.were x.1 x.0 ((inherits_iff s.roles done x.1 x.0).0 back)))

    -- another pair so far of the same ascendant would be this one
    not_limited : (done : List (Name × Name)) (x : Name × Name) → IsNextKey pairs_total s.declared done x → is_limited_at (with_declared done) x.0 ≡ false
    not_limited done x next = is_false _ (λ limited.
        let parts = and_parts _ _ limited in
        let other = (descendant_iff x.0 done).0 parts.1 in
        let same = h.kind parts.0 x.0 x.1 other.0 next.member (next.were (x.0, other.0) other.1) in
        false≢true (sym next.fresh ∙ subst (λ d. has pair_cmp (x.0, d) done ≡ true) (sym same) other.1))

    pub tells_declarations : TellsNext declaration_command with_declared s.declared
    tells_declarations =
        tells_keys pairs_total declaration_command with_declared s.declared h.in_order.declared (λ done x. refl) (λ done x. refl) (λ x. tt)
        (λ done x rest e next.
        let exist = h.references.declared x.0 x.1 next.member in
        (there _ (and_from _ _ exist.0 exist.1), (next.fresh, (no_cycle done x next, (not_limited done x next, (unbroken_early s.assigned (with_key pair_cmp x done) (λ q m. m) next.are, tt))))))

    pub tells_grants : TellsNext grant_command with_granted s.granted
    tells_grants =
        tells_keys grants_total grant_command with_granted s.granted h.in_order.granted (λ done x. refl) (λ done x. refl) (λ x. tt)
        (λ done x rest e next. let exist = h.references.granted x.0 x.1 next.member in (there _ exist.0, (there _ exist.1, tt)))
