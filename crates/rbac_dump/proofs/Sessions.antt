-- The sessions, each with its first roles and then with the others.
use Rattle.std.proofs.Common.{List, [], ◌∷◌, ◌++◌, cond, Bool, true, false, not, ◌≡◌, IsTrue, is_some, Some, map, take, drop, refl, sym, ap, ◌∙◌, subst, append_assoc}
use Rattle.std.proofs.lemmas.Bool.{false≢true}
use Rattle.std.proofs.lemmas.List.{append-nil, take-append-drop}
use Rattle.std.specs.declared.cmp.Ordering.TheVariants.{Less}
use Rattle.std.specs.List.{list_any, filter, AllByRecursion as Each}
use Rattle.std.specs.List.Sorted.{IsStrictlySortedBy}
use Rattle.std.specs.FinMap.Entries.{find, put}
use Rattle.std.specs.Ordering.{eq_by_cmp}
use Rattle.sorted_keys.specs.Keys.{has, with_key, updated}
use Rattle.sorted_keys.proofs.Lists.{Each-append, Each-left, Each-filter, Each-weaker}
use Rattle.sorted_keys.proofs.Ties.{member_all, ties_itself}
use Rattle.rbac_terms.specs.Name.{Name, name_cmp}
use Rattle.rbac_terms.specs.Limits.{most_sessions}
use Rattle.rbac_terms.specs.Separation.{RoleSet, is_broken}
use Rattle.rbac_terms.specs.State.{State, Session}
use Rattle.rbac_terms.specs.Authorization.{is_authorized}
use Rattle.rbac_terms.specs.Change.{with_active}
use Rattle.rbac_terms.specs.Constraints.{is_violated, breaks_dynamic}
use Rattle.rbac_terms.specs.Rows.{found_and}
use Rattle.rbac_terms.specs.Sound.{IsSound, IsSessionSound}
use Rattle.rbac_terms.specs.declared.separation.Separation.TheVariants.{Dynamic}
use Rattle.rbac_terms.specs.declared.command.Command.{Command}
use Rattle.rbac_terms.specs.declared.command.Command.TheVariants.{CreateSession}
use Rattle.rbac_terms.proofs.NameLemmas.{names_total, names_exact}
use Rattle.rbac_rules.proofs.AuthorizationLemmas.{is_authorized_iff}
use Rattle.rbac_rules.proofs.InheritanceLemmas.{chain_end}
use Rattle.rbac_rules.proofs.SoundSeparation.{is_false, none_passes, passes_none, broken_less}
use Rattle.rbac_dump.specs.Dump.{session_command, session_parts, activation_command}
use Rattle.rbac_dump.proofs.Leading.{Makes, Leads, TellsNext, TellsEach, makes, leads_one, leads_on, told}
use Rattle.rbac_dump.proofs.Next.{each_next, below_most, next_key, next_entry, next_of, sorted_front, has_front, found_last, put_last, updated_last}
use Rattle.rbac_dump.proofs.Early.{there}

module _ (early : Name × RoleSet → Bool) (s : State) (h : IsSound s) where
  -- all but the sessions and the dynamic sets that come after them
  abbrev with_sessions : List (Name × Session) → State
  with_sessions sessions = record s { dynamic_sets = filter early s.dynamic_sets; sessions = sessions }

  -- a session that breaks no set breaks none of the early ones, with fewer active roles neither
  keeps : (session : Session) (active : List Name) → ((r : Name) → IsTrue (has name_cmp r active) → IsTrue (has name_cmp r session.active)) → breaks_dynamic s session ≡ false
      → list_any (λ e. is_broken active e.1) (filter early s.dynamic_sets) ≡ false
  keeps session active fewer none =
      passes_none (λ e. is_broken active e.1) (filter early s.dynamic_sets)
      (Each-filter (λ e. is_broken active e.1 ≡ false) early s.dynamic_sets
      (Each-weaker (λ e. is_broken session.active e.1 ≡ false) (λ e. is_broken active e.1 ≡ false) s.dynamic_sets
      (λ e whole. is_false _ (λ broken. false≢true (sym whole ∙ broken_less (λ r. has name_cmp r active) (λ r. has name_cmp r session.active) e.1 (λ r m a. fewer r a) broken)))
      (none_passes (λ e. is_broken session.active e.1) s.dynamic_sets none)))

  module _ (done : List (Name × Session)) (x : Name × Session) (rest : List (Name × Session)) (e : s.sessions ≡ done ++ (x ∷ rest)) where
    sound : IsSessionSound s x.1
    sound = each_next (λ y. IsSessionSound s y.1) s.sessions done x rest e h.sessions

    none_breaks : Each (λ y. breaks_dynamic s y.1 ≡ false) s.sessions
    none_breaks = none_passes (λ y. breaks_dynamic s y.1) s.sessions h.separation.dynamic

    above : Each (λ y. name_cmp y.0 x.0 ≡ Less) done
    above = (next_of names_total s.sessions done x rest e h.in_order.sessions).above

    -- the session with some of its roles
    abbrev and_one : List Name → List (Name × Session)
    and_one active = done ++ ((x.0, record { owner = x.1.owner; active = active }) ∷ [])

    abbrev with_one : List Name → State
    with_one active = with_sessions (and_one active)

    not_broken : (active : List Name) → ((r : Name) → IsTrue (has name_cmp r active) → IsTrue (has name_cmp r x.1.active)) → is_violated Dynamic (with_one active) ≡ false
    not_broken active fewer =
        passes_none (λ y. breaks_dynamic (with_one active) y.1) (and_one active)
        (Each-append (λ y. breaks_dynamic (with_one active) y.1 ≡ false) done _
        (Each-weaker (λ y. breaks_dynamic s y.1 ≡ false) (λ y. breaks_dynamic (with_one active) y.1 ≡ false) done (λ y none. keeps y.1 y.1.active (λ r m. m) none)
        (Each-left (λ y. breaks_dynamic s y.1 ≡ false) done (x ∷ rest) (subst (Each (λ y. breaks_dynamic s y.1 ≡ false)) e none_breaks)))
        (keeps x.1 active fewer (each_next (λ y. breaks_dynamic s y.1 ≡ false) s.sessions done x rest e none_breaks), tt))

    authorized : (r : Name) → IsTrue (has name_cmp r x.1.active) → IsTrue (is_authorized s x.1.owner r)
    authorized r m = (is_authorized_iff s x.1.owner r).1 (sound.authorized r m)

    is_role : (r : Name) → IsTrue (has name_cmp r x.1.active) → IsTrue (has name_cmp r s.roles)
    is_role r m = let a = sound.authorized r m in chain_end s.roles s.declared a.0 a.2.0 r a.2.1

    created : (active : List Name) → ((r : Name) → IsTrue (has name_cmp r active) → IsTrue (has name_cmp r x.1.active)) → IsStrictlySortedBy name_cmp active
        → Makes (with_sessions done) (CreateSession x.1.owner x.0 active) (with_one active)
    created active fewer sorted =
        let next = next_entry names_total s.sessions done x rest e h.in_order.sessions in
        let grown : put name_cmp x.0 (record { owner = x.1.owner; active = active }) done ≡ and_one active = put_last names_total done (x.0, record { owner = x.1.owner; active = active }) above in
        makes (CreateSession x.1.owner x.0 active) (with_sessions done) (with_one active) (
          there _ sound.owned,
          (
            ap is_some next.0,
            (
              there _ (member_all names_total names_exact (is_authorized s x.1.owner) active (λ r m. authorized r (fewer r m))),
              (
                ap (λ sessions. is_violated Dynamic (with_sessions sessions)) grown ∙ not_broken active fewer,
                (below_most s.sessions done x rest most_sessions e h.limits.sessions, tt),
              ),
            ),
          ),
        )
        (ap with_sessions grown) refl sorted

    activated : (active : List Name) (role : Name) → has name_cmp role active ≡ false → with_key name_cmp role active ≡ active ++ (role ∷ []) → IsTrue (has name_cmp role x.1.active)
        → ((r : Name) → IsTrue (has name_cmp r (active ++ (role ∷ []))) → IsTrue (has name_cmp r x.1.active))
        → Makes (with_one active) (activation_command x.1.owner x.0 role) (with_one (active ++ (role ∷ [])))
    activated active role fresh grown member fewer =
        let session : Session = record { owner = x.1.owner; active = active } in
        let found : find name_cmp x.0 (and_one active) ≡ Some session = found_last names_total done x.0 session above in
        let changed : with_sessions (updated name_cmp x.0 (with_active role) (and_one active)) ≡ with_one (active ++ (role ∷ [])) =
        ap with_sessions (updated_last names_total done x.0 session (with_active role) above) ∙ ap with_one grown in
        makes (activation_command x.1.owner x.0 role) (with_one active) (with_one (active ++ (role ∷ []))) (
          there _ sound.owned,
          (
            ap (λ f. not (is_some f)) found,
            (
              there _ (is_role role member),
              (
                ap (λ f. not (found_and (λ y. eq_by_cmp name_cmp x.1.owner y.owner) f)) found ∙ there _ (ties_itself names_total x.1.owner),
                (
                  there _ (authorized role member),
                  (ap (found_and (λ y. has name_cmp role y.active)) found ∙ fresh, (ap (is_violated Dynamic) changed ∙ not_broken (active ++ (role ∷ [])) fewer, tt)),
                ),
              ),
            ),
          ),
        )
        changed refl tt

    -- the session with some first roles, and then each other one
    by_roles : (first others : List Name) → x.1.active ≡ first ++ others
        → Leads (with_sessions done) (CreateSession x.1.owner x.0 first ∷ map (activation_command x.1.owner x.0) others) (with_one x.1.active)
    by_roles first others parts =
        subst (λ active. Leads (with_sessions done) (CreateSession x.1.owner x.0 first ∷ map (activation_command x.1.owner x.0) others) (with_one active)) (sym parts)
        (leads_on (with_sessions done) (begin ∷ []) (map (activation_command x.1.owner x.0) others) (with_one first) (with_one (first ++ others))
        (leads_one (with_sessions done) begin (with_one first)
        (created first (λ r m. subst (λ l. IsTrue (has name_cmp r l)) (sym parts) (has_front names_total first others r m))
        (sorted_front names_total first others (subst (IsStrictlySortedBy name_cmp) parts sound.active))))
        (subst (λ l. Leads (with_one l) (map (activation_command x.1.owner x.0) others) (with_one (first ++ others))) (append-nil first)
        (told (activation_command x.1.owner x.0) (λ now. with_one (first ++ now)) others tells)))
      where
        begin : Command
        begin = CreateSession x.1.owner x.0 first

        tells : TellsNext (activation_command x.1.owner x.0) (λ now. with_one (first ++ now)) others
        tells now role more f =
            let all : x.1.active ≡ (first ++ now) ++ (role ∷ more) = parts ∙ ap (λ l. first ++ l) f ∙ sym (append_assoc first now (role ∷ more)) in
            let next = next_key names_total x.1.active (first ++ now) role more all sound.active in
            subst (λ l. Makes (with_one (first ++ now)) (activation_command x.1.owner x.0 role) (with_one l)) (append_assoc first now (role ∷ []))
            (activated (first ++ now) role next.fresh next.grown next.member (λ r m. next.are r (subst (λ l. IsTrue (has name_cmp r l)) (sym next.grown) m)))

  pub tells_sessions : (long : Name × Session → Bool) → TellsEach (λ e. cond (long e) (session_parts e) (session_command e ∷ [])) (λ done rest. with_sessions done) s.sessions
  tells_sessions long done x rest e = elim (long x) as (λ b. Leads (with_sessions done) (cond b (session_parts x) (session_command x ∷ [])) (with_sessions (done ++ (x ∷ [])))) [
    | true ↦ by_roles done x rest e (take 2 x.1.active) (drop 2 x.1.active) (sym (take-append-drop 2 x.1.active))
    | false ↦ by_roles done x rest e x.1.active [] (sym (append-nil x.1.active))
  ]
