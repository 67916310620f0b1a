-- Each command keeps a policy sound.
use Rattle.std.proofs.Common.{List, length, Bool, not, ◌&&◌, ◌≡◌, ◌≤◌, IsTrue, Option, Some, None, refl, sym, ap, ◌∙◌, subst, ⊎_elim, arith, false, []}
use Rattle.std.proofs.lemmas.Bool.{or_cases, false≢true, leb-false, not-false}
use Rattle.std.proofs.lemmas.List.Kept.{IsStrictlySortedBy-filter}
use Rattle.std.specs.List.{list_any}
use Rattle.std.specs.List.Sorted.{IsStrictlySortedBy}
use Rattle.std.specs.Ordering.{eq_by_cmp}
use Rattle.std.specs.FinMap.Entries.{find, put}
use Rattle.sorted_keys.specs.Keys.{has, with_key, without, without_key, by_key, updated}
use Rattle.sorted_keys.proofs.KeyPlace.{sorted_with_key}
use Rattle.sorted_keys.proofs.EntryPlace.{sorted_put, sorted_updated}
use Rattle.sorted_keys.proofs.Members.{has-with_key}
use Rattle.sorted_keys.proofs.Order.{sorted_none}
use Rattle.rbac_terms.specs.Name.{Name, name_cmp, pair_cmp, grant_cmp}
use Rattle.rbac_terms.specs.Limits.{most_users, most_sessions}
use Rattle.rbac_terms.specs.Vocabulary.{Vocabulary, IsVocabulary}
use Rattle.rbac_terms.specs.State.{State, Session, founding_state}
use Rattle.rbac_terms.specs.Relations.{begins_with}
use Rattle.rbac_terms.specs.Authorization.{IsAuthorized, is_authorized, purge, is_entitled}
use Rattle.rbac_terms.specs.Rows.{preconditions, first_denial, found_and}
use Rattle.rbac_terms.specs.Constraints.{breaks_dynamic}
use Rattle.rbac_terms.specs.Change.{change, end_sessions, with_active, without_active}
use Rattle.rbac_terms.specs.Effect.{effect, effect_unless}
use Rattle.rbac_terms.specs.Sound.{IsSessionSound, AreRoleSets, IsSound, BringsASet}
use Rattle.rbac_terms.specs.declared.command.Command.{Command}
use Rattle.rbac_terms.specs.declared.command.Command.TheVariants.{AddUser, DeleteUser, AddRole, DeleteRole, AssignUser, DeassignUser, GrantPermission, RevokePermission, AddInheritance, DeleteInheritance, AddAscendant, AddDescendant, CreateSet, DeleteSet, AddRoleMember, DeleteRoleMember, SetCardinality, CreateSession, DeleteSession, AddActiveRole, DropActiveRole, CheckAccess, Review as ReviewCommand}
use Rattle.rbac_terms.specs.declared.answer.Denial.{Denial}
use Rattle.sorted_keys.proofs.Ties.{one_key, all_member}
use Rattle.rbac_terms.proofs.NameLemmas.{names_total, names_exact, pairs_total, pairs_exact, grants_total, grants_exact}
use Rattle.rbac_rules.proofs.AuthorizationLemmas.{is_authorized_iff}
use Rattle.sorted_keys.proofs.Kept.{length-with_key-new, length-put-new, fewer, still, was_kept, is_kept, each_put, each_updated, length-updated, each_kept}
use Rattle.rbac_rules.proofs.SoundParts.{none_fails, session_stays, sessions_stay, purged, owners, with_users, with_granted, with_sessions}
use Rattle.rbac_rules.proofs.SoundSeparation.{is_false, fewer_active, static_less, dynamic_kept, dynamic_updated}
use Rattle.rbac_rules.proofs.SoundSets.{sound_create_set, sound_delete_set, sound_add_role_member, sound_delete_role_member, sound_set_cardinality}
use Rattle.rbac_rules.proofs.SoundRoles.{static_stays, sound_add_role, sound_delete_role, sound_add_inheritance, sound_delete_inheritance, sound_add_ascendant, sound_add_descendant}

-- ---- Users

sound_add_user : (user : Name) (s : State) → first_denial (AddUser user) s ≡ None → IsSound s → IsSound (change (AddUser user) s)
sound_add_user user s none h =
    let holds = none_fails (preconditions (AddUser user) s) none in
    with_users s (with_key name_cmp user s.users) s.assigned s.granted s.sessions
    (record {
      users = sorted_with_key names_total user s.users h.in_order.users;
      few_users = let more = length-with_key-new name_cmp user s.users holds.0 in omega (arith, leb-false 4096 (length s.users) holds.1.0);
      assigned = h.in_order.assigned;
      assigned_exist = λ u r m. (still names_total user s.users u (h.references.assigned u r m).0, (h.references.assigned u r m).1);
      granted = h.in_order.granted;
      granted_exist = h.references.granted;
      sessions = h.in_order.sessions;
      few_sessions = h.limits.sessions;
      each_session = sessions_stay s (change (AddUser user) s) (still names_total user s.users) (λ u r a. a) s.sessions h.sessions;
      static = static_less s.roles s.static_sets (is_authorized s) (is_authorized s) s.users (with_key name_cmp user s.users) h.separation.static_sets.each
          (λ u r m is e. let a = (is_authorized_iff s u r).0 e in ((h.references.assigned u a.0 a.1).0, e)) h.separation.static;
      dynamic = h.separation.dynamic;
    })
    h

-- a user that is not the one that goes
sound_delete_user : (user : Name) (s : State) → IsSound s → IsSound (change (DeleteUser user) s)
sound_delete_user user s h =
    let t : State = change (DeleteUser user) s in
    with_users s t.users t.assigned s.granted t.sessions
    (record {
      users = IsStrictlySortedBy-filter _ _ _ h.in_order.users;
      few_users = fewer _ s.users most_users h.limits.users;
      assigned = IsStrictlySortedBy-filter _ _ _ h.in_order.assigned;
      assigned_exist = λ u r m.
          let kept = was_kept pairs_total pairs_exact (λ (p : Name × Name). not (begins_with user p)) s.assigned (u, r) m in
          let were = h.references.assigned u r kept.1 in
          (is_kept names_total names_exact (λ x. not (eq_by_cmp name_cmp user x)) s.users u kept.0 were.0, were.1);
      granted = h.in_order.granted;
      granted_exist = h.references.granted;
      sessions = IsStrictlySortedBy-filter _ _ _ h.in_order.sessions;
      few_sessions = fewer _ s.sessions most_sessions h.limits.sessions;
      each_session = each_kept (λ (e : Name × Session). not (eq_by_cmp name_cmp user e.1.owner)) (λ e. IsSessionSound s e.1) (λ e. IsSessionSound t e.1)
          (λ e sound other. session_stays s t e.1
          (is_kept names_total names_exact (λ x. not (eq_by_cmp name_cmp user x)) s.users e.1.owner other)
          (λ r a. (a.0, is_kept pairs_total pairs_exact (λ (p : Name × Name). not (begins_with user p)) s.assigned (e.1.owner, a.0) other a.1, a.2)) sound)
          s.sessions h.sessions;
      static = static_stays s t h (λ u m. (was_kept names_total names_exact (λ x. not (eq_by_cmp name_cmp user x)) s.users u m).1)
          (λ u r is a. (a.0, (was_kept pairs_total pairs_exact (λ (p : Name × Name). not (begins_with user p)) s.assigned (u, a.0) a.1).1, a.2));
      dynamic = dynamic_kept (breaks_dynamic s) (λ (e : Name × Session). not (eq_by_cmp name_cmp user e.1.owner)) s.sessions h.separation.dynamic;
    })
    h

-- ---- Assignments and grants

sound_assign_user : (user role : Name) (s : State) → first_denial (AssignUser user role) s ≡ None → IsSound s → IsSound (change (AssignUser user role) s)
sound_assign_user user role s none h =
    let holds = none_fails (preconditions (AssignUser user role) s) none in
    let t : State = change (AssignUser user role) s in
    with_users s s.users t.assigned s.granted s.sessions
    (record {
      users = h.in_order.users;
      few_users = h.limits.users;
      assigned = sorted_with_key pairs_total (user, role) s.assigned h.in_order.assigned;
      assigned_exist = λ u r m. ⊎_elim
          (λ e. let same = one_key pairs_exact (u, r) (user, role) e in
          (subst (λ x. IsTrue (has name_cmp x s.users)) (sym (ap (λ p. p.0) same)) (not-false _ holds.0), subst (λ x. IsTrue (has name_cmp x s.roles)) (sym (ap (λ p. p.1) same)) (not-false _ holds.1.0)))
          (h.references.assigned u r)
          (or_cases _ _ (sym (has-with_key pairs_total (user, role) s.assigned (u, r)) ∙ m));
      granted = h.in_order.granted;
      granted_exist = h.references.granted;
      sessions = h.in_order.sessions;
      few_sessions = h.limits.sessions;
      each_session = sessions_stay s t (λ u m. m) (λ u r a. (a.0, still pairs_total (user, role) s.assigned (u, a.0) a.1, a.2)) s.sessions h.sessions;
      static = holds.1.1.1.0;
      dynamic = h.separation.dynamic;
    })
    h

sound_deassign_user : (user role : Name) (s : State) → IsSound s → IsSound (change (DeassignUser user role) s)
sound_deassign_user user role s h =
    let ends : Session → Bool = λ x. eq_by_cmp name_cmp user x.owner && has name_cmp role x.active in
    let t : State = end_sessions ends (record s { assigned = without pair_cmp (user, role) s.assigned }) in
    let was : (p : Name × Name) → IsTrue (has pair_cmp p t.assigned) → IsTrue (has pair_cmp p s.assigned) = λ p m. (was_kept pairs_total pairs_exact (λ q. not (eq_by_cmp pair_cmp (user, role) q)) s.assigned p m).1 in
    with_users s s.users t.assigned s.granted (purge t).sessions
    (record {
      users = h.in_order.users;
      few_users = h.limits.users;
      assigned = IsStrictlySortedBy-filter _ _ _ h.in_order.assigned;
      assigned_exist = λ u r m. h.references.assigned u r (was (u, r) m);
      granted = h.in_order.granted;
      granted_exist = h.references.granted;
      sessions = IsStrictlySortedBy-filter _ _ _ (IsStrictlySortedBy-filter _ _ _ h.in_order.sessions);
      few_sessions = fewer _ t.sessions most_sessions (fewer _ s.sessions most_sessions h.limits.sessions);
      each_session = purged t (owners ends s h.sessions);
      static = static_stays s t h (λ u m. m) (λ u r is a. (a.0, was (u, a.0) a.1, a.2));
      dynamic = dynamic_kept (breaks_dynamic s) (λ (e : Name × Session). is_entitled t e.1) t.sessions
          (dynamic_kept (breaks_dynamic s) (λ (e : Name × Session). not (ends e.1)) s.sessions h.separation.dynamic);
    })
    h

sound_grant_permission : (operation object role : Name) (s : State) → first_denial (GrantPermission operation object role) s ≡ None → IsSound s → IsSound (change (GrantPermission operation object role) s)
sound_grant_permission operation object role s none h =
    let holds = none_fails (preconditions (GrantPermission operation object role) s) none in
    with_granted s (with_key grant_cmp ((operation, object), role) s.granted)
    (sorted_with_key grants_total ((operation, object), role) s.granted h.in_order.granted)
    (λ p r m. ⊎_elim
    (λ e. let same = one_key grants_exact (p, r) ((operation, object), role) e in
    (subst (λ x. IsTrue (has pair_cmp x s.vocabulary.permissions)) (sym (ap (λ g. g.0) same)) (not-false _ holds.0), subst (λ x. IsTrue (has name_cmp x s.roles)) (sym (ap (λ g. g.1) same)) (not-false _ holds.1.0)))
    (h.references.granted p r)
    (or_cases _ _ (sym (has-with_key grants_total ((operation, object), role) s.granted (p, r)) ∙ m)))
    h

sound_revoke_permission : (operation object role : Name) (s : State) → IsSound s → IsSound (change (RevokePermission operation object role) s)
sound_revoke_permission operation object role s h =
    with_granted s (without grant_cmp ((operation, object), role) s.granted)
    (IsStrictlySortedBy-filter _ _ _ h.in_order.granted)
    (λ p r m. h.references.granted p r (was_kept grants_total grants_exact (λ g. not (eq_by_cmp grant_cmp ((operation, object), role) g)) s.granted (p, r) m).1)
    h

-- ---- Sessions

sound_create_session : (user name : Name) (roles : List Name) (s : State) → IsStrictlySortedBy name_cmp roles → first_denial (CreateSession user name roles) s ≡ None → IsSound s → IsSound (change (CreateSession user name roles) s)
sound_create_session user name roles s sorted none h =
    let holds = none_fails (preconditions (CreateSession user name roles) s) none in
    let opened : Session = record { owner = user; active = roles } in
    with_sessions s (put name_cmp name opened s.sessions) h
    (sorted_put names_total name opened s.sessions h.in_order.sessions)
    (let more = length-put-new name_cmp name opened s.sessions holds.1.0 in omega (arith, leb-false 8192 (length s.sessions) holds.1.1.1.1.0))
    (each_put name_cmp (IsSessionSound s) name opened s.sessions
    (record {
      owned = not-false _ holds.0;
      active = sorted;
      authorized = λ role m. (is_authorized_iff s user role).0 (all_member names_total names_exact (is_authorized s user) roles role (not-false _ holds.1.1.0) m);
    })
    h.sessions)
    holds.1.1.1.0

sound_delete_session : (name : Name) (s : State) → IsSound s → IsSound (record s { sessions = without_key name_cmp name s.sessions })
sound_delete_session name s h =
    with_sessions s (without_key name_cmp name s.sessions) h
    (IsStrictlySortedBy-filter _ _ _ h.in_order.sessions)
    (fewer _ s.sessions most_sessions h.limits.sessions)
    (each_kept _ (λ e. IsSessionSound s e.1) (λ e. IsSessionSound s e.1) (λ e sound _. sound) s.sessions h.sessions)
    (dynamic_kept (breaks_dynamic s) (λ (e : Name × Session). not (eq_by_cmp name_cmp name e.0)) s.sessions h.separation.dynamic)

-- a session is changed, and stays sound
sound_update : (name : Name) (f : Session → Session) (s : State) → ((x : Session) → find name_cmp name s.sessions ≡ Some x → IsSessionSound s x → IsSessionSound s (f x))
    → list_any (λ e. breaks_dynamic s e.1) (updated name_cmp name f s.sessions) ≡ false → IsSound s
    → IsSound (record s { sessions = updated name_cmp name f s.sessions })
sound_update name f s keeps separated h =
    with_sessions s (updated name_cmp name f s.sessions) h
    (sorted_updated names_total name f s.sessions h.in_order.sessions)
    (subst (λ n. n ≤ most_sessions) (sym (length-updated names_total name f s.sessions h.in_order.sessions)) h.limits.sessions)
    (each_updated name_cmp (IsSessionSound s) name f s.sessions keeps h.sessions)
    separated

sound_add_active_role : (user name role : Name) (s : State) → first_denial (AddActiveRole user name role) s ≡ None → IsSound s → IsSound (change (AddActiveRole user name role) s)
sound_add_active_role user name role s none h =
    let holds = none_fails (preconditions (AddActiveRole user name role) s) none in
    sound_update name (with_active role) s
    (λ x found sound. record {
      owned = sound.owned;
      active = sorted_with_key names_total role x.active sound.active;
      authorized = λ r m. ⊎_elim
          (λ e. let owner = one_key names_exact user x.owner (sym (ap (found_and (λ y. eq_by_cmp name_cmp user y.owner)) found) ∙ not-false _ holds.1.1.1.0) in
          subst (λ o. IsAuthorized s o r) owner (subst (IsAuthorized s user) (sym (one_key names_exact r role e)) ((is_authorized_iff s user role).0 (not-false _ holds.1.1.1.1.0))))
          (sound.authorized r)
          (or_cases _ _ (sym (has-with_key names_total role x.active r) ∙ m));
    })
    holds.1.1.1.1.1.1.0
    h

sound_drop_active_role : (name role : Name) (s : State) → IsSound s → IsSound (record s { sessions = updated name_cmp name (without_active role) s.sessions })
sound_drop_active_role name role s h =
    sound_update name (without_active role) s
    (λ x found sound. record {
      owned = sound.owned;
      active = IsStrictlySortedBy-filter _ _ _ sound.active;
      authorized = λ r m. sound.authorized r (was_kept names_total names_exact (λ y. not (eq_by_cmp name_cmp role y)) x.active r m).1;
    })
    (dynamic_updated (breaks_dynamic s) name (without_active role) s.sessions (λ x h. is_false _ (λ some. false≢true (sym h ∙ fewer_active x.active (without name_cmp role x.active) s.dynamic_sets (λ r m. (was_kept names_total names_exact (λ y. not (eq_by_cmp name_cmp role y)) x.active r m).1) some))) h.separation.dynamic)
    h

-- ---- Each command

sound_change : (c : Command) (s : State) → BringsASet c → first_denial c s ≡ None → IsSound s → IsSound (change c s)
sound_change (AddUser user) s brings none h = sound_add_user user s none h
sound_change (DeleteUser user) s brings none h = sound_delete_user user s h
sound_change (AddRole role) s brings none h = sound_add_role role s none h
sound_change (DeleteRole role) s brings none h = sound_delete_role role s none h
sound_change (AssignUser user role) s brings none h = sound_assign_user user role s none h
sound_change (DeassignUser user role) s brings none h = sound_deassign_user user role s h
sound_change (GrantPermission operation object role) s brings none h = sound_grant_permission operation object role s none h
sound_change (RevokePermission operation object role) s brings none h = sound_revoke_permission operation object role s h
sound_change (AddInheritance ascendant descendant) s brings none h = sound_add_inheritance ascendant descendant s none h
sound_change (DeleteInheritance ascendant descendant) s brings none h = sound_delete_inheritance ascendant descendant s h
sound_change (AddAscendant ascendant descendant) s brings none h = sound_add_ascendant ascendant descendant s none h
sound_change (AddDescendant ascendant descendant) s brings none h = sound_add_descendant ascendant descendant s none h
sound_change (CreateSet kind set roles n) s brings none h = sound_create_set kind set roles n s brings none h
sound_change (DeleteSet kind set) s brings none h = sound_delete_set kind set s h
sound_change (AddRoleMember kind set role) s brings none h = sound_add_role_member kind set role s none h
sound_change (DeleteRoleMember kind set role) s brings none h = sound_delete_role_member kind set role s none h
sound_change (SetCardinality kind set n) s brings none h = sound_set_cardinality kind set n s none h
sound_change (CreateSession user session roles) s brings none h = sound_create_session user session roles s brings none h
sound_change (DeleteSession user session) s brings none h = sound_delete_session session s h
sound_change (AddActiveRole user session role) s brings none h = sound_add_active_role user session role s none h
sound_change (DropActiveRole user session role) s brings none h = sound_drop_active_role session role s h
sound_change (CheckAccess session operation object) s brings none h = h
sound_change (ReviewCommand review) s brings none h = h

pub sound_effect : (c : Command) (s : State) → BringsASet c → IsSound s → IsSound (effect c s)
sound_effect c s brings h = go (first_denial c s) refl
  where
    go : (o : Option Denial) → first_denial c s ≡ o → IsSound (effect_unless o c s)
    go None e = sound_change c s brings e h
    go (Some d) e = h

no_role_sets : AreRoleSets [] []
no_role_sets = record { in_order = sorted_none (by_key name_cmp); few = omega arith; each = tt }

-- the founding state of a vocabulary is sound
pub sound_founding : (v : Vocabulary) → IsVocabulary v → IsSound (founding_state v)
sound_founding v h = record {
  vocabulary = h;
  in_order = record {
    users = sorted_none name_cmp;
    roles = sorted_none name_cmp;
    assigned = sorted_none pair_cmp;
    granted = sorted_none grant_cmp;
    declared = sorted_none pair_cmp;
    sessions = sorted_none (by_key name_cmp);
  };
  references = record { assigned = λ user role m. absurd (false≢true m); granted = λ permission role m. absurd (false≢true m); declared = λ ascendant descendant m. absurd (false≢true m) };
  limits = record {
    users = omega arith;
    roles = omega arith;
    sessions = omega arith;
    operations = h.few_operations;
    objects = h.few_objects;
    permissions = h.few_permissions;
  };
  no_cycle = λ ascendant descendant m. absurd (false≢true m);
  kind = λ limited ascendant descendant other m. absurd (false≢true m);
  separation = record { static_sets = no_role_sets; dynamic_sets = no_role_sets; static = refl; dynamic = refl };
  sessions = tt;
}
