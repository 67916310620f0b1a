-- Each command that adds or takes out roles or declared pairs keeps a policy sound.
use Rattle.std.proofs.Common.{List, [], ◌∷◌, length, Bool, true, false, not, ◌||◌, ◌≡◌, ◌<◌, IsTrue, None, refl, sym, ap, ◌∙◌, subst, ◌⊎◌, ⊎_elim, arith}
use Rattle.std.specs.List.{list_any, AllByRecursion as Each}
use Rattle.std.specs.List.Sorted.{IsStrictlySortedBy}
use Rattle.std.proofs.lemmas.Bool.{or_cases, or_left, or_parts, and_parts, and_from, false≢true, leb-false, not-false}
use Rattle.std.proofs.lemmas.List.Kept.{IsStrictlySortedBy-filter}
use Rattle.std.specs.Ordering.{eq_by_cmp}
use Rattle.sorted_keys.specs.Keys.{has, with_key, without}
use Rattle.sorted_keys.proofs.KeyPlace.{sorted_with_key}
use Rattle.sorted_keys.proofs.Members.{has-with_key}
use Rattle.rbac_terms.specs.Name.{Name, Grant, name_cmp, pair_cmp}
use Rattle.rbac_terms.specs.Limits.{most_roles, most_sessions}
use Rattle.rbac_terms.specs.Separation.{is_broken_by}
use Rattle.rbac_terms.specs.State.{State, Session}
use Rattle.rbac_terms.specs.Relations.{begins_with, ends_with, without_role, without_pairs_of}
use Rattle.rbac_terms.specs.Inheritance.{IsChain, Inherits}
use Rattle.rbac_terms.specs.Authorization.{InheritsIn, IsAuthorized, is_authorized, is_entitled, purge}
use Rattle.rbac_terms.specs.Rows.{preconditions, first_denial, is_limited_at}
use Rattle.rbac_terms.specs.Constraints.{is_violated, breaks_dynamic}
use Rattle.rbac_terms.specs.declared.separation.Separation.TheVariants.{Static}
use Rattle.rbac_terms.specs.Change.{change, end_sessions}
use Rattle.rbac_terms.specs.Sound.{HasNoCycle, KeepsKind, IsSessionSound, IsSound}
use Rattle.rbac_terms.specs.declared.command.Command.TheVariants.{AddRole, DeleteRole, AddInheritance, DeleteInheritance, AddAscendant, AddDescendant}
use Rattle.sorted_keys.proofs.Ties.{one_key, ties_itself}
use Rattle.rbac_terms.proofs.NameLemmas.{names_total, names_exact, pairs_total, pairs_exact, grants_total, grants_exact}
use Rattle.sorted_keys.proofs.Lists.{Each-weaker}
use Rattle.rbac_rules.proofs.InheritanceLemmas.{chain_end, joined, inherits_iff, inherits_still, inherits_without, inherits_over, descendant_iff}
use Rattle.rbac_rules.proofs.AuthorizationLemmas.{is_authorized_iff}
use Rattle.rbac_rules.proofs.SoundSeparation.{static_less, sets_wider, sets_without, dynamic_kept}
use Rattle.sorted_keys.proofs.Kept.{length-with_key-new, fewer, still, was_kept, is_kept, each_kept}
use Rattle.rbac_rules.proofs.SoundParts.{none_fails, within, sessions_stay, IsOwned, purged, owners, with_sessions}

-- ---- One more role

-- who is authorized stays so where roles and pairs stay
pub authorized_still : (s : State) (roles : List Name) (declared : List (Name × Name))
    → ((x : Name) → has name_cmp x s.roles ≡ true → has name_cmp x roles ≡ true) → ((p : Name × Name) → has pair_cmp p s.declared ≡ true → has pair_cmp p declared ≡ true)
    → (user role : Name) → IsAuthorized s user role → IsAuthorized (record s { roles = roles; declared = declared }) user role
authorized_still s roles declared keeps_roles keeps_pairs user role a = (a.0, a.1, inherits_still s.roles roles s.declared declared keeps_roles keeps_pairs a.0 role a.2)

-- nobody gains a role by a new one that no pair names
pub authorized_before_role : (role : Name) (s : State) → IsSound s → (user r : Name) → IsAuthorized (record s { roles = with_key name_cmp role s.roles }) user r → IsAuthorized s user r
authorized_before_role role s h user r a = (a.0, a.1, inherits_without role s.roles s.declared h.references.declared a.0 r (h.references.assigned user a.0 a.1).1 a.2)

-- static separation stays where, for the roles of the sets, nobody is authorized who was not
pub static_stays : (s t : State) → IsSound s → ((user : Name) → has name_cmp user t.users ≡ true → has name_cmp user s.users ≡ true)
    → ((user role : Name) → has name_cmp role s.roles ≡ true → IsAuthorized t user role → IsAuthorized s user role)
    → list_any (λ user. list_any (λ e. is_broken_by (is_authorized t user) e.1) s.static_sets) t.users ≡ false
static_stays s t h users authorized =
    static_less s.roles s.static_sets (is_authorized s) (is_authorized t) s.users t.users h.separation.static_sets.each
    (λ u r m is e. (users u m, (is_authorized_iff s u r).1 (authorized u r is ((is_authorized_iff t u r).0 e)))) h.separation.static

sound_with_role : (role : Name) (s : State) → has name_cmp role s.roles ≡ false → length s.roles < most_roles → IsSound s → IsSound (record s { roles = with_key name_cmp role s.roles })
sound_with_role role s new few h =
    let t : State = record s { roles = with_key name_cmp role s.roles } in
    let stays : (x : Name) → has name_cmp x s.roles ≡ true → has name_cmp x t.roles ≡ true = still names_total role s.roles in
    record {
      vocabulary = h.vocabulary;
      in_order = record {
        users = h.in_order.users;
        roles = sorted_with_key names_total role s.roles h.in_order.roles;
        assigned = h.in_order.assigned;
        granted = h.in_order.granted;
        declared = h.in_order.declared;
        sessions = h.in_order.sessions;
      };
      references = record {
        assigned = λ u r m. let were = h.references.assigned u r m in (were.0, stays r were.1);
        granted = λ p r m. let were = h.references.granted p r m in (were.0, stays r were.1);
        declared = λ a d m. let were = h.references.declared a d m in (stays a were.0, stays d were.1);
      };
      limits = within h.limits s.users t.roles s.assigned s.granted s.declared s.sessions
          h.limits.users (let more = length-with_key-new name_cmp role s.roles new in omega arith) h.limits.sessions;
      no_cycle = λ a d m back. h.no_cycle a d m (inherits_without role s.roles s.declared h.references.declared d a (h.references.declared a d m).1 back);
      kind = h.kind;
      separation = record {
        static_sets = sets_wider s.roles t.roles s.static_sets stays h.separation.static_sets;
        dynamic_sets = sets_wider s.roles t.roles s.dynamic_sets stays h.separation.dynamic_sets;
        static = static_stays s t h (λ u m. m) (λ u r is a. authorized_before_role role s h u r a);
        dynamic = h.separation.dynamic;
      };
      sessions = sessions_stay s t (λ user m. m) (authorized_still s t.roles s.declared stays (λ p m. m)) s.sessions h.sessions;
    }

pub sound_add_role : (role : Name) (s : State) → first_denial (AddRole role) s ≡ None → IsSound s → IsSound (change (AddRole role) s)
sound_add_role role s none h =
    let holds = none_fails (preconditions (AddRole role) s) none in
    sound_with_role role s holds.0 (omega (arith, leb-false 1024 (length s.roles) holds.1.0)) h

-- ---- One more pair

-- fewer pairs keep to the kind
kind_of_fewer : (s : State) (declared : List (Name × Name)) → ((p : Name × Name) → has pair_cmp p declared ≡ true → has pair_cmp p s.declared ≡ true) → KeepsKind s → KeepsKind (record s { declared = declared })
kind_of_fewer s declared were keeps limited a d e first second = keeps limited a d e (were (a, d) first) (were (a, e) second)

-- and so does one more, of a role that may have one more
kind_with_pair : (a d : Name) (s : State) → is_limited_at s a ≡ false → KeepsKind s → KeepsKind (record s { declared = with_key pair_cmp (a, d) s.declared })
kind_with_pair a d s free keeps limited x y z first second = ⊎_elim
    (λ e. ⊎_elim
    (λ f. ap (λ p. p.1) (new y e) ∙ sym (ap (λ p. p.1) (new z f)))
    (λ old. absurd (no_other z (subst (λ r. has pair_cmp (r, z) s.declared ≡ true) (ap (λ p. p.0) (new y e)) old)))
    (either z second))
    (λ old. ⊎_elim
    (λ f. absurd (no_other y (subst (λ r. has pair_cmp (r, y) s.declared ≡ true) (ap (λ p. p.0) (new z f)) old)))
    (keeps limited x y z old)
    (either z second))
    (either y first)
  where
    new : (w : Name) → eq_by_cmp pair_cmp (x, w) (a, d) ≡ true → ◌≡◌ {A = Name × Name} (x, w) (a, d)
    new w e = one_key pairs_exact (x, w) (a, d) e

    either : (w : Name) → has pair_cmp (x, w) (with_key pair_cmp (a, d) s.declared) ≡ true → (eq_by_cmp pair_cmp (x, w) (a, d) ≡ true) ⊎ (has pair_cmp (x, w) s.declared ≡ true)
    either w m = or_cases _ _ (sym (has-with_key pairs_total (a, d) s.declared (x, w)) ∙ m)

    no_other : (w : Name) → has pair_cmp (a, w) s.declared ≡ true → ⊥
    no_other w m = false≢true (sym free ∙ and_from _ _ limited ((descendant_iff a s.declared).1 (w, m)))

-- a role that is new has no declared descendant
new_is_free : (a : Name) (s : State) → has name_cmp a s.roles ≡ false → IsSound s → is_limited_at s a ≡ false
new_is_free a s new h = go (is_limited_at s a) refl
  where
    go : (b : Bool) → is_limited_at s a ≡ b → is_limited_at s a ≡ false
    go false e = e
    go true e =
        let d = (descendant_iff a s.declared).0 (and_parts _ _ e).1 in
        absurd (false≢true (sym new ∙ (h.references.declared a d.0 d.1).0))

-- a policy stays sound with other declared pairs: between roles, without a cycle, of the hierarchy's kind, no user authorized that
-- breaks a static set, and each session sound
with_declared : (s : State) (declared : List (Name × Name)) → IsStrictlySortedBy pair_cmp declared
    → ((a d : Name) → IsTrue (has pair_cmp (a, d) declared) → IsTrue (has name_cmp a s.roles) × IsTrue (has name_cmp d s.roles))
    → HasNoCycle (record s { declared = declared }) → KeepsKind (record s { declared = declared }) → is_violated Static (record s { declared = declared }) ≡ false → Each (λ e. IsSessionSound (record s { declared = declared }) e.1) s.sessions
    → IsSound s → IsSound (record s { declared = declared })
with_declared s declared sorted exist acyclic keeps separated all h = record {
  vocabulary = h.vocabulary;
  in_order = record {
    users = h.in_order.users;
    roles = h.in_order.roles;
    assigned = h.in_order.assigned;
    granted = h.in_order.granted;
    declared = sorted;
    sessions = h.in_order.sessions;
  };
  references = record { assigned = h.references.assigned; granted = h.references.granted; declared = exist };
  limits = within h.limits s.users s.roles s.assigned s.granted declared s.sessions h.limits.users h.limits.roles h.limits.sessions;
  no_cycle = acyclic;
  kind = keeps;
  separation = record { static_sets = h.separation.static_sets; dynamic_sets = h.separation.dynamic_sets; static = separated; dynamic = h.separation.dynamic };
  sessions = all;
}

sound_with_pair : (a d : Name) (s : State) → has name_cmp a s.roles ≡ true → has name_cmp d s.roles ≡ true → ¬ (InheritsIn s d a) → is_limited_at s a ≡ false
    → is_violated Static (record s { declared = with_key pair_cmp (a, d) s.declared }) ≡ false → IsSound s
    → IsSound (record s { declared = with_key pair_cmp (a, d) s.declared })
sound_with_pair a d s is_a is_d acyclic free separated h =
    let t : State = record s { declared = with_key pair_cmp (a, d) s.declared } in
    let stays : (p : Name × Name) → has pair_cmp p s.declared ≡ true → has pair_cmp p t.declared ≡ true = still pairs_total (a, d) s.declared in
    let either : (x y : Name) → has pair_cmp (x, y) t.declared ≡ true → (eq_by_cmp pair_cmp (x, y) (a, d) || has pair_cmp (x, y) s.declared) ≡ true = λ x y m. sym (has-with_key pairs_total (a, d) s.declared (x, y)) ∙ m in
    with_declared s more
    (sorted_with_key pairs_total (a, d) s.declared h.in_order.declared)
    (λ x y m. ⊎_elim
    (λ e. let same = one_key pairs_exact (x, y) (a, d) e in
    (subst (λ z. IsTrue (has name_cmp z s.roles)) (sym (ap (λ p. p.0) same)) is_a, subst (λ z. IsTrue (has name_cmp z s.roles)) (sym (ap (λ p. p.1) same)) is_d))
    (h.references.declared x y)
    (or_cases _ _ (either x y m)))
    (λ x y m back. ⊎_elim
    (λ e. let same = one_key pairs_exact (x, y) (a, d) e in
    new_pair (subst (λ p. Inherits s.roles t.declared p.1 p.0) same back))
    (λ old. old_pair x y old back)
    (or_cases _ _ (either x y m)))
    (kind_with_pair a d s free h.kind)
    separated
    (sessions_stay s t (λ user m. m) (authorized_still s s.roles t.declared (λ x m. m) stays) s.sessions h.sessions)
    h
  where
    more : List (Name × Name)
    more = with_key pair_cmp (a, d) s.declared

    new_pair : Inherits s.roles more d a → ⊥
    new_pair back = ⊎_elim acyclic (λ over. acyclic over.0) (inherits_over s.roles s.declared a d d a back)

    -- a way from y back to x over the new pair would have led from d to a before
    old_pair : (x y : Name) → has pair_cmp (x, y) s.declared ≡ true → Inherits s.roles more y x → ⊥
    old_pair x y m back =
        let are = h.references.declared x y m in
        let step : Inherits s.roles s.declared x y = (y ∷ [], (are.0, m, (are.1, refl))) in
        ⊎_elim
        (h.no_cycle x y m)
        (λ over. acyclic (joined s.roles s.declared d x a over.1 (joined s.roles s.declared x y a step over.0)))
        (inherits_over s.roles s.declared a d y x back)

pub sound_add_inheritance : (a d : Name) (s : State) → first_denial (AddInheritance a d) s ≡ None → IsSound s → IsSound (change (AddInheritance a d) s)
sound_add_inheritance a d s none h =
    let holds = none_fails (preconditions (AddInheritance a d) s) none in
    let are = and_parts _ _ (not-false _ holds.0) in
    sound_with_pair a d s are.0 are.1 (λ back. false≢true (sym holds.1.1.0 ∙ (inherits_iff s.roles s.declared d a).1 back)) holds.1.1.1.0 holds.1.1.1.1.0 h

-- a new role that no pair names is inherited by no other
pub not_inherited : (role other : Name) (s : State) → has name_cmp role s.roles ≡ false → has name_cmp other s.roles ≡ true → IsSound s → ¬ (Inherits (with_key name_cmp role s.roles) s.declared other role)
not_inherited role other s new is h i =
    let was = inherits_without role s.roles s.declared h.references.declared other role is i in
    false≢true (sym new ∙ chain_end s.roles s.declared other was.0 role was.1)

-- nor does it inherit any other
pub inherits_nothing : (role other : Name) (s : State) → has name_cmp role s.roles ≡ false → has name_cmp other s.roles ≡ true → IsSound s → ¬ (Inherits (with_key name_cmp role s.roles) s.declared role other)
inherits_nothing role other s new is h i = go i.0 i.1
  where
    go : (rest : List Name) → IsChain (with_key name_cmp role s.roles) s.declared role rest other → ⊥
    go [] c = false≢true (sym new ∙ subst (λ x. has name_cmp x s.roles ≡ true) (sym c.1) is)
    go (p ∷ rest) c = false≢true (sym new ∙ (h.references.declared role p c.1).0)

-- nobody gains a role by a new ascendant
pub authorized_before_ascendant : (a d : Name) (s : State) → has name_cmp a s.roles ≡ false → IsSound s → (user r : Name)
    → IsAuthorized (record s { roles = with_key name_cmp a s.roles; declared = with_key pair_cmp (a, d) s.declared }) user r → IsAuthorized s user r
authorized_before_ascendant a d s new h user r x = let senior = (h.references.assigned user x.0 x.1).1 in ⊎_elim
    (λ direct. (x.0, x.1, inherits_without a s.roles s.declared h.references.declared x.0 r senior direct))
    (λ over. absurd (not_inherited a x.0 s new senior h over.0))
    (inherits_over (with_key name_cmp a s.roles) s.declared a d x.0 r x.2)

-- nor, but for that role, by a new descendant
pub authorized_before_descendant : (a d : Name) (s : State) → has name_cmp d s.roles ≡ false → IsSound s → (user r : Name) → has name_cmp r s.roles ≡ true
    → IsAuthorized (record s { roles = with_key name_cmp d s.roles; declared = with_key pair_cmp (a, d) s.declared }) user r → IsAuthorized s user r
authorized_before_descendant a d s new h user r is x = let senior = (h.references.assigned user x.0 x.1).1 in ⊎_elim
    (λ direct. (x.0, x.1, inherits_without d s.roles s.declared h.references.declared x.0 r senior direct))
    (λ over. absurd (inherits_nothing d r s new is h over.1))
    (inherits_over (with_key name_cmp d s.roles) s.declared a d x.0 r x.2)

-- a name that is added is there
pub is_there : (name : Name) (names : List Name) → has name_cmp name (with_key name_cmp name names) ≡ true
is_there name names = has-with_key names_total name names name ∙ or_left _ _ (ties_itself names_total name)

pub sound_add_ascendant : (a d : Name) (s : State) → first_denial (AddAscendant a d) s ≡ None → IsSound s → IsSound (change (AddAscendant a d) s)
sound_add_ascendant a d s none h =
    let holds = none_fails (preconditions (AddAscendant a d) s) none in
    let is_d = not-false _ holds.1.0 in
    let more = with_key pair_cmp (a, d) s.declared in
    sound_with_pair a d (record s { roles = with_key name_cmp a s.roles }) (is_there a s.roles) (still names_total a s.roles d is_d) (not_inherited a d s holds.0 is_d h) (new_is_free a s holds.0 h)
    (static_stays s (record s { roles = with_key name_cmp a s.roles; declared = more }) h (λ u m. m) (λ u r is x. authorized_before_ascendant a d s holds.0 h u r x))
    (sound_with_role a s holds.0 (omega (arith, leb-false 1024 (length s.roles) holds.1.1.0)) h)

pub sound_add_descendant : (a d : Name) (s : State) → first_denial (AddDescendant a d) s ≡ None → IsSound s → IsSound (change (AddDescendant a d) s)
sound_add_descendant a d s none h =
    let holds = none_fails (preconditions (AddDescendant a d) s) none in
    let is_a = not-false _ holds.1.0 in
    let more = with_key pair_cmp (a, d) s.declared in
    sound_with_pair a d (record s { roles = with_key name_cmp d s.roles }) (still names_total d s.roles a is_a) (is_there d s.roles) (inherits_nothing d a s holds.0 is_a h) holds.1.1.0
    (static_stays s (record s { roles = with_key name_cmp d s.roles; declared = more }) h (λ u m. m) (λ u r is x. authorized_before_descendant a d s holds.0 h u r is x))
    (sound_with_role d s holds.0 (omega (arith, leb-false 1024 (length s.roles) holds.1.1.1.0)) h)

-- ---- Fewer roles and pairs

pub sound_delete_inheritance : (a d : Name) (s : State) → IsSound s → IsSound (change (DeleteInheritance a d) s)
sound_delete_inheritance a d s h =
    let t : State = record s { declared = without pair_cmp (a, d) s.declared } in
    let was : (p : Name × Name) → has pair_cmp p t.declared ≡ true → has pair_cmp p s.declared ≡ true = λ p m. (was_kept pairs_total pairs_exact (λ x. not (eq_by_cmp pair_cmp (a, d) x)) s.declared p m).1 in
    with_declared (record s { sessions = (purge t).sessions }) t.declared
    (IsStrictlySortedBy-filter _ _ _ h.in_order.declared)
    (λ x y m. h.references.declared x y (was (x, y) m))
    (λ x y m back. h.no_cycle x y (was (x, y) m) (inherits_still s.roles s.roles t.declared s.declared (λ z k. k) was y x back))
    (kind_of_fewer s t.declared was h.kind)
    (static_stays s t h (λ u m. m) (λ u r is x. (x.0, x.1, inherits_still s.roles s.roles t.declared s.declared (λ z k. k) was x.0 r x.2)))
    (purged t (Each-weaker (λ e. IsSessionSound s e.1) (λ (e : Name × Session). IsOwned s e.1) s.sessions (λ e sound. (sound.owned, sound.active)) h.sessions))
    (with_sessions s (purge t).sessions h
    (IsStrictlySortedBy-filter _ _ _ h.in_order.sessions)
    (fewer _ s.sessions most_sessions h.limits.sessions)
    (each_kept (λ (e : Name × Session). is_entitled t e.1) (λ e. IsSessionSound s e.1) (λ e. IsSessionSound s e.1) (λ e sound _. sound) s.sessions h.sessions)
    (dynamic_kept (breaks_dynamic s) (λ (e : Name × Session). is_entitled t e.1) s.sessions h.separation.dynamic))

neither : (a b : Bool) → not (a || b) ≡ true → (not a ≡ true) × (not b ≡ true)
neither true b e = absurd (false≢true e)
neither false true e = absurd (false≢true e)
neither false false e = (refl, refl)

pub sound_delete_role : (role : Name) (s : State) → first_denial (DeleteRole role) s ≡ None → IsSound s → IsSound (change (DeleteRole role) s)
sound_delete_role role s none h =
    let holds = none_fails (preconditions (DeleteRole role) s) none in
    let free = or_parts _ _ holds.1.0 in
    let ends : Session → Bool = λ x. has name_cmp role x.active in
    let t : State = end_sessions ends (record s { roles = without name_cmp role s.roles; assigned = without_role role s.assigned; granted = without_role role s.granted; declared = without_pairs_of role s.declared }) in
    let was_role : (x : Name) → has name_cmp x t.roles ≡ true → has name_cmp x s.roles ≡ true = λ x m. (was_kept names_total names_exact (λ y. not (eq_by_cmp name_cmp role y)) s.roles x m).1 in
    let was_pair : (p : Name × Name) → has pair_cmp p t.declared ≡ true → (not (begins_with role p || ends_with role p) ≡ true) × IsTrue (has pair_cmp p s.declared) = was_kept pairs_total pairs_exact (λ (p : Name × Name). not (begins_with role p || ends_with role p)) s.declared in
    record {
      vocabulary = h.vocabulary;
      in_order = record {
        users = h.in_order.users;
        roles = IsStrictlySortedBy-filter _ _ _ h.in_order.roles;
        assigned = IsStrictlySortedBy-filter _ _ _ h.in_order.assigned;
        granted = IsStrictlySortedBy-filter _ _ _ h.in_order.granted;
        declared = IsStrictlySortedBy-filter _ _ _ h.in_order.declared;
        sessions = IsStrictlySortedBy-filter _ _ _ (IsStrictlySortedBy-filter _ _ _ h.in_order.sessions);
      };
      references = record {
        assigned = λ u r m.
            let kept = was_kept pairs_total pairs_exact (λ (p : Name × Name). not (ends_with role p)) s.assigned (u, r) m in
            let were = h.references.assigned u r kept.1 in
            (were.0, is_kept names_total names_exact (λ x. not (eq_by_cmp name_cmp role x)) s.roles r kept.0 were.1);
        granted = λ p r m.
            let kept = was_kept grants_total grants_exact (λ (g : Grant). not (ends_with role g)) s.granted (p, r) m in
            let were = h.references.granted p r kept.1 in
            (were.0, is_kept names_total names_exact (λ x. not (eq_by_cmp name_cmp role x)) s.roles r kept.0 were.1);
        declared = λ x y m.
            let kept = was_pair (x, y) m in
            let others = neither _ _ kept.0 in
            let were = h.references.declared x y kept.1 in
            (is_kept names_total names_exact (λ z. not (eq_by_cmp name_cmp role z)) s.roles x others.0 were.0, is_kept names_total names_exact (λ z. not (eq_by_cmp name_cmp role z)) s.roles y others.1 were.1);
      };
      limits = within h.limits s.users (without name_cmp role s.roles) (without_role role s.assigned) (without_role role s.granted) (without_pairs_of role s.declared) (purge t).sessions
          h.limits.users (fewer _ s.roles most_roles h.limits.roles) (fewer _ t.sessions most_sessions (fewer _ s.sessions most_sessions h.limits.sessions));
      no_cycle = λ x y m back. h.no_cycle x y (was_pair (x, y) m).1 (inherits_still t.roles s.roles t.declared s.declared was_role (λ p k. (was_pair p k).1) y x back);
      kind = kind_of_fewer s t.declared (λ p k. (was_pair p k).1) h.kind;
      separation = record {
        static_sets = sets_without role s.roles s.static_sets free.0 h.separation.static_sets;
        dynamic_sets = sets_without role s.roles s.dynamic_sets free.1 h.separation.dynamic_sets;
        static = static_stays s t h (λ u m. m) (λ u r is x. (
          x.0,
          (was_kept pairs_total pairs_exact (λ (p : Name × Name). not (ends_with role p)) s.assigned (u, x.0) x.1).1,
          inherits_still t.roles s.roles t.declared s.declared was_role (λ p k. (was_pair p k).1) x.0 r x.2,
        ));
        dynamic = dynamic_kept (breaks_dynamic s) (λ (e : Name × Session). is_entitled t e.1) t.sessions
            (dynamic_kept (breaks_dynamic s) (λ (e : Name × Session). not (ends e.1)) s.sessions h.separation.dynamic);
      };
      sessions = purged t (owners ends s h.sessions);
    }

-- ---- The order that a sound policy has

-- two roles that inherit one another are one
pub inherits_antisymmetric : (s : State) (r q : Name) → IsSound s → InheritsIn s r q → InheritsIn s q r → r ≡ q
inherits_antisymmetric s r q h there back = go there.0 there.1
  where
    go : (rest : List Name) → IsChain s.roles s.declared r rest q → r ≡ q
    go [] c = c.1
    go (p ∷ rest) c = absurd (h.no_cycle r p c.1 (joined s.roles s.declared p q r (rest, c.2) back))
