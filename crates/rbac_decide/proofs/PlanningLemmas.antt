-- What is planned of a command, and then what it takes out, is its change.
use Rattle.std.proofs.Common.{◌≡◌, true, false, cond, not, ◌&&◌, refl, sym, ap, ◌∙◌, subst, arith}
use Rattle.rbac_decide.proofs.Common.{Each, has, with_key, without, change, inherits, Name, name_cmp, pair_cmp, preconditions, IsSessionSound, State}
use Rattle.rbac_decide.proofs.Common.{Vocabulary, Command, AddRole, DeleteRole, DeassignUser, AddInheritance, DeleteInheritance, AddAscendant, AddDescendant}
use Rattle.rbac_decide.proofs.Common.{CreateSet, AddRoleMember, Static, Dynamic, Sets, Order, sets_after, order_after, role_sets_after, sessions_after}
use Rattle.rbac_decide.proofs.Common.{taken_out, roles_left, TakesFromSound, IsGrown, state_of, HasSameRoles, IsUndenied, Tables, and_parts, not-false, still}
use Rattle.rbac_decide.proofs.Common.{Each-weaker, names_total, inherits_iff, inherits_still, none_fails, is_there, not_inherited, inherits_nothing, is_false}
use Rattle.rbac_hierarchy.specs.Changes.{with_pair}
use Rattle.rbac_decide.proofs.CountingSteps.{put_back}

-- the state of tables with what a command makes of each
abbrev grown : Command → Tables → Vocabulary → State
grown c t v =
    let sets = sets_after c t.sets.content in
    let order = order_after c t.hierarchy.content in
    record {
      users = sets.users;
      roles = order.roles;
      assigned = sets.assigned;
      granted = sets.granted;
      declared = order.declared;
      static_sets = role_sets_after Static c t.static_sets.content;
      dynamic_sets = role_sets_after Dynamic c t.dynamic_sets.content;
      sessions = sessions_after c t.sessions.content;
      vocabulary = v;
    }

grown_state : (c : Command) (t g : Tables) → IsGrown c t g → (v : Vocabulary) → state_of g v ≡ grown c t v
grown_state c t g h v = cc

-- a pair of two roles that closes no cycle is declared
declares : (a d : Name) (h : Order) → has name_cmp a h.roles ≡ true → has name_cmp d h.roles ≡ true → inherits h.roles h.declared d a ≡ false
    → with_pair a d h ≡ record h { declared = with_key pair_cmp (a, d) h.declared }
declares a d h is_a is_d acyclic = λ i. cond (is_a i && (is_d i && not (acyclic i))) (record h { declared = with_key pair_cmp (a, d) h.declared }) h

-- the state in which its pairs are these
abbrev with_order : Tables → Vocabulary → Order → State
with_order t v h = record (state_of t v) { roles = h.roles; declared = h.declared }

module _ (t : Tables) (v : Vocabulary) where
  abbrev order : Order
  order = t.hierarchy.content

  inheritance : (a d : Name) → IsUndenied (AddInheritance a d) t → with_order t v (with_pair a d order) ≡ change (AddInheritance a d) (state_of t v)
  inheritance a d u =
      let holds = none_fails (preconditions (AddInheritance a d) (state_of t u.vocabulary)) u.undenied in
      let are = and_parts _ _ (not-false _ holds.0) in
      ap (with_order t v) (declares a d order are.0 are.1 holds.1.1.0)

  ascendant : (a d : Name) → IsUndenied (AddAscendant a d) t
      → with_order t v (with_pair a d (record order { roles = with_key name_cmp a order.roles })) ≡ change (AddAscendant a d) (state_of t v)
  ascendant a d u =
      let s = state_of t u.vocabulary in
      let holds = none_fails (preconditions (AddAscendant a d) s) u.undenied in
      let is_d = not-false _ holds.1.0 in
      let acyclic : inherits (with_key name_cmp a order.roles) order.declared d a ≡ false =
      is_false _ (λ back. not_inherited a d s holds.0 is_d u.sound ((inherits_iff (with_key name_cmp a order.roles) order.declared d a).0 back)) in
      ap (with_order t v) (declares a d (record order { roles = with_key name_cmp a order.roles }) (is_there a order.roles) (still names_total a order.roles d is_d) acyclic)

  descendant : (a d : Name) → IsUndenied (AddDescendant a d) t
      → with_order t v (with_pair a d (record order { roles = with_key name_cmp d order.roles })) ≡ change (AddDescendant a d) (state_of t v)
  descendant a d u =
      let s = state_of t u.vocabulary in
      let holds = none_fails (preconditions (AddDescendant a d) s) u.undenied in
      let is_a = not-false _ holds.1.0 in
      let acyclic : inherits (with_key name_cmp d order.roles) order.declared d a ≡ false =
      is_false _ (λ back. inherits_nothing d a s holds.0 is_a u.sound ((inherits_iff (with_key name_cmp d order.roles) order.declared d a).0 back)) in
      ap (with_order t v) (declares a d (record order { roles = with_key name_cmp d order.roles }) (still names_total d order.roles a is_a) (is_there d order.roles) acyclic)

  then_taken_out : (c : Command) → IsUndenied c t → taken_out c (grown c t v) ≡ change c (state_of t v)
  then_taken_out (AddInheritance a d) u = inheritance a d u
  then_taken_out (AddAscendant a d) u = ascendant a d u
  then_taken_out (AddDescendant a d) u = descendant a d u
  then_taken_out (CreateSet Static set roles n) u = refl
  then_taken_out (CreateSet Dynamic set roles n) u = refl
  then_taken_out (AddRoleMember Static set role) u = refl
  then_taken_out (AddRoleMember Dynamic set role) u = refl
  then_taken_out c u = refl

pub made_by_plan : (c : Command) (t g : Tables) → IsGrown c t g → IsUndenied c t → (v : Vocabulary) → taken_out c (state_of g v) ≡ change c (state_of t v)
made_by_plan c t g h u v = ap (taken_out c) (grown_state c t g h v) ∙ then_taken_out t v c u

-- what an assignment is taken out of is as it was before, sound, and so was what a pair is taken out of
pub takes_from_sound : (c : Command) (t g : Tables) → IsGrown c t g → IsUndenied c t → TakesFromSound c g
takes_from_sound (DeassignUser user role) t g h u = λ v.
    subst (λ (s : State). Each (λ e. IsSessionSound s e.1) s.sessions) (sym (grown_state (DeassignUser user role) t g h v))
    (Each-weaker (λ e. IsSessionSound (state_of t u.vocabulary) e.1) (λ e. IsSessionSound (state_of t v) e.1) t.sessions.content
    (λ e sound. record { owned = sound.owned; active = sound.active; authorized = sound.authorized }) u.sound.sessions)
takes_from_sound (DeleteInheritance a d) t g h u = (
  a,
  λ v.
      let declared = t.hierarchy.content.declared in
      subst (λ (s : State). Each (λ e. IsSessionSound (record s { declared = with_key pair_cmp (a, d) s.declared }) e.1) s.sessions) (sym (grown_state (DeleteInheritance a d) t g h v))
      (Each-weaker (λ e. IsSessionSound (state_of t u.vocabulary) e.1) (λ e. IsSessionSound (record (state_of t v) { declared = with_key pair_cmp (a, d) (without pair_cmp (a, d) declared) }) e.1) t.sessions.content
      (λ e sound. record {
        owned = sound.owned;
        active = sound.active;
        authorized = λ r m.
            let was = sound.authorized r m in
            (was.0, was.1, inherits_still t.hierarchy.content.roles t.hierarchy.content.roles declared (with_key pair_cmp (a, d) (without pair_cmp (a, d) declared)) (λ z k. k) (put_back (a, d) declared) was.0 r was.2);
      }) u.sound.sessions),
)
takes_from_sound c t g h u = tt

-- ---- The roles of the role sets go with those of the hierarchy

with_pair_roles : (a d : Name) (h : Order) → (with_pair a d h).roles ≡ h.roles
with_pair_roles a d h = grind arith

roles_after : (c : Command) (h : Order) (s : Sets) → h.roles ≡ s.roles → (order_after c h).roles ≡ roles_left c (sets_after c s).roles
roles_after (AddRole role) h s same = ap (with_key name_cmp role) same
roles_after (DeleteRole role) h s same = ap (without name_cmp role) same
roles_after (AddInheritance a d) h s same = with_pair_roles a d h ∙ same
roles_after (AddAscendant a d) h s same = with_pair_roles a d (record h { roles = with_key name_cmp a h.roles }) ∙ ap (with_key name_cmp a) same
roles_after (AddDescendant a d) h s same = with_pair_roles a d (record h { roles = with_key name_cmp d h.roles }) ∙ ap (with_key name_cmp d) same
roles_after c h s same = same

pub same_roles_by_plan : (c : Command) (t g u : Tables) → IsGrown c t g → u.sets.content.roles ≡ roles_left c g.sets.content.roles → u.hierarchy.content ≡ g.hierarchy.content → HasSameRoles t → HasSameRoles u
same_roles_by_plan c t g u h roles order same =
    ap (λ (o : Order). o.roles) (order ∙ h.hierarchy)
    ∙ roles_after c t.hierarchy.content t.sets.content same
    ∙ sym (roles ∙ ap (λ (x : Sets). roles_left c x.roles) h.sets)
