-- Each command about sets of separation keeps a policy sound.
use Rattle.std.proofs.Common.{ℕ, List, [], ◌∷◌, length, count_by, Bool, true, false, not, cond, ◌≡◌, ◌≤◌, IsTrue, Some, None, refl, sym, ap, ◌∙◌, subst, ⊎_elim, arith}
use Rattle.std.proofs.lemmas.Bool.{or_cases, and_parts, and_from, false≢true, leb-true, le-leb, leb-false, not-false}
use Rattle.std.proofs.lemmas.List.Sums.{sum_by-cons}
use Rattle.std.proofs.lemmas.List.Kept.{IsStrictlySortedBy-filter}
use Rattle.std.specs.declared.cmp.Ordering.{Ordering}
use Rattle.std.specs.declared.cmp.Ordering.TheVariants.{Less, Equal, Greater}
use Rattle.std.specs.List.{list_all, filter, AllByRecursion as Each}
use Rattle.std.specs.List.Sorted.{IsStrictlySortedBy}
use Rattle.std.specs.Ordering.{eq_by_cmp}
use Rattle.std.specs.Option.{option_map_or}
use Rattle.std.specs.FinMap.Entries.{find, put, by_order}
use Rattle.sorted_keys.specs.Keys.{has, with_key, without, without_key, updated}
use Rattle.sorted_keys.proofs.KeyPlace.{sorted_with_key}
use Rattle.sorted_keys.proofs.EntryPlace.{sorted_put, sorted_updated}
use Rattle.sorted_keys.proofs.Members.{has-with_key}
use Rattle.rbac_terms.specs.Name.{Name, name_cmp}
use Rattle.rbac_terms.specs.Limits.{most_sets}
use Rattle.rbac_terms.specs.Separation.{RoleSet, is_well_sized, is_broken_by}
use Rattle.rbac_terms.specs.State.{State, Session}
use Rattle.rbac_terms.specs.Authorization.{is_authorized}
use Rattle.rbac_terms.specs.Constraints.{sets_of, with_sets, is_violated, is_badly_sized}
use Rattle.rbac_terms.specs.Change.{change, with_member, without_member, with_cardinality}
use Rattle.rbac_terms.specs.Rows.{preconditions, first_denial, found_and}
use Rattle.rbac_terms.specs.Sound.{IsRoleSet, AreRoleSets, IsSeparated, IsSound}
use Rattle.rbac_terms.specs.declared.separation.Separation.{Separation}
use Rattle.rbac_terms.specs.declared.separation.Separation.TheVariants.{Static, Dynamic}
use Rattle.rbac_terms.specs.declared.command.Command.TheVariants.{CreateSet, DeleteSet, AddRoleMember, DeleteRoleMember, SetCardinality}
use Rattle.sorted_keys.proofs.Ties.{one_key, all_member}
use Rattle.rbac_terms.proofs.NameLemmas.{names_total, names_exact}
use Rattle.sorted_keys.proofs.Kept.{length-with_key-new, length-put-new, fewer, was_kept, each_put, each_updated, each_kept, length-updated}
use Rattle.rbac_rules.proofs.SoundParts.{none_fails, sessions_stay}
use Rattle.rbac_rules.proofs.SoundSeparation.{is_false, sets_less}

-- ---- The sets of a kind

sets_with : (kind : Separation) (sets : List (Name × RoleSet)) (s : State) → sets_of kind (with_sets kind sets s) ≡ sets
sets_with Static sets s = refl
sets_with Dynamic sets s = refl

role_sets : (kind : Separation) (s : State) → IsSeparated s → AreRoleSets s.roles (sets_of kind s)
role_sets Static s h = h.static_sets
role_sets Dynamic s h = h.dynamic_sets

-- separation stays where sets are changed so that none is broken that was not
violated_less : (kind : Separation) (sets : List (Name × RoleSet)) (s : State)
    → ((p : Name → Bool) → Each (λ e. is_broken_by p e.1 ≡ false) (sets_of kind s) → Each (λ e. is_broken_by p e.1 ≡ false) sets) → IsSeparated s → is_violated kind (with_sets kind sets s) ≡ false
violated_less Static sets s less h = sets_less (is_authorized s) s.static_sets sets less s.users h.static
violated_less Dynamic sets s less h = sets_less (λ (x : Name × Session) r. has name_cmp r x.1.active) s.dynamic_sets sets less s.sessions h.dynamic

-- a policy stays sound with other sets of separation, static and dynamic, that hold
with_all_sets : (s : State) (static dynamic : List (Name × RoleSet)) → IsSeparated (record s { static_sets = static; dynamic_sets = dynamic }) → IsSound s
    → IsSound (record s { static_sets = static; dynamic_sets = dynamic })
with_all_sets s static dynamic separated h =
    let t : State = record s { static_sets = static; dynamic_sets = dynamic } in
    record {
      vocabulary = h.vocabulary;
      in_order = record { users = h.in_order.users; roles = h.in_order.roles; assigned = h.in_order.assigned; granted = h.in_order.granted; declared = h.in_order.declared; sessions = h.in_order.sessions };
      references = record { assigned = h.references.assigned; granted = h.references.granted; declared = h.references.declared };
      limits = record { users = h.limits.users; roles = h.limits.roles; sessions = h.limits.sessions; operations = h.limits.operations; objects = h.limits.objects; permissions = h.limits.permissions };
      no_cycle = h.no_cycle;
      kind = h.kind;
      separation = separated;
      sessions = sessions_stay s t (λ user m. m) (λ user role a. a) s.sessions h.sessions;
    }

-- with other sets of a kind
sound_with_sets : (kind : Separation) (sets : List (Name × RoleSet)) (s : State) → AreRoleSets s.roles sets → is_violated kind (with_sets kind sets s) ≡ false → IsSound s → IsSound (with_sets kind sets s)
sound_with_sets Static sets s are separated h =
    with_all_sets s sets s.dynamic_sets (record { static_sets = are; dynamic_sets = h.separation.dynamic_sets; static = separated; dynamic = h.separation.dynamic }) h
sound_with_sets Dynamic sets s are separated h =
    with_all_sets s s.static_sets sets (record { static_sets = h.separation.static_sets; dynamic_sets = are; static = h.separation.static; dynamic = separated }) h

-- ---- Sizes

module _ {K X : Type 0} (R : K → K → Ordering) (p : X → Bool) where
  -- a value that is put passes what all pass then
  put_passes : (k : K) (v : X) (es : List (K × X)) → list_all (λ e. p e.1) (put R k v es) ≡ true → p v ≡ true
  put_passes k v [] e = (and_parts _ _ e).0
  put_passes k v (x ∷ xs) e = go (R k x.0) e (put_passes k v xs)
    where
      go : (r : Ordering) → list_all (λ e. p e.1) (by_order r ((k, v) ∷ x ∷ xs) ((x.0, v) ∷ xs) (x ∷ put R k v xs)) ≡ true → (list_all (λ e. p e.1) (put R k v xs) ≡ true → p v ≡ true) → p v ≡ true
      go Less f rest = (and_parts _ _ f).0
      go Equal f rest = (and_parts _ _ f).0
      go Greater f rest = rest (and_parts _ _ f).1

  -- and so does one that is changed
  updated_passes : (k : K) (f : X → X) (es : List (K × X)) (v : X) → find R k es ≡ Some v → list_all (λ e. p e.1) (updated R k f es) ≡ true → p (f v) ≡ true
  updated_passes k f es v found e =
      put_passes k (f v) es (sym (ap (λ o. list_all (λ x. p x.1) (option_map_or (λ w. put R k (f w) es) o es)) found) ∙ e)

-- where no set is badly sized, all are well sized
sized_after : (kind : Separation) (sets : List (Name × RoleSet)) (s : State) → is_badly_sized kind (with_sets kind sets s) ≡ false → list_all (λ e. is_well_sized e.1) sets ≡ true
sized_after kind sets s none = ap (list_all (λ e. is_well_sized e.1)) (sym (sets_with kind sets s)) ∙ not-false _ none

-- fewer roles are counted among fewer
count_kept : (p kept : Name → Bool) (xs : List Name) → count_by p (filter kept xs) ≤ count_by p xs
count_kept p kept [] = omega arith
count_kept p kept (x ∷ xs) = go (kept x) (count_kept p kept xs)
  where
    go : (b : Bool) → count_by p (filter kept xs) ≤ count_by p xs → count_by p (cond b (x ∷ filter kept xs) (filter kept xs)) ≤ count_by p (x ∷ xs)
    go true rest = let first = sum_by-cons (λ y. cond (p y) 1 0) x (filter kept xs) in let second = sum_by-cons (λ y. cond (p y) 1 0) x xs in omega arith
    go false rest = let second = sum_by-cons (λ y. cond (p y) 1 0) x xs in omega arith

-- ---- The commands

pub sound_create_set : (kind : Separation) (set : Name) (roles : List Name) (n : ℕ) (s : State) → IsStrictlySortedBy name_cmp roles → first_denial (CreateSet kind set roles n) s ≡ None → IsSound s → IsSound (change (CreateSet kind set roles n) s)
sound_create_set kind set roles n s sorted none h =
    let holds = none_fails (preconditions (CreateSet kind set roles n) s) none in
    let created : RoleSet = record { roles = roles; cardinality = n } in
    let sets = sets_of kind s in
    let are = role_sets kind s h.separation in
    sound_with_sets kind (put name_cmp set created sets) s
    (record {
      in_order = sorted_put names_total set created sets are.in_order;
      few = let more = length-put-new name_cmp set created sets holds.0 in omega (arith, leb-false 256 (length sets) holds.1.1.1.1.0);
      each = each_put name_cmp (IsRoleSet s.roles) set created sets
          (record {
            in_order = sorted;
            exist = λ r m. all_member names_total names_exact (λ role. has name_cmp role s.roles) roles r (not-false _ holds.1.0) m;
            sized = put_passes name_cmp is_well_sized set created sets (sized_after kind (put name_cmp set created sets) s holds.1.1.0);
          })
          are.each;
    })
    holds.1.1.1.0 h

pub sound_delete_set : (kind : Separation) (set : Name) (s : State) → IsSound s → IsSound (change (DeleteSet kind set) s)
sound_delete_set kind set s h =
    let are = role_sets kind s h.separation in
    let kept : Name × RoleSet → Bool = λ e. not (eq_by_cmp name_cmp set e.0) in
    sound_with_sets kind (without_key name_cmp set (sets_of kind s)) s
    (record {
      in_order = IsStrictlySortedBy-filter _ _ _ are.in_order;
      few = fewer kept (sets_of kind s) most_sets are.few;
      each = each_kept kept (λ e. IsRoleSet s.roles e.1) (λ e. IsRoleSet s.roles e.1) (λ e is _. is) (sets_of kind s) are.each;
    })
    (violated_less kind (without_key name_cmp set (sets_of kind s)) s
    (λ p all. each_kept kept (λ e. is_broken_by p e.1 ≡ false) (λ e. is_broken_by p e.1 ≡ false) (λ e is _. is) (sets_of kind s) all) h.separation)
    h

-- a set of the kind is changed
updated_sets : (kind : Separation) (set : Name) (f : RoleSet → RoleSet) (s : State) → IsSound s → ((x : RoleSet) → find name_cmp set (sets_of kind s) ≡ Some x → IsRoleSet s.roles x → IsRoleSet s.roles (f x))
    → AreRoleSets s.roles (updated name_cmp set f (sets_of kind s))
updated_sets kind set f s h keeps =
    let are = role_sets kind s h.separation in
    record {
      in_order = sorted_updated names_total set f (sets_of kind s) are.in_order;
      few = subst (λ n. n ≤ most_sets) (sym (length-updated names_total set f (sets_of kind s) are.in_order)) are.few;
      each = each_updated name_cmp (IsRoleSet s.roles) set f (sets_of kind s) keeps are.each;
    }

pub sound_add_role_member : (kind : Separation) (set role : Name) (s : State) → first_denial (AddRoleMember kind set role) s ≡ None → IsSound s → IsSound (change (AddRoleMember kind set role) s)
sound_add_role_member kind set role s none h =
    let holds = none_fails (preconditions (AddRoleMember kind set role) s) none in
    sound_with_sets kind (updated name_cmp set (with_member role) (sets_of kind s)) s
    (updated_sets kind set (with_member role) s h (λ x found is. record {
      in_order = sorted_with_key names_total role x.roles is.in_order;
      exist = λ r m. ⊎_elim
          (λ e. subst (λ z. IsTrue (has name_cmp z s.roles)) (sym (one_key names_exact r role e)) (not-false _ holds.1.0))
          (is.exist r)
          (or_cases _ _ (sym (has-with_key names_total role x.roles r) ∙ m));
      sized =
          let absent : has name_cmp role x.roles ≡ false = sym (ap (found_and (λ (y : RoleSet). has name_cmp role y.roles)) found) ∙ holds.1.1.0 in
          let parts = and_parts _ _ is.sized in
          let more = length-with_key-new name_cmp role x.roles absent in
          and_from _ _ parts.0 (le-leb x.cardinality (length (with_key name_cmp role x.roles)) (let most = leb-true x.cardinality (length x.roles) parts.1 in omega arith));
    }))
    holds.1.1.1.0 h

pub sound_delete_role_member : (kind : Separation) (set role : Name) (s : State) → first_denial (DeleteRoleMember kind set role) s ≡ None → IsSound s → IsSound (change (DeleteRoleMember kind set role) s)
sound_delete_role_member kind set role s none h =
    let holds = none_fails (preconditions (DeleteRoleMember kind set role) s) none in
    let sets_then = updated name_cmp set (without_member role) (sets_of kind s) in
    sound_with_sets kind sets_then s
    (updated_sets kind set (without_member role) s h (λ x found is. record {
      in_order = IsStrictlySortedBy-filter _ _ _ is.in_order;
      exist = λ r m. is.exist r (was_kept names_total names_exact (λ y. not (eq_by_cmp name_cmp role y)) x.roles r m).1;
      sized = updated_passes name_cmp is_well_sized set (without_member role) (sets_of kind s) x found (sized_after kind sets_then s holds.1.1.0);
    }))
    (violated_less kind sets_then s
    (λ p all. each_updated name_cmp (λ x. is_broken_by p x ≡ false) set (without_member role) (sets_of kind s)
    (λ x found whole. is_false _ (λ some. false≢true (sym whole ∙ le-leb x.cardinality (count_by p x.roles) (let many = leb-true x.cardinality (count_by p (without name_cmp role x.roles)) some in let less = count_kept p (λ y. not (eq_by_cmp name_cmp role y)) x.roles in omega arith)))) all)
    h.separation)
    h

pub sound_set_cardinality : (kind : Separation) (set : Name) (n : ℕ) (s : State) → first_denial (SetCardinality kind set n) s ≡ None → IsSound s → IsSound (change (SetCardinality kind set n) s)
sound_set_cardinality kind set n s none h =
    let holds = none_fails (preconditions (SetCardinality kind set n) s) none in
    let sets_then = updated name_cmp set (with_cardinality n) (sets_of kind s) in
    sound_with_sets kind sets_then s
    (updated_sets kind set (with_cardinality n) s h (λ x found is. record {
      in_order = is.in_order;
      exist = is.exist;
      sized = updated_passes name_cmp is_well_sized set (with_cardinality n) (sets_of kind s) x found (sized_after kind sets_then s holds.1.0);
    }))
    holds.1.1.0 h
