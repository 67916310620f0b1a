-- A set that is made in parts, while none can be broken.
use Rattle.std.proofs.Common.{ℕ, List, [], ◌∷◌, ◌++◌, length, leb, count_by, cond, Bool, true, false, not, ◌≡◌, ◌+◌, IsTrue, is_some, Some, None, refl, sym, ap, ◌∙◌, arith, map}
use Rattle.std.proofs.lemmas.Bool.{and_parts, and_from, leb-true, le-leb}
use Rattle.std.proofs.lemmas.List.Sums.{sum_by-cons}
use Rattle.std.specs.declared.cmp.Ordering.TheVariants.{Less}
use Rattle.std.specs.List.{list_all, AllByRecursion as Each}
use Rattle.std.specs.List.Sorted.{IsStrictlySortedBy}
use Rattle.std.specs.FinMap.Entries.{find, put}
use Rattle.sorted_keys.specs.Keys.{has, with_key, updated}
use Rattle.sorted_keys.proofs.Ties.{member_all}
use Rattle.sorted_keys.proofs.Lists.{Each-always, Each-append, Each-weaker}
use Rattle.rbac_terms.specs.Name.{Name, name_cmp}
use Rattle.rbac_terms.specs.Limits.{most_sets}
use Rattle.rbac_terms.specs.Separation.{RoleSet, is_well_sized, is_broken_by}
use Rattle.rbac_terms.specs.State.{State}
use Rattle.rbac_terms.specs.Change.{with_member, with_cardinality}
use Rattle.rbac_terms.specs.Rows.{found_and}
use Rattle.rbac_terms.specs.Constraints.{sets_of, with_sets, breaks_static, is_violated, is_badly_sized}
use Rattle.rbac_terms.specs.Sound.{IsRoleSet}
use Rattle.rbac_terms.specs.declared.separation.Separation.{Separation}
use Rattle.rbac_terms.specs.declared.separation.Separation.TheVariants.{Static, Dynamic}
use Rattle.rbac_terms.specs.declared.command.Command.{Command}
use Rattle.rbac_terms.specs.declared.command.Command.TheVariants.{CreateSet, SetCardinality}
use Rattle.rbac_terms.proofs.NameLemmas.{names_total, names_exact}
use Rattle.rbac_rules.proofs.SoundSeparation.{is_false, passes_none}
use Rattle.rbac_dump.specs.Dump.{member_command, set_parts}
use Rattle.rbac_dump.proofs.Leading.{Makes, Leads, TellsNext, makes, leads_one, leads_on, told}
use Rattle.rbac_dump.proofs.Next.{next_key, sorted_front, has_front, IsNextEntry, unfound_between, put_between, found_last, updated_last}
use Rattle.std.proofs.lemmas.List.{append-nil}

pub there : (b : Bool) → IsTrue b → not b ≡ false
there b h = ap not h

-- ---- A state with some sets of a kind

pub sets_with : (kind : Separation) (sets : List (Name × RoleSet)) (t : State) → sets_of kind (with_sets kind sets t) ≡ sets
sets_with Static sets t = refl
sets_with Dynamic sets t = refl

pub roles_with : (kind : Separation) (sets : List (Name × RoleSet)) (t : State) → (with_sets kind sets t).roles ≡ t.roles
roles_with Static sets t = refl
roles_with Dynamic sets t = refl

pub sets_again : (kind : Separation) (sets more : List (Name × RoleSet)) (t : State) → with_sets kind more (with_sets kind sets t) ≡ with_sets kind more t
sets_again Static sets more t = refl
sets_again Dynamic sets more t = refl

pub all_sized : (sets : List (Name × RoleSet)) → Each (λ e. IsTrue (is_well_sized e.1)) sets → list_all (λ e. is_well_sized e.1) sets ≡ true
all_sized [] all = refl
all_sized (e ∷ es) all = and_from _ _ all.0 (all_sized es all.1)

-- ---- Where none can be broken: no user has a role, or there is no session

abbrev pub IsQuiet : Separation → State → Type 0
IsQuiet kind t = (sets : List (Name × RoleSet)) → Each (λ e. IsTrue (is_well_sized e.1)) sets → is_violated kind (with_sets kind sets t) ≡ false

none_counted : (xs : List Name) → count_by (λ x. false) xs ≡ 0
none_counted [] = refl
none_counted (x ∷ xs) =
    let first : count_by (λ x. false) (x ∷ xs) ≡ 0 + count_by (λ x. false) xs = sum_by-cons (λ y. cond false 1 0) x xs in
    let rest = none_counted xs in
    omega arith

-- a set is broken by some role
unbroken : (set : RoleSet) → IsTrue (is_well_sized set) → is_broken_by (λ r. false) set ≡ false
unbroken set sized = is_false _ (λ broken.
    let most = leb-true _ _ broken in
    let two = leb-true 2 set.cardinality (and_parts _ _ sized).0 in
    let none = none_counted set.roles in
    omega arith)

pub quiet_static : (t : State) → IsQuiet Static (record t { assigned = [] })
quiet_static t sets sized =
    let now : State = record t { assigned = []; static_sets = sets } in
    passes_none (breaks_static now) t.users (Each-always (λ user. breaks_static now user ≡ false) t.users (λ user.
    passes_none (λ e. is_broken_by (λ r. false) e.1) sets (Each-weaker (λ e. IsTrue (is_well_sized e.1)) (λ e. is_broken_by (λ r. false) e.1 ≡ false) sets (λ e h. unbroken e.1 h) sized)))

pub quiet_dynamic : (t : State) → IsQuiet Dynamic (record t { sessions = [] })
quiet_dynamic t sets sized = refl

-- ---- One set in parts

module _ (kind : Separation) (t : State) (quiet : IsQuiet kind t) (before : List (Name × RoleSet)) (sized : Each (λ e. IsTrue (is_well_sized e.1)) before) (name : Name)
    (above : Each (λ y. name_cmp y.0 name ≡ Less) before) where
  -- the set with these roles and this number
  abbrev set_of_roles : List Name → ℕ → RoleSet
  set_of_roles roles n = record { roles = roles; cardinality = n }

  abbrev and_one : List Name → ℕ → List (Name × RoleSet)
  and_one roles n = before ++ ((name, set_of_roles roles n) ∷ [])

  abbrev with_one : List Name → ℕ → State
  with_one roles n = with_sets kind (and_one roles n) t

  all_are : (roles : List Name) (n : ℕ) → IsTrue (is_well_sized (set_of_roles roles n)) → Each (λ e. IsTrue (is_well_sized e.1)) (and_one roles n)
  all_are roles n h = Each-append (λ e. IsTrue (is_well_sized e.1)) before _ sized (h, tt)

  not_badly : (roles : List Name) (n : ℕ) → IsTrue (is_well_sized (set_of_roles roles n)) → is_badly_sized kind (with_one roles n) ≡ false
  not_badly roles n h = ap (λ sets. not (list_all (λ e. is_well_sized e.1) sets)) (sets_with kind (and_one roles n) t) ∙ there _ (all_sized (and_one roles n) (all_are roles n h))

  not_broken : (roles : List Name) (n : ℕ) → IsTrue (is_well_sized (set_of_roles roles n)) → is_violated kind (with_one roles n) ≡ false
  not_broken roles n h = quiet (and_one roles n) (all_are roles n h)

  is_there : (roles : List Name) (n : ℕ) → find name_cmp name (sets_of kind (with_one roles n)) ≡ Some (set_of_roles roles n)
  is_there roles n = ap (find name_cmp name) (sets_with kind (and_one roles n) t) ∙ found_last names_total before name (set_of_roles roles n) above

  -- what a change of the set leaves
  after : (roles : List Name) (n : ℕ) (f : RoleSet → RoleSet) → with_sets kind (updated name_cmp name f (sets_of kind (with_one roles n))) (with_one roles n)
      ≡ with_sets kind (before ++ ((name, f (set_of_roles roles n)) ∷ [])) t
  after roles n f =
      sets_again kind (and_one roles n) _ t
      ∙ ap (λ sets. with_sets kind (updated name_cmp name f sets) t) (sets_with kind (and_one roles n) t)
      ∙ ap (λ sets. with_sets kind sets t) (updated_last names_total before name (set_of_roles roles n) f above)

  created : (roles : List Name) (n : ℕ) → IsTrue (is_well_sized (set_of_roles roles n)) → IsStrictlySortedBy name_cmp roles → ((r : Name) → IsTrue (has name_cmp r roles) → IsTrue (has name_cmp r t.roles))
      → leb most_sets (length before) ≡ false → Makes (with_sets kind before t) (CreateSet kind name roles n) (with_one roles n)
  created roles n h sorted exist few =
      let next : IsNextEntry names_total before (name, set_of_roles roles n) [] = record { above = above; below = tt } in
      let unfound : find name_cmp name before ≡ None = ap (find name_cmp name) (sym (append-nil before)) ∙ unfound_between names_total before (name, set_of_roles roles n) [] next in
      let grown : put name_cmp name (set_of_roles roles n) before ≡ and_one roles n =
      ap (put name_cmp name (set_of_roles roles n)) (sym (append-nil before)) ∙ put_between names_total before (name, set_of_roles roles n) [] next in
      let changed : with_sets kind (put name_cmp name (set_of_roles roles n) (sets_of kind (with_sets kind before t))) (with_sets kind before t) ≡ with_one roles n =
      sets_again kind before _ t
      ∙ ap (λ sets. with_sets kind (put name_cmp name (set_of_roles roles n) sets) t) (sets_with kind before t)
      ∙ ap (λ sets. with_sets kind sets t) grown in
      makes (CreateSet kind name roles n) (with_sets kind before t) (with_one roles n) (
        ap (λ sets. is_some (find name_cmp name sets)) (sets_with kind before t) ∙ ap is_some unfound,
        (
          ap (λ present. not (list_all (λ role. has name_cmp role present) roles)) (roles_with kind before t) ∙ there _ (member_all names_total names_exact (λ role. has name_cmp role t.roles) roles exist),
          (
            ap (is_badly_sized kind) changed ∙ not_badly roles n h,
            (ap (is_violated kind) changed ∙ not_broken roles n h, (ap (λ sets. leb most_sets (length sets)) (sets_with kind before t) ∙ few, tt)),
          ),
        ),
      )
      changed refl sorted

  member_added : (roles : List Name) (role : Name) → has name_cmp role roles ≡ false → with_key name_cmp role roles ≡ roles ++ (role ∷ []) → IsTrue (has name_cmp role t.roles)
      → IsTrue (is_well_sized (set_of_roles (roles ++ (role ∷ [])) 2)) → Makes (with_one roles 2) (member_command kind name role) (with_one (roles ++ (role ∷ [])) 2)
  member_added roles role fresh grown present h =
      let changed = after roles 2 (with_member role) ∙ ap (λ more. with_one more 2) grown in
      makes (member_command kind name role) (with_one roles 2) (with_one (roles ++ (role ∷ [])) 2) (
        ap (λ found. not (is_some found)) (is_there roles 2),
        (
          ap (λ all. not (has name_cmp role all)) (roles_with kind (and_one roles 2) t) ∙ there _ present,
          (
            ap (found_and (λ x. has name_cmp role x.roles)) (is_there roles 2) ∙ fresh,
            (ap (is_violated kind) changed ∙ not_broken (roles ++ (role ∷ [])) 2 h, tt),
          ),
        ),
      )
      changed refl tt

  numbered : (roles : List Name) (n : ℕ) → IsTrue (is_well_sized (set_of_roles roles n)) → Makes (with_one roles 2) (SetCardinality kind name n) (with_one roles n)
  numbered roles n h =
      let changed = after roles 2 (with_cardinality n) in
      makes (SetCardinality kind name n) (with_one roles 2) (with_one roles n) (
        ap (λ found. not (is_some found)) (is_there roles 2),
        (ap (is_badly_sized kind) changed ∙ not_badly roles n h, (ap (is_violated kind) changed ∙ not_broken roles n h, tt)),
      )
      changed refl tt

  two_at_least : (r q : Name) (more : List Name) → IsTrue (is_well_sized (set_of_roles (r ∷ q ∷ more) 2))
  two_at_least r q more = and_from _ _ refl (le-leb _ _ (omega arith))

  pub in_parts : (roles : List Name) (n : ℕ) → IsRoleSet t.roles (set_of_roles roles n) → leb most_sets (length before) ≡ false → Leads (with_sets kind before t) (set_parts kind (name, set_of_roles roles n)) (with_one roles n)
  in_parts [] n is few = absurd (let parts = and_parts _ _ is.sized in let two = leb-true 2 n parts.0 in let most = leb-true n 0 parts.1 in omega arith)
  in_parts (r ∷ []) n is few = absurd (let parts = and_parts _ _ is.sized in let two = leb-true 2 n parts.0 in let most = leb-true n 1 parts.1 in omega arith)
  in_parts (r ∷ q ∷ more) n is few =
      leads_on (with_sets kind before t) (first ∷ map (member_command kind name) more) (SetCardinality kind name n ∷ []) (with_one (r ∷ q ∷ more) 2) (with_one (r ∷ q ∷ more) n)
      (leads_on (with_sets kind before t) (first ∷ []) (map (member_command kind name) more) (with_one (r ∷ q ∷ []) 2) (with_one (r ∷ q ∷ more) 2)
      (leads_one (with_sets kind before t) first (with_one (r ∷ q ∷ []) 2)
      (created (r ∷ q ∷ []) 2 (two_at_least r q []) (sorted_front names_total (r ∷ q ∷ []) more is.in_order) (λ x m. is.exist x (has_front names_total (r ∷ q ∷ []) more x m)) few))
      (told (member_command kind name) (λ done. with_one (r ∷ q ∷ done) 2) more others))
      (leads_one (with_one (r ∷ q ∷ more) 2) (SetCardinality kind name n) (with_one (r ∷ q ∷ more) n) (numbered (r ∷ q ∷ more) n is.sized))
    where
      first : Command
      first = CreateSet kind name (r ∷ q ∷ []) 2

      others : TellsNext (member_command kind name) (λ done. with_one (r ∷ q ∷ done) 2) more
      others done x rest e =
          let next = next_key names_total (r ∷ q ∷ more) (r ∷ q ∷ done) x rest (ap (λ l. r ∷ q ∷ l) e) is.in_order in
          member_added (r ∷ q ∷ done) x next.fresh next.grown (is.exist x next.member) (two_at_least r q (done ++ (x ∷ [])))
