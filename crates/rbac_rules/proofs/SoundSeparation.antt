-- Separation of duty stays where users, roles, authorizations, sets and active roles get fewer.
use Rattle.std.proofs.Common.{ℕ, List, [], ◌∷◌, count_by, Bool, true, false, not, cond, ◌≡◌, ◌≤◌, refl, sym, ap, ◌∙◌, subst, ⊎_elim, arith}
use Rattle.std.proofs.lemmas.Bool.{or_cases, or_left, or_right, and_parts, false≢true, leb-true, le-leb}
use Rattle.std.proofs.lemmas.List.Sums.{sum_by-cons}
use Rattle.std.specs.List.{list_any, filter, AllByRecursion as Each}
use Rattle.std.specs.Ordering.{eq_by_cmp}
use Rattle.sorted_keys.specs.Keys.{has, without, updated}
use Rattle.rbac_terms.specs.Name.{Name, name_cmp}
use Rattle.rbac_terms.specs.Separation.{RoleSet, is_broken_by, is_broken, is_constrained}
use Rattle.rbac_terms.specs.State.{Session}
use Rattle.rbac_terms.specs.Sound.{IsRoleSet, AreRoleSets}
use Rattle.sorted_keys.proofs.Ties.{one_key, ties_itself, any_member, member_any}
use Rattle.rbac_terms.proofs.NameLemmas.{names_total, names_exact}
use Rattle.sorted_keys.proofs.Lists.{Each-weaker}
use Rattle.sorted_keys.proofs.Kept.{is_kept, each_kept, each_updated}

-- ---- Tests and counts

pub is_false : (b : Bool) → (b ≡ true → ⊥) → b ≡ false
is_false true h = absurd (h refl)
is_false false h = refl

module _ {X : Type 0} (p : X → Bool) where
  -- none passes, in two forms
  pub none_passes : (xs : List X) → list_any p xs ≡ false → Each (λ x. p x ≡ false) xs
  none_passes [] e = tt
  none_passes (x ∷ xs) e = (is_false (p x) (λ t. false≢true (sym e ∙ or_left _ _ t)), none_passes xs (is_false _ (λ t. false≢true (sym e ∙ or_right _ _ t))))

  pub passes_none : (xs : List X) → Each (λ x. p x ≡ false) xs → list_any p xs ≡ false
  passes_none [] all = refl
  passes_none (x ∷ xs) all = is_false _ (λ t. ⊎_elim (λ h. false≢true (sym all.0 ∙ h)) (λ h. false≢true (sym (passes_none xs all.1) ∙ h)) (or_cases _ _ t))

-- what passes one test on members passes the other: no more of them do
count_less : (p q : Name → Bool) (xs : List Name) → ((x : Name) → has name_cmp x xs ≡ true → p x ≡ true → q x ≡ true) → count_by p xs ≤ count_by q xs
count_less p q [] less = omega arith
count_less p q (x ∷ xs) less =
    let rest = count_less p q xs (λ y m. less y (or_right _ _ m)) in
    let first = sum_by-cons (λ y. cond (p y) 1 0) x xs in
    let second = sum_by-cons (λ y. cond (q y) 1 0) x xs in
    let here = step (p x) (q x) (less x (or_left _ _ (ties_itself names_total x))) in
    omega arith
  where
    step : (a b : Bool) → (a ≡ true → b ≡ true) → cond a 1 0 ≤ cond b 1 0
    step true true h = omega arith
    step true false h = absurd (false≢true (h refl))
    step false true h = omega arith
    step false false h = omega arith

-- where some are counted, there is one
counted : (p : Name → Bool) (xs : List Name) → 1 ≤ count_by p xs → (x : Name) × (has name_cmp x xs ≡ true) × (p x ≡ true)
counted p [] h = absurd (omega arith)
counted p (x ∷ xs) h = go (p x) refl (counted p xs)
  where
    go : (b : Bool) → p x ≡ b → (1 ≤ count_by p xs → (y : Name) × (has name_cmp y xs ≡ true) × (p y ≡ true)) → (y : Name) × (has name_cmp y (x ∷ xs) ≡ true) × (p y ≡ true)
    go true e rest = (x, or_left _ _ (ties_itself names_total x), e)
    go false e rest =
        let first = sum_by-cons (λ y. cond (p y) 1 0) x xs in
        let none : cond {A = ℕ} (p x) 1 0 ≡ 0 = ap (λ b. cond {A = ℕ} b 1 0) e in
        let more = rest (omega arith) in
        (more.0, or_right _ _ more.1, more.2)

-- ---- One set

pub broken_less : (p q : Name → Bool) (set : RoleSet) → ((x : Name) → has name_cmp x set.roles ≡ true → p x ≡ true → q x ≡ true) → is_broken_by p set ≡ true → is_broken_by q set ≡ true
broken_less p q set less e = le-leb _ _ (let many = leb-true _ _ e in let more = count_less p q set.roles less in omega arith)

-- a broken set has a role that passes
broken_has : (roles : List Name) (p : Name → Bool) (set : RoleSet) → IsRoleSet roles set → is_broken_by p set ≡ true → (x : Name) × (has name_cmp x roles ≡ true) × (p x ≡ true)
broken_has roles p set is e =
    let many = leb-true set.cardinality (count_by p set.roles) e in
    let two = leb-true 2 set.cardinality (and_parts _ _ is.sized).0 in
    let one = counted p set.roles (omega arith) in
    (one.0, is.exist one.0 one.1, one.2)

-- ---- The sets of a kind

module _ (roles : List Name) where
  -- a test of fewer roles breaks no other set
  breaks_less : (p q : Name → Bool) (sets : List (Name × RoleSet)) → Each (λ e. IsRoleSet roles e.1) sets → ((x : Name) → has name_cmp x roles ≡ true → p x ≡ true → q x ≡ true)
      → list_any (λ e. is_broken_by p e.1) sets ≡ true → list_any (λ e. is_broken_by q e.1) sets ≡ true
  breaks_less p q [] all less b = absurd (false≢true b)
  breaks_less p q (e ∷ es) all less b = ⊎_elim
      (λ h. or_left _ _ (broken_less p q e.1 (λ x m. less x (all.0.exist x m)) h))
      (λ h. or_right _ _ (breaks_less p q es all.1 less h))
      (or_cases _ _ b)

  -- what breaks a set passes some role
  breaks_some : (p : Name → Bool) (sets : List (Name × RoleSet)) → Each (λ e. IsRoleSet roles e.1) sets → list_any (λ e. is_broken_by p e.1) sets ≡ true → (x : Name) × (has name_cmp x roles ≡ true) × (p x ≡ true)
  breaks_some p [] all b = absurd (false≢true b)
  breaks_some p (e ∷ es) all b = ⊎_elim (broken_has roles p e.1 all.0) (breaks_some p es all.1) (or_cases _ _ b)

-- static separation stays where each user is authorized for no role that it, being a user, was not authorized for
pub static_less : (roles : List Name) (sets : List (Name × RoleSet)) (authorized authorized_then : Name → Name → Bool) (users users_then : List Name) → Each (λ e. IsRoleSet roles e.1) sets
    → ((u r : Name) → has name_cmp u users_then ≡ true → has name_cmp r roles ≡ true → authorized_then u r ≡ true → (has name_cmp u users ≡ true) × (authorized u r ≡ true))
    → list_any (λ u. list_any (λ e. is_broken_by (authorized u) e.1) sets) users ≡ false → list_any (λ u. list_any (λ e. is_broken_by (authorized_then u) e.1) sets) users_then ≡ false
static_less roles sets authorized authorized_then users users_then all less none = is_false _ (λ some.
    let found = any_member names_total names_exact (λ u. list_any (λ e. is_broken_by (authorized_then u) e.1) sets) users_then some in
    let u = found.0 in
    let one = breaks_some roles (authorized_then u) sets all found.2 in
    let was = less u one.0 found.1 one.1 one.2 in
    let broken = breaks_less roles (authorized_then u) (authorized u) sets all (λ r is e. (less u r found.1 is e).1) found.2 in
    false≢true (sym none ∙ member_any names_total names_exact (λ v. list_any (λ e. is_broken_by (authorized v) e.1) sets) users u was.0 broken))

-- separation by a test of each of some things stays where the sets are changed so that none is broken that was not
pub sets_less : {X : Type 0} (test : X → Name → Bool) (sets sets_then : List (Name × RoleSet))
    → ((p : Name → Bool) → Each (λ e. is_broken_by p e.1 ≡ false) sets → Each (λ e. is_broken_by p e.1 ≡ false) sets_then)
    → (xs : List X) → list_any (λ x. list_any (λ e. is_broken_by (test x) e.1) sets) xs ≡ false → list_any (λ x. list_any (λ e. is_broken_by (test x) e.1) sets_then) xs ≡ false
sets_less test sets sets_then less xs none =
    passes_none (λ x. list_any (λ e. is_broken_by (test x) e.1) sets_then) xs
    (Each-weaker (λ x. list_any (λ e. is_broken_by (test x) e.1) sets ≡ false) (λ x. list_any (λ e. is_broken_by (test x) e.1) sets_then ≡ false) xs
    (λ x h. passes_none (λ e. is_broken_by (test x) e.1) sets_then (less (test x) (none_passes (λ e. is_broken_by (test x) e.1) sets h)))
    (none_passes (λ x. list_any (λ e. is_broken_by (test x) e.1) sets) xs none))

-- ---- What a change leaves of the sets and sessions

-- sets of roles stay so where roles are added
pub sets_wider : (roles more : List Name) (sets : List (Name × RoleSet)) → ((x : Name) → has name_cmp x roles ≡ true → has name_cmp x more ≡ true) → AreRoleSets roles sets → AreRoleSets more sets
sets_wider roles more sets wider h = record {
  in_order = h.in_order;
  few = h.few;
  each = Each-weaker (λ e. IsRoleSet roles e.1) (λ e. IsRoleSet more e.1) sets (λ e is. record { in_order = is.in_order; exist = λ r m. wider r (is.exist r m); sized = is.sized }) h.each;
}

-- and where a role goes that is in none of them
pub sets_without : (role : Name) (roles : List Name) (sets : List (Name × RoleSet)) → is_constrained role sets ≡ false → AreRoleSets roles sets → AreRoleSets (without name_cmp role roles) sets
sets_without role roles sets free h = record { in_order = h.in_order; few = h.few; each = go sets (none_passes (λ e. has name_cmp role e.1.roles) sets free) h.each }
  where
    other : (set : RoleSet) → has name_cmp role set.roles ≡ false → IsRoleSet roles set → IsRoleSet (without name_cmp role roles) set
    other set absent is = record {
      in_order = is.in_order;
      exist = λ r m. is_kept names_total names_exact (λ x. not (eq_by_cmp name_cmp role x)) roles r
          (ap not (is_false _ (λ same. false≢true (sym absent ∙ subst (λ x. has name_cmp x set.roles ≡ true) (sym (one_key names_exact role r same)) m)))) (is.exist r m);
      sized = is.sized;
    }

    go : (sets : List (Name × RoleSet)) → Each (λ e. has name_cmp role e.1.roles ≡ false) sets → Each (λ e. IsRoleSet roles e.1) sets → Each (λ e. IsRoleSet (without name_cmp role roles) e.1) sets
    go [] absent all = tt
    go (e ∷ es) absent all = (other e.1 absent.0 all.0, go es absent.1 all.1)

-- sessions that are kept break no set if none did
pub dynamic_kept : (p : Session → Bool) (kept : Name × Session → Bool) (sessions : List (Name × Session)) → list_any (λ e. p e.1) sessions ≡ false → list_any (λ e. p e.1) (filter kept sessions) ≡ false
dynamic_kept p kept sessions none =
    passes_none (λ e. p e.1) (filter kept sessions)
    (each_kept kept (λ e. p e.1 ≡ false) (λ e. p e.1 ≡ false) (λ e h _. h) sessions (none_passes (λ e. p e.1) sessions none))

-- nor does a session that is changed so that it breaks none if it did not
pub dynamic_updated : (p : Session → Bool) (name : Name) (f : Session → Session) (sessions : List (Name × Session)) → ((x : Session) → p x ≡ false → p (f x) ≡ false) → list_any (λ e. p e.1) sessions ≡ false
    → list_any (λ e. p e.1) (updated name_cmp name f sessions) ≡ false
dynamic_updated p name f sessions keeps none =
    passes_none (λ e. p e.1) (updated name_cmp name f sessions)
    (each_updated name_cmp (λ x. p x ≡ false) name f sessions (λ x _ h. keeps x h) (none_passes (λ e. p e.1) sessions none))

-- fewer active roles break no other set
pub fewer_active : (active fewer_then : List Name) (sets : List (Name × RoleSet)) → ((x : Name) → has name_cmp x fewer_then ≡ true → has name_cmp x active ≡ true)
    → list_any (λ e. is_broken fewer_then e.1) sets ≡ true → list_any (λ e. is_broken active e.1) sets ≡ true
fewer_active active fewer_then [] less b = absurd (false≢true b)
fewer_active active fewer_then (e ∷ es) less b = ⊎_elim
    (λ h. or_left _ _ (broken_less (λ r. has name_cmp r fewer_then) (λ r. has name_cmp r active) e.1 (λ x _ m. less x m) h))
    (λ h. or_right _ _ (fewer_active active fewer_then es less h))
    (or_cases _ _ b)
