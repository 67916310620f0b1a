-- Sets that have one of some roles, each with such roles alone: what is told of roles among those is told by them.
use Rattle.std.proofs.Common.{ℕ, ◌+◌, ◌<◌, List, [], ◌∷◌, ◌++◌, length, get_or, drop, append_assoc, filter, Bool, true, false, cond, ◌||◌, ◌&&◌, ◌≡◌, Some, refl, sym, ap, ◌∙◌, arith}
use Rattle.rbac_decide.proofs.Common.{list_any, Each, IsStrictlySortedBy, eq_by_cmp, has, Name, name_cmp, RoleSet, is_constrained, touches, cut_to}
use Rattle.rbac_decide.proofs.Common.{touched_sets, or_left, or_right, Each-weaker, has-filter, same_keys, one_key, ties_itself, ties_flip, names_total}
use Rattle.rbac_decide.proofs.Common.{names_exact}
use Rattle.std.proofs.lemmas.List.Kept.{IsStrictlySortedBy-filter}
use Rattle.rbac_decide.proofs.CountingLemmas.{dropped, any_alike}
use Rattle.rbac_decide.proofs.FreshLemmas.{both_swapped, each_constrained}

-- ---- Roles that pass a test, among those that pass another

module _ (test p : Name → Bool) (inside : (r : Name) → test r ≡ true → p r ≡ true) where
  pub none_among : (roles : List Name) → list_any p roles ≡ false → list_any test roles ≡ false
  none_among [] none = refl
  none_among (x ∷ xs) none = grind (arith, inside x, none_among xs)

-- ---- Names that two lists have in common

any_either : (p q : Name → Bool) (xs : List Name) → list_any (λ x. p x || q x) xs ≡ (list_any p xs || list_any q xs)
any_either p q [] = refl
any_either p q (x ∷ xs) = grind (arith, any_either p q xs)

any_tied : (x : Name) (names : List Name) → list_any (λ r. eq_by_cmp name_cmp r x) names ≡ has name_cmp x names
any_tied x [] = refl
any_tied x (y ∷ ys) = λ i. ties_flip names_total names_exact y x i || any_tied x ys i

-- one of the first is among the second where one of the second is among the first
pub in_common : (xs ys : List Name) → list_any (λ r. has name_cmp r ys) xs ≡ list_any (λ r. has name_cmp r xs) ys
in_common xs [] = none xs
  where
    none : (xs : List Name) → list_any (λ r. false) xs ≡ false
    none [] = refl
    none (x ∷ xs) = none xs
in_common xs (y ∷ ys) = any_either (λ r. eq_by_cmp name_cmp r y) (λ r. has name_cmp r ys) xs ∙ (λ i. any_tied y xs i || in_common xs ys i)

-- ---- Tests that tell alike of these roles

module _ (p q : Name → Bool) where
  kept_alike : (roles : List Name) → ((r : Name) → has name_cmp r roles ≡ true → p r ≡ q r) → filter p roles ≡ filter q roles
  kept_alike [] same = refl
  kept_alike (x ∷ xs) same = λ i. cond (same x (or_left _ _ (ties_itself names_total x)) i) (x ∷ kept_alike xs (λ r m. same r (or_right _ _ m)) i) (kept_alike xs (λ r m. same r (or_right _ _ m)) i)

-- ---- The sets

-- roles of which those of the sets are the same touch the same sets
touched_alike : (below constrained : List Name) (sets : List (Name × RoleSet)) → Each (λ e. (r : Name) → has name_cmp r e.1.roles ≡ true → has name_cmp r below ≡ has name_cmp r constrained) sets
    → touched_sets below sets ≡ touched_sets constrained sets
touched_alike below constrained [] all = refl
touched_alike below constrained (e ∷ es) all =
    let some = any_alike (λ r. has name_cmp r below) (λ r. has name_cmp r constrained) e.1.roles all.0 in
    let kept = kept_alike (λ r. has name_cmp r below) (λ r. has name_cmp r constrained) e.1.roles all.0 in
    grind (arith, touched_alike below constrained es all.1)

module _ (below : List Name) where
  abbrev cut : Name × RoleSet → Name × RoleSet
  cut e = (e.0, cut_to below e.1)

  abbrev is_touched : Name × RoleSet → Bool
  is_touched e = touches below (Some e.1)

  -- a role among these is in one of the sets where it is in one of those
  still_constrained : (r : Name) → has name_cmp r below ≡ true → (sets : List (Name × RoleSet)) → is_constrained r (touched_sets below sets) ≡ is_constrained r sets
  still_constrained r m [] = refl
  still_constrained r m (e ∷ es) =
      let own = has-filter names_exact (λ x. has name_cmp x below) e.1.roles r in
      let none = none_among (eq_by_cmp name_cmp r) (λ x. has name_cmp x below) (λ x tied. sym (ap (λ z. has name_cmp z below) (one_key names_exact r x tied)) ∙ m) e.1.roles in
      grind (arith, still_constrained r m es)

  -- those of these roles that one of those sets has are those that one of the sets has
  pub constrained_touched : (r : Name) (sets : List (Name × RoleSet)) → (is_constrained r (touched_sets below sets) && has name_cmp r below) ≡ (is_constrained r sets && has name_cmp r below)
  constrained_touched r sets =
      let still : has name_cmp r below ≡ true → is_constrained r (touched_sets below sets) ≡ is_constrained r sets = λ m. still_constrained r m sets in
      grind arith

  -- those of these roles that are in one of the sets touch the same sets
  pub touched_by_constrained : (constrained : List Name) (sets : List (Name × RoleSet)) → ((r : Name) → has name_cmp r constrained ≡ (is_constrained r sets && has name_cmp r below))
      → touched_sets below sets ≡ touched_sets constrained sets
  touched_by_constrained constrained sets are =
      touched_alike below constrained sets
      (Each-weaker (λ (e : Name × RoleSet). (r : Name) → has name_cmp r e.1.roles ≡ true → is_constrained r sets ≡ true) (λ (e : Name × RoleSet). (r : Name) → has name_cmp r e.1.roles ≡ true → has name_cmp r below ≡ has name_cmp r constrained) sets
      (λ e constrained_by r m. sym (are r ∙ ap (λ b. b && has name_cmp r below) (constrained_by r m)))
      (each_constrained sets sets (λ r m. m)))

  -- ---- The loop that gathers them

  module _ (sets : List (Name × RoleSet)) (i : ℕ) (e : Name × RoleSet) (lt : i < length sets) (is : e ≡ get_or sets i e)
      (so_far all : List (Name × RoleSet)) (told : so_far ++ touched_sets below (drop i sets) ≡ all) where
    pub one_touched : is_touched e ≡ true → (so_far ++ cut e ∷ []) ++ touched_sets below (drop (i + 1) sets) ≡ all
    one_touched some = let next = dropped sets i e lt is in grind (arith, append_assoc)

    pub none_touched : is_touched e ≡ false → so_far ++ touched_sets below (drop (i + 1) sets) ≡ all
    none_touched none = let next = dropped sets i e lt is in grind arith

-- the names of a set that pass a test are a filter of it
pub names_filtered : (p : Name → Bool) (names kept : List Name) → IsStrictlySortedBy name_cmp names → IsStrictlySortedBy name_cmp kept → ((r : Name) → has name_cmp r kept ≡ (has name_cmp r names && p r))
    → kept ≡ filter p names
names_filtered p names kept sorted in_order told =
    same_keys names_exact names_total kept (filter p names) in_order (IsStrictlySortedBy-filter name_cmp p names sorted)
    (λ r. told r ∙ both_swapped (has name_cmp r names) (p r) ∙ sym (has-filter names_exact p names r))
