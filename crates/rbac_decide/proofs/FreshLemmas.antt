-- What the roles that a user newly becomes authorized for break, with the counts that are kept.
use Rattle.std.proofs.Common.{List, [], ◌∷◌, nat_le, count_by, Bool, true, false, ◌||◌, ◌&&◌, ◌≡◌, refl, ap, ◌∙◌, arith}
use Rattle.rbac_decide.proofs.Common.{list_any, Each, eq_by_cmp, has, with_key, inherits_in, is_authorized, juniors, Name, name_cmp, RoleSet, is_broken_by}
use Rattle.rbac_decide.proofs.Common.{is_constrained, IsSound, IsRoleSet, State, breaks_with, is_constrained_junior, or_left, or_right, and_parts, false≢true}
use Rattle.rbac_decide.proofs.Common.{leb-true, le-leb, has-with_key, one_key, names_total, names_exact, is_false, has_juniors}
use Rattle.rbac_decide.proofs.CountingLemmas.{count_same, count_none}
use Rattle.rbac_decide.proofs.CountingSteps.{stranger}
use Rattle.rbac_decide.proofs.SeparationLemmas.{unbroken}

-- each role of a set is constrained by the sets
module _ (whole : List (Name × RoleSet)) where
  pub each_constrained : (sets : List (Name × RoleSet)) → ((r : Name) → is_constrained r sets ≡ true → is_constrained r whole ≡ true)
      → Each (λ e. (r : Name) → has name_cmp r e.1.roles ≡ true → is_constrained r whole ≡ true) sets
  each_constrained [] are = tt
  each_constrained (e ∷ es) are = (λ r m. are r (or_left _ _ m), each_constrained es (λ r m. are r (or_right _ _ m)))

  -- what tests alike on the roles of the sets breaks the same sets
  breaks_alike : (p q : Name → Bool) → ((r : Name) → is_constrained r whole ≡ true → p r ≡ q r) → (sets : List (Name × RoleSet))
      → Each (λ e. (r : Name) → has name_cmp r e.1.roles ≡ true → is_constrained r whole ≡ true) sets → list_any (λ e. is_broken_by p e.1) sets ≡ list_any (λ e. is_broken_by q e.1) sets
  breaks_alike p q same [] all = refl
  breaks_alike p q same (e ∷ es) all = λ i. nat_le e.1.cardinality (count_same p q e.1.roles (λ r m. same r (all.0 r m)) i) || breaks_alike p q same es all.1 i

-- who is authorized for nothing breaks no set
breaks_nothing : (test : Name → Bool) → ((r : Name) → test r ≡ false) → (roles : List Name) (sets : List (Name × RoleSet)) → Each (λ e. IsRoleSet roles e.1) sets → list_any (λ e. is_broken_by test e.1) sets ≡ false
breaks_nothing test none roles [] all = refl
breaks_nothing test none roles (e ∷ es) all = λ i. one i || breaks_nothing test none roles es all.1 i
  where
    one : is_broken_by test e.1 ≡ false
    one = is_false _ (λ t. false≢true (le-leb 1 0 (
        let nothing = count_none test e.1.roles none in
        let many = leb-true e.1.cardinality (count_by test e.1.roles) t in
        let two = leb-true 2 e.1.cardinality (and_parts _ _ all.0.sized).0 in
        omega arith
        )))

-- in a sound policy nobody breaks a static set, be it a user or not
pub nobody_breaks : (s : State) → IsSound s → (user : Name) → list_any (λ e. is_broken_by (is_authorized s user) e.1) s.static_sets ≡ false
nobody_breaks s h user = go (has name_cmp user s.users) refl
  where
    go : (b : Bool) → has name_cmp user s.users ≡ b → list_any (λ e. is_broken_by (is_authorized s user) e.1) s.static_sets ≡ false
    go true is = unbroken s h user is
    go false is = breaks_nothing (is_authorized s user) (stranger s user h is) s.roles s.static_sets h.separation.static_sets.each

module _ (s : State) (role user : Name) where
  -- what the role inherits of the roles of static sets breaks what all that it inherits does
  pub constrained_alike : list_any (λ e. is_broken_by (λ r. is_constrained_junior s role r || is_authorized s user r) e.1) s.static_sets ≡ breaks_with s role user
  constrained_alike =
      breaks_alike s.static_sets (λ r. is_constrained_junior s role r || is_authorized s user r) (λ r. inherits_in s role r || is_authorized s user r)
      (λ r m. grind arith) s.static_sets (each_constrained s.static_sets s.static_sets (λ r m. m))

-- what is gathered of the roles of static sets that a role inherits
pub gathered : (s : State) (role : Name) (below kept : List Name) → below ≡ juniors s.roles s.declared role → ((r : Name) → has name_cmp r kept ≡ (has name_cmp r below && is_constrained r s.static_sets))
    → (r : Name) → has name_cmp r kept ≡ is_constrained_junior s role r
gathered s role below kept are told r = told r ∙ ap (λ b. b && is_constrained r s.static_sets) (ap (has name_cmp r) are ∙ has_juniors s.roles s.declared role r)

-- ---- The loop that gathers the names that pass a test

module _ (passes : Name → Bool) (x : Name) (rest fresh : List Name) (all : Name → Bool)
    (so_far : (r : Name) → (has name_cmp r fresh || (has name_cmp r (x ∷ rest) && passes r)) ≡ all r) where
  pub kept_one : passes x ≡ true → (r : Name) → (has name_cmp r (with_key name_cmp x fresh) || (has name_cmp r rest && passes r)) ≡ all r
  kept_one is r =
      let same : eq_by_cmp name_cmp r x ≡ true → r ≡ x = one_key names_exact r x in
      let added = has-with_key names_total x fresh r in
      let told = so_far r in
      grind arith

  pub kept_none : passes x ≡ false → (r : Name) → (has name_cmp r fresh || (has name_cmp r rest && passes r)) ≡ all r
  kept_none is r =
      let same : eq_by_cmp name_cmp r x ≡ true → r ≡ x = one_key names_exact r x in
      let told = so_far r in
      grind arith

-- ---- The loop that gathers the roles of sets that are among some

module _ (among names more : List Name) (e : Name × RoleSet) (rest : List (Name × RoleSet)) (all : Name → Bool)
    (added : (r : Name) → has name_cmp r more ≡ (has name_cmp r names || (has name_cmp r e.1.roles && has name_cmp r among)))
    (so_far : (r : Name) → (has name_cmp r names || (is_constrained r (e ∷ rest) && has name_cmp r among)) ≡ all r) where
  pub set_gathered : (r : Name) → (has name_cmp r more || (is_constrained r rest && has name_cmp r among)) ≡ all r
  set_gathered r = grind (arith, added r, so_far r)

pub both_swapped : (a b : Bool) → (a && b) ≡ (b && a)
both_swapped a b = grind arith
