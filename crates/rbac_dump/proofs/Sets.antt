-- The sets of a kind: those that are made in parts come early, the others go between them.
use Rattle.std.proofs.Common.{ℕ, List, [], ◌∷◌, ◌++◌, length, leb, cond, Bool, true, false, not, ◌≡◌, IsTrue, is_some, refl, sym, ap, ◌∙◌, subst, arith, append_assoc, length-append}
use Rattle.std.proofs.lemmas.Bool.{false≢true, leb-true, le-leb}
use Rattle.std.proofs.lemmas.List.{append-nil}
use Rattle.std.proofs.lemmas.List.Elements.{filter-append}
use Rattle.std.specs.List.{list_all, filter, AllByRecursion as Each}
use Rattle.std.specs.FinMap.Entries.{find, put}
use Rattle.sorted_keys.specs.Keys.{has}
use Rattle.sorted_keys.proofs.Kept.{fewer}
use Rattle.sorted_keys.proofs.Lists.{Each-append, Each-left, Each-right, Each-filter, Each-weaker, filter-yes, filter-no}
use Rattle.sorted_keys.proofs.Ties.{member_all}
use Rattle.rbac_terms.specs.Name.{Name, name_cmp}
use Rattle.rbac_terms.specs.Limits.{most_sets}
use Rattle.rbac_terms.specs.Separation.{RoleSet, is_well_sized, is_broken_by}
use Rattle.rbac_terms.specs.State.{State, Session}
use Rattle.rbac_terms.specs.Authorization.{is_authorized}
use Rattle.rbac_terms.specs.Constraints.{sets_of, with_sets, is_violated, is_badly_sized}
use Rattle.rbac_terms.specs.Sound.{IsRoleSet, AreRoleSets}
use Rattle.rbac_terms.specs.declared.separation.Separation.{Separation}
use Rattle.rbac_terms.specs.declared.separation.Separation.TheVariants.{Static, Dynamic}
use Rattle.rbac_terms.proofs.NameLemmas.{names_total, names_exact}
use Rattle.rbac_rules.proofs.SoundSeparation.{is_false, sets_less}
use Rattle.rbac_dump.specs.Dump.{set_command, set_parts}
use Rattle.rbac_dump.proofs.Leading.{Makes, Leads, TellsEach, makes, leads_one}
use Rattle.rbac_dump.proofs.Next.{each_next, each_so_far, below_most, IsNextEntry, next_of, unfound_between, put_between}
use Rattle.rbac_dump.proofs.Early.{there, sets_with, roles_with, sets_again, all_sized, IsQuiet, in_parts}

-- of fewer there are not more
few_of : {X : Type 0} (p : X → Bool) (xs : List X) (most : ℕ) → leb most (length xs) ≡ false → leb most (length (filter p xs)) ≡ false
few_of p xs most few = is_false _ (λ full.
    let many = leb-true most (length (filter p xs)) full in
    let less = fewer p xs (length xs) (omega arith) in
    false≢true (sym few ∙ le-leb most (length xs) (omega arith)))

module _ (long : Name × RoleSet → Bool) (kind : Separation) (t : State) (whole : List (Name × RoleSet)) (are : AreRoleSets t.roles whole) where
  sized : Each (λ e. IsTrue (is_well_sized e.1)) whole
  sized = Each-weaker (λ e. IsRoleSet t.roles e.1) (λ e. IsTrue (is_well_sized e.1)) whole (λ e is. is.sized) are.each

  pub tells_early : IsQuiet kind t → TellsEach (λ e. cond (long e) (set_parts kind e) []) (λ done rest. with_sets kind (filter long done) t) whole
  tells_early quiet done x rest e = go (long x) refl
    where
      before : List (Name × RoleSet)
      before = filter long done

      grown : filter long (done ++ (x ∷ [])) ≡ before ++ filter long (x ∷ [])
      grown = filter-append long done (x ∷ [])

      made : Leads (with_sets kind before t) (set_parts kind x) (with_sets kind (before ++ (x ∷ [])) t)
      made =
          in_parts kind t quiet before (Each-filter (λ y. IsTrue (is_well_sized y.1)) long done (Each-left (λ y. IsTrue (is_well_sized y.1)) done (x ∷ rest) (subst (Each (λ y. IsTrue (is_well_sized y.1))) e sized)))
          x.0 (Each-filter _ long done (next_of names_total whole done x rest e are.in_order).above) x.1.roles x.1.cardinality
          (each_next (λ y. IsRoleSet t.roles y.1) whole done x rest e are.each) (few_of long done most_sets (below_most whole done x rest most_sets e are.few))

      go : (b : Bool) → long x ≡ b → Leads (with_sets kind before t) (cond b (set_parts kind x) []) (with_sets kind (filter long (done ++ (x ∷ []))) t)
      go true l = subst (λ sets. Leads (with_sets kind before t) (set_parts kind x) (with_sets kind sets t)) (sym (grown ∙ ap (λ l. before ++ l) (filter-yes long x [] l))) made
      go false l = (ap (λ sets. with_sets kind sets t) (sym (grown ∙ ap (λ l. before ++ l) (filter-no long x [] l) ∙ append-nil before)), tt, tt)

  -- a set that is not broken among all of them is not broken among some
  not_violated : (some : List (Name × RoleSet)) → ((p : Name → Bool) → Each (λ e. is_broken_by p e.1 ≡ false) whole → Each (λ e. is_broken_by p e.1 ≡ false) some)
      → is_violated kind (with_sets kind whole t) ≡ false → is_violated kind (with_sets kind some t) ≡ false
  not_violated some less none = by_kind kind none
    where
      by_kind : (k : Separation) → is_violated k (with_sets k whole t) ≡ false → is_violated k (with_sets k some t) ≡ false
      by_kind Static none = sets_less (is_authorized t) whole some less t.users none
      by_kind Dynamic none = sets_less (λ (x : Name × Session) r. has name_cmp r x.1.active) whole some less t.sessions none

  pub tells_late : is_violated kind (with_sets kind whole t) ≡ false → TellsEach (λ e. cond (long e) [] (set_command kind e ∷ [])) (λ done rest. with_sets kind (done ++ filter long rest) t) whole
  tells_late none done x rest e = go (long x) refl
    where
      before : List (Name × RoleSet)
      before = done ++ filter long rest

      so_far : List (Name × RoleSet)
      so_far = (done ++ (x ∷ [])) ++ filter long rest

      next : IsNextEntry names_total done x (filter long rest)
      next = let parts = next_of names_total whole done x rest e are.in_order in record { above = parts.above; below = Each-filter _ long rest parts.below }

      each : (P : Name × RoleSet → Type 0) → Each P whole → Each P so_far
      each P all = Each-append P (done ++ (x ∷ [])) (filter long rest) (each_so_far P whole done x rest e all) (Each-filter P long rest (Each-right P done (x ∷ rest) (subst (Each P) e all)).1)

      changed : with_sets kind (put name_cmp x.0 x.1 (sets_of kind (with_sets kind before t))) (with_sets kind before t) ≡ with_sets kind so_far t
      changed =
          sets_again kind before _ t
          ∙ ap (λ sets. with_sets kind (put name_cmp x.0 x.1 sets) t) (sets_with kind before t)
          ∙ ap (λ sets. with_sets kind sets t) (put_between names_total done x (filter long rest) next ∙ sym (append_assoc done (x ∷ []) (filter long rest)))

      few : leb most_sets (length before) ≡ false
      few = is_false _ (λ full.
          let many = leb-true most_sets (length before) full in
          let both = length-append done (filter long rest) in
          let less = fewer long rest (length rest) (omega arith) in
          let all = ap length e ∙ length-append done (x ∷ rest) in
          let most = are.few in
          omega arith)

      made : Makes (with_sets kind before t) (set_command kind x) (with_sets kind so_far t)
      made =
          let is = each_next (λ y. IsRoleSet t.roles y.1) whole done x rest e are.each in
          makes (set_command kind x) (with_sets kind before t) (with_sets kind so_far t) (
            ap (λ sets. is_some (find name_cmp x.0 sets)) (sets_with kind before t) ∙ ap is_some (unfound_between names_total done x (filter long rest) next),
            (
              ap (λ roles. not (list_all (λ role. has name_cmp role roles) x.1.roles)) (roles_with kind before t)
                  ∙ there _ (member_all names_total names_exact (λ role. has name_cmp role t.roles) x.1.roles is.exist),
              (
                ap (is_badly_sized kind) changed ∙ ap (λ sets. not (list_all (λ y. is_well_sized y.1) sets)) (sets_with kind so_far t) ∙ there _ (all_sized so_far (each _ sized)),
                (
                  ap (is_violated kind) changed ∙ not_violated so_far (λ p. each (λ y. is_broken_by p y.1 ≡ false)) none,
                  (ap (λ sets. leb most_sets (length sets)) (sets_with kind before t) ∙ few, tt),
                ),
              ),
            ),
          )
          changed refl is.in_order

      go : (b : Bool) → long x ≡ b → Leads (with_sets kind (done ++ filter long (x ∷ rest)) t) (cond b [] (set_command kind x ∷ [])) (with_sets kind so_far t)
      go true l = (ap (λ sets. with_sets kind sets t) (ap (λ l. done ++ l) (filter-yes long x rest l) ∙ sym (append_assoc done (x ∷ []) (filter long rest))), tt, tt)
      go false l =
          subst (λ l. Leads (with_sets kind (done ++ l) t) (set_command kind x ∷ []) (with_sets kind so_far t)) (sym (filter-no long x rest l)) (leads_one (with_sets kind before t) (set_command kind x) (with_sets kind so_far t) made)
