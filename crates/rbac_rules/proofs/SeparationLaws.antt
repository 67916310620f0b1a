-- The tests of separation of duty tell what they should.
use Rattle.std.proofs.Common.{List, [], ◌∷◌, count_by, Bool, false, ◌≡◌, ◌<◌, IsTrue, ◌↔◌, refl, sym, subst, ◌∙◌, ⊎_elim, arith}
use Rattle.std.proofs.lemmas.Bool.{or_cases, or_left, or_right, false≢true, leb-true, leb-false}
use Rattle.std.specs.List.{list_any, AllByRecursion as Each}
use Rattle.sorted_keys.specs.Keys.{has}
use Rattle.rbac_terms.specs.Name.{Name, name_cmp}
use Rattle.rbac_terms.specs.Separation.{RoleSet, is_broken_by}
use Rattle.rbac_terms.specs.State.{State, Session}
use Rattle.rbac_terms.specs.Authorization.{is_authorized}
use Rattle.rbac_terms.specs.Constraints.{is_violated, KeepsStatic, KeepsDynamic}
use Rattle.rbac_terms.specs.declared.separation.Separation.TheVariants.{Static, Dynamic}
use Rattle.sorted_keys.proofs.Ties.{one_key, ties_itself}
use Rattle.rbac_terms.proofs.NameLemmas.{names_total, names_exact}
use Rattle.sorted_keys.proofs.Lists.{Each-weaker}
use Rattle.rbac_rules.proofs.SoundSeparation.{is_false, none_passes, passes_none}

-- a set that is not broken has fewer that pass than its number
fewer_pass : (p : Name → Bool) (set : RoleSet) → is_broken_by p set ≡ false → count_by p set.roles < set.cardinality
fewer_pass p set e = leb-false set.cardinality (count_by p set.roles) e

not_broken : (p : Name → Bool) (set : RoleSet) → count_by p set.roles < set.cardinality → is_broken_by p set ≡ false
not_broken p set h = is_false _ (λ e. let many = leb-true set.cardinality (count_by p set.roles) e in absurd (omega arith))

-- of things and sets, each thing breaks no set exactly where each set is broken by none
module _ {X : Type 0} (test : X → Name → Bool) where
  turned : (xs : List X) (sets : List (Name × RoleSet)) → list_any (λ x. list_any (λ e. is_broken_by (test x) e.1) sets) xs ≡ false
      → Each (λ e. Each (λ x. count_by (test x) e.1.roles < e.1.cardinality) xs) sets
  turned xs [] none = tt
  turned xs (e ∷ es) none =
      let all = none_passes (λ x. list_any (λ y. is_broken_by (test x) y.1) (e ∷ es)) xs none in (
        Each-weaker (λ x. list_any (λ y. is_broken_by (test x) y.1) (e ∷ es) ≡ false) (λ x. count_by (test x) e.1.roles < e.1.cardinality) xs
            (λ x h. fewer_pass (test x) e.1 (none_passes (λ y. is_broken_by (test x) y.1) (e ∷ es) h).0) all,
        turned xs es (passes_none (λ x. list_any (λ y. is_broken_by (test x) y.1) es) xs
            (Each-weaker (λ x. list_any (λ y. is_broken_by (test x) y.1) (e ∷ es) ≡ false) (λ x. list_any (λ y. is_broken_by (test x) y.1) es ≡ false) xs
            (λ x h. is_false _ (λ some. false≢true (sym h ∙ or_right _ _ some))) all)),
      )

  back : (xs : List X) (sets : List (Name × RoleSet)) → Each (λ e. Each (λ x. count_by (test x) e.1.roles < e.1.cardinality) xs) sets
      → list_any (λ x. list_any (λ e. is_broken_by (test x) e.1) sets) xs ≡ false
  back xs [] all = passes_none (λ x. false) xs (nothing xs)
    where
      nothing : (xs : List X) → Each (λ x. false ≡ false) xs
      nothing [] = tt
      nothing (x ∷ xs) = (refl, nothing xs)
  back xs (e ∷ es) all =
      passes_none (λ x. list_any (λ y. is_broken_by (test x) y.1) (e ∷ es)) xs
      (both xs all.0 (none_passes (λ x. list_any (λ y. is_broken_by (test x) y.1) es) xs (back xs es all.1)))
    where
      both : (xs : List X) → Each (λ x. count_by (test x) e.1.roles < e.1.cardinality) xs → Each (λ x. list_any (λ y. is_broken_by (test x) y.1) es ≡ false) xs
          → Each (λ x. list_any (λ y. is_broken_by (test x) y.1) (e ∷ es) ≡ false) xs
      both [] few rest = tt
      both (x ∷ xs) few rest =
          (is_false _ (λ some. ⊎_elim (λ h. false≢true (sym (not_broken (test x) e.1 few.0) ∙ h)) (λ h. false≢true (sym rest.0 ∙ h)) (or_cases _ _ some)), both xs few.1 rest.1)

-- what is so of each member of a list of names, and of each element
members : (P : Name → Type 0) (xs : List Name) → Each P xs → (x : Name) → IsTrue (has name_cmp x xs) → P x
members P [] all x m = absurd (false≢true m)
members P (y ∷ ys) all x m = ⊎_elim (λ e. subst P (sym (one_key names_exact x y e)) all.0) (λ h. members P ys all.1 x h) (or_cases _ _ m)

elements : (P : Name → Type 0) (xs : List Name) → ((x : Name) → IsTrue (has name_cmp x xs) → P x) → Each P xs
elements P [] each = tt
elements P (y ∷ ys) each = (each y (or_left _ _ (ties_itself names_total y)), elements P ys (λ x m. each x (or_right _ _ m)))

pub static_iff : (s : State) → (is_violated Static s ≡ false) ↔ KeepsStatic s
static_iff s = (
  (λ none. Each-weaker (λ e. Each (λ u. count_by (is_authorized s u) e.1.roles < e.1.cardinality) s.users) (λ e. (u : Name) → IsTrue (has name_cmp u s.users) → count_by (is_authorized s u) e.1.roles < e.1.cardinality) s.static_sets
      (λ e all. members (λ u. count_by (is_authorized s u) e.1.roles < e.1.cardinality) s.users all) (turned (is_authorized s) s.users s.static_sets none)),
  (λ all. back (is_authorized s) s.users s.static_sets (Each-weaker (λ e. (u : Name) → IsTrue (has name_cmp u s.users) → count_by (is_authorized s u) e.1.roles < e.1.cardinality) (λ e. Each (λ u. count_by (is_authorized s u) e.1.roles < e.1.cardinality) s.users) s.static_sets
      (λ e each. elements (λ u. count_by (is_authorized s u) e.1.roles < e.1.cardinality) s.users each) all)),
)

pub dynamic_iff : (s : State) → (is_violated Dynamic s ≡ false) ↔ KeepsDynamic s
dynamic_iff s = (turned (λ (x : Name × Session) r. has name_cmp r x.1.active) s.sessions s.dynamic_sets, back (λ (x : Name × Session) r. has name_cmp r x.1.active) s.sessions s.dynamic_sets)
