-- Names gathered from none have in all that they inherit.
use Rattle.std.proofs.Common.{◌≡◌, Bool, true, false, ◌||◌, List, [], ◌∷◌, IsTrue, refl, sym, ap, ◌∙◌}
use Rattle.std.specs.List.{list_any}
use Rattle.std.proofs.lemmas.Bool.{or_right, true≢false}
use Rattle.sorted_keys.specs.Keys.{has}
use Rattle.rbac_terms.specs.Name.{Name, name_cmp}
use Rattle.rbac_terms.specs.Inheritance.{inherits}
use Rattle.rbac_rules.proofs.InheritanceLemmas.{inherits_iff, joined}

module _ {X : Type 0} (role_of : X → Name) (roles : List Name) (declared : List (Name × Name)) where
  any_below : (xs : List X) (q r : Name) → list_any (λ x. inherits roles declared (role_of x) q) xs ≡ true → inherits roles declared q r ≡ true → list_any (λ x. inherits roles declared (role_of x) r) xs ≡ true
  any_below [] q r e below = absurd (true≢false (sym e))
  any_below (x ∷ xs) q r e below = go (inherits roles declared (role_of x) q) refl e (λ there. any_below xs q r there below)
    where
      go : (b : Bool) → inherits roles declared (role_of x) q ≡ b → (b || list_any (λ x. inherits roles declared (role_of x) q) xs) ≡ true
          → (list_any (λ x. inherits roles declared (role_of x) q) xs ≡ true → list_any (λ x. inherits roles declared (role_of x) r) xs ≡ true)
          → (inherits roles declared (role_of x) r || list_any (λ x. inherits roles declared (role_of x) r) xs) ≡ true
      go true here f later =
          let through = (inherits_iff roles declared (role_of x) r).1 (joined roles declared (role_of x) q r ((inherits_iff roles declared (role_of x) q).0 here) ((inherits_iff roles declared q r).0 below)) in
          ap (λ b. b || list_any (λ x. inherits roles declared (role_of x) r) xs) through
      go false here f later = or_right _ _ (later f)

  -- what is inherited by a name that was gathered was gathered too
  pub closed : (names more : List Name) (xs : List X) → names ≡ [] → ((r : Name) → has name_cmp r more ≡ (has name_cmp r names || list_any (λ x. inherits roles declared (role_of x) r) xs))
      → (q r : Name) → IsTrue (has name_cmp q more) → IsTrue (inherits roles declared q r) → IsTrue (has name_cmp r more)
  closed names more xs none gathered q r there below =
      let from : (p : Name) → has name_cmp p more ≡ list_any (λ x. inherits roles declared (role_of x) p) xs
      = λ p. gathered p ∙ ap (λ t. has name_cmp p t || list_any (λ x. inherits roles declared (role_of x) p) xs) none in
      from r ∙ any_below xs q r (sym (from q) ∙ there) below
