-- The test of the latest stamps, from one member on.
use Rattle.std.proofs.Common.{ℕ, suc, add-one, Bool, ◌||◌, ◌&&◌, ◌==◌, ◌≡◌, ◌<◌, ◌+◌, ◌-◌, arith, sym, subst, ap, ◌∙◌, List, ◌∷◌, length, Option, None, get_or}
use Rattle.std.specs.List.{list_all}
use Rattle.rbac_words.specs.declared.stamp.Stamp.{Stamp}
use Rattle.rbac_words.specs.Keeping.Member.{numbers}
use Rattle.rbac_words.specs.Stamp.{has_passed}

-- whether member k need not be waited for
abbrev pub passes : ℕ → List (Option Stamp) → Stamp → ℕ → Bool
passes me latest stamp k = (k == me || k == stamp.member) || has_passed (get_or latest (k - 1) None) stamp

-- whether no member from this place on need be waited for
abbrev pub passed_from : ℕ → List (Option Stamp) → Stamp → ℕ → Bool
passed_from me latest stamp i = list_all (passes me latest stamp) (numbers (length latest - i) i)

-- the numbers from place i on begin with i + 1
numbers-next : (n i : ℕ) → i < n → numbers (n - i) i ≡ suc i ∷ numbers (n - suc i) (suc i)
numbers-next n i h = let e : n - i ≡ suc (n - suc i) = omega arith in ap (λ m. numbers m i) e

module _ (me : ℕ) (latest : List (Option Stamp)) (stamp : Stamp) (i : ℕ) (in_range : i < length latest) where
  passed_from-next : passed_from me latest stamp i ≡ (passes me latest stamp (suc i) && passed_from me latest stamp (suc i))
  passed_from-next = ap (list_all (passes me latest stamp)) (numbers-next (length latest) i in_range)

  passes-at : passes me latest stamp (i + 1) ≡ ((((i + 1) == me) || ((i + 1) == stamp.member)) || has_passed (get_or latest i None) stamp)
  passes-at = let e : (i + 1) - 1 ≡ i = omega arith in ap (λ j. (((i + 1) == me) || ((i + 1) == stamp.member)) || has_passed (get_or latest j None) stamp) e

  -- member i + 1, and then those after it
  pub passed_step :
      (b : Bool) → ((((i + 1) == me) || ((i + 1) == stamp.member)) || has_passed (get_or latest i None) stamp) ≡ b → passed_from me latest stamp i ≡ (b && passed_from me latest stamp (i + 1))
  passed_step b e =
      let f : passes me latest stamp (suc i) ≡ b = subst (λ k. passes me latest stamp k ≡ b) (add-one i) (passes-at ∙ e) in
      subst (λ k. passed_from me latest stamp i ≡ (b && passed_from me latest stamp k)) (sym (add-one i)) (passed_from-next ∙ ap (λ t. t && passed_from me latest stamp (suc i)) f)
