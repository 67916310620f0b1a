-- What holds of each message holds of that of a number.
use Rattle.std.proofs.Common.{ℕ, zero, suc, Bool, true, false, ◌≡◌, ◌-◌, nat_le, cond, List, [], ◌∷◌, slice_get, refl, sym, subst, ◌∙◌, Option, Some, None, IfSome, option_map}
use Rattle.std.specs.List.{AllByRecursion as Each}
use Rattle.rbac_embedded_member.specs.Texts.{item_at}

pub at_place : {X : Type 0} (P : X → Type 0) (xs : List X) (i : ℕ) (x : X) → Each P xs → slice_get xs i ≡ Some x → P x
at_place P [] i x a e = let no : ⊥ = cc in absurd no
at_place P (y ∷ ys) zero x a e = let same : y ≡ x = cc in subst P same a.0
at_place P (y ∷ ys) (suc i) x a e = at_place P ys i x a.1 e

pub at_number : {X : Type 0} (P : X → Type 0) (xs : List X) (number : ℕ) (x : X) → Each P xs → Some x ≡ item_at xs number → P x
at_number P xs number x a e = go (nat_le 1 number) (sym e)
  where
    go : (b : Bool) → cond b (slice_get xs (number - 1)) None ≡ Some x → P x
    go true f = at_place P xs (number - 1) x a f
    go false f = let no : ⊥ = cc in absurd no

-- what is lent of a list is one of its items
pub lent_at : {X B : Type 0} (P : X → Type 0) (xs : List X) (number : ℕ) (of : B → X) (found : Option B) → Each P xs → option_map of found ≡ item_at xs number → IfSome found (λ b. P (of b))
lent_at P xs number of None a e = tt
lent_at P xs number of (Some b) a e = at_number P xs number (of b) a e
