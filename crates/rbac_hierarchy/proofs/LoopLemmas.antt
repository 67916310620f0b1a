-- Loops over a list, up to a place.
use Rattle.std.proofs.Common.{ℕ, ◌<◌, ◌≤◌, ◌+◌, length, take, get_or, ◌∙◌, List, [], ◌∷◌, Bool, true, false, ◌||◌, ◌≡◌, refl, sym, ap, Result, Ok, Err, IfOk}
use Rattle.std.specs.List.{list_any}
use Rattle.std.specs.Ordering.{eq_by_cmp}
use Rattle.std.proofs.lemmas.List.{take_all}
use Rattle.sorted_keys.specs.Keys.{has, with_key}
use Rattle.sorted_keys.proofs.Members.{has-with_key}
use Rattle.rbac_terms.specs.Name.{Name, name_cmp}
use Rattle.rbac_terms.proofs.NameLemmas.{names_total}
use Rattle.rbac_hierarchy.proofs.Kept.{any-append, one_more}

pub or_nothing : (b : Bool) → b ≡ (b || false)
or_nothing true = refl
or_nothing false = refl

-- with one more element
pub any_one_more : {X : Type 0} (a : Bool) (p : X → Bool) (xs : List X) (i : ℕ) (x : X) → i < length xs → x ≡ get_or xs i x
    → ((a || list_any p (take i xs)) || p x) ≡ (a || list_any p (take (i + 1) xs))
any_one_more a p xs i x lt is = sides a (list_any p (take i xs)) (p x) ∙ ap (λ t. a || t) (sym (any-append p (take i xs) (x ∷ []))) ∙ ap (λ t. a || list_any p t) (sym (one_more xs i x lt is))
  where
    sides : (a l e : Bool) → ((a || l) || e) ≡ (a || (l || (e || false)))
    sides true l e = refl
    sides false true e = refl
    sides false false true = refl
    sides false false false = refl

pub has_one_more : (initial names more : List Name) (i : ℕ) (x : Name) → i < length more → x ≡ get_or more i x
    → ((r : Name) → has name_cmp r names ≡ (has name_cmp r initial || has name_cmp r (take i more))) → (r : Name) → has name_cmp r (with_key name_cmp x names) ≡ (has name_cmp r initial || has name_cmp r (take (i + 1) more))
has_one_more initial names more i x lt is so_far r =
    has-with_key names_total x names r ∙ ap (λ t. eq_by_cmp name_cmp r x || t) (so_far r) ∙ turned (eq_by_cmp name_cmp r x) (has name_cmp r initial || has name_cmp r (take i more))
    ∙ any_one_more (has name_cmp r initial) (eq_by_cmp name_cmp r) more i x lt is
  where
    turned : (e l : Bool) → (e || l) ≡ (l || e)
    turned true true = refl
    turned true false = refl
    turned false true = refl
    turned false false = refl

-- at the end of a list all of it was taken
pub taken_whole : {X : Type 0} (xs : List X) (i : ℕ) → length xs ≤ i → take i xs ≡ xs
taken_whole xs i past = take_all i xs past

-- what is so of a result's value makes something else so of it
pub if_each : {A E : Type 0} (r : Result A E) (P Q : A → Type 0) → ((a : A) → P a → Q a) → IfOk r P → IfOk r Q
if_each (Ok a) P Q f h = f a h
if_each (Err e) P Q f h = tt
