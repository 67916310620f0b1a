-- Numbers that names have, and what a name more or less makes of them.
use Rattle.std.proofs.Common.{ℕ, List, ◌∷◌, [], ◌++◌, get_or, All, ◌≢◌, ◌≡◌, ◌⊎◌, true, cond, Option, Some, None, is_some, refl, sym, ap, ◌∙◌, inl, inr, true≢false, arith}
use Rattle.std.proofs.lemmas.Bool.{cases_eq}
use Rattle.std.proofs.lemmas.List.Elements.{All-push}
use Rattle.std.specs.Ordering.{eq_by_cmp}
use Rattle.std.specs.FinMap.Entries.{find, put, find-put}
use Rattle.slab.specs.Slab.{Slab, get}
use Rattle.sorted_keys.specs.Keys.{without_key}
use Rattle.sorted_keys.proofs.Lookups.{find-without_key}
use Rattle.sorted_keys.proofs.Ties.{one_key, ties_itself}
use Rattle.rbac_terms.specs.Name.{Name, name_cmp}
use Rattle.rbac_terms.proofs.NameLemmas.{names_total, names_exact}
use Rattle.rbac_separation.specs.Numbered.{IsNumbered, IsMore}

-- names that tie are one (the first part shows `grind` the call to match)
pub one_name : (x y : Name) → (eq_by_cmp name_cmp x y ≡ eq_by_cmp name_cmp x y) × (eq_by_cmp name_cmp x y ≡ true → x ≡ y)
one_name x y = (refl, one_key names_exact x y)

-- names that have their numbers, and names more, and more
pub more_self : (es : List (Name × ℕ)) → IsMore es es
more_self es = record {
  kept = λ x n is. is;
  fresh = λ x n none is. grind arith;
}

pub more_both : (es fs gs : List (Name × ℕ)) → IsMore es fs → IsMore fs gs → IsMore es gs
more_both es fs gs first second = record {
  kept = λ x n is. second.kept x n (first.kept x n is);
  fresh = λ x n none is other at. grind (arith, found (find name_cmp x fs), second.kept x, first.fresh x n none, second.fresh x n, first.kept other n);
}
  where
    found : (o : Option ℕ) → (o ≡ None) ⊎ ((n : ℕ) × (o ≡ Some n))
    found None = inl refl
    found (Some n) = inr (n, refl)

-- what holds of each still does, and of one more
pub all_more : {X : Type 0} (P Q : X → Type 0) → ((x : X) → P x → Q x) → (xs : List X) (x : X) → All P xs → Q x → All Q (xs ++ x ∷ [])
all_more P Q still xs x all = All-push Q xs x (λ k d lt. still (get_or xs k d) (all k d lt))

-- the name keeps what it has
pub named_same : (numbers : Name → Option ℕ) (name : Name) (o : Option ℕ) → numbers name ≡ o → (x : Name) → numbers x ≡ cond (eq_by_cmp name_cmp x name) o (numbers x)
named_same numbers name o is x = grind (arith, one_name x name)

-- a name gets a number that was vacant
module _ {X : Type 0} (es fs : List (Name × ℕ)) (old new : Slab X) (name : Name) (i : ℕ) (numbered : IsNumbered es old)
    (none : find name_cmp name es ≡ None) (vacant : get old i ≡ None) (made : fs ≡ put name_cmp name i es) where
  added : (x : Name) → find name_cmp x fs ≡ cond (eq_by_cmp name_cmp x name) (Some i) (find name_cmp x es)
  added x = ap (find name_cmp x) made ∙ find-put name_cmp names_total x name i es

  no_own : (x : Name) → find name_cmp x es ≡ Some i → ⊥
  no_own x is = true≢false (sym (numbered.taken x i is) ∙ ap is_some vacant)

  -- which is a name more
  pub fresh_more : IsMore es fs
  fresh_more = record {
    kept = λ x n is. grind (arith, added x, one_name x name);
    fresh = λ x n free is other at. grind (arith, added x, no_own other);
  }

  -- and has that number
  pub fresh_found : find name_cmp name fs ≡ Some i
  fresh_found = grind (arith, added name, ties_itself names_total name)

  -- and all names have numbers of their own
  pub fresh_numbered : is_some (get new i) ≡ true → ((k : ℕ) → k ≢ i → get new k ≡ get old k) → IsNumbered fs new
  fresh_numbered taken others = record {
    taken = λ x n is. grind (arith, added x, others n, numbered.taken x n, cases_eq n i);
    own = λ a b n p q. grind (arith, added a, added b, one_name a name, one_name b name, ties_itself names_total a, no_own a, no_own b, numbered.own a b n);
  }

-- a name is taken out
module _ {X : Type 0} (es fs : List (Name × ℕ)) (old new : Slab X) (name : Name) (numbered : IsNumbered es old) (gone : fs ≡ without_key name_cmp name es) where
  pub gone_found : (x : Name) → find name_cmp x fs ≡ cond (eq_by_cmp name_cmp x name) None (find name_cmp x es)
  gone_found x = ap (find name_cmp x) gone ∙ find-without_key name_cmp names_total name es x

  pub gone_numbered : (i : ℕ) → find name_cmp name es ≡ Some i → ((k : ℕ) → k ≢ i → get new k ≡ get old k) → IsNumbered fs new
  gone_numbered i found others = record {
    taken = λ x n is. grind (arith, gone_found x, others n, numbered.taken x n, cases_eq n i, numbered.own x name n);
    own = λ a b n p q. grind (arith, gone_found a, gone_found b, numbered.own a b n);
  }
