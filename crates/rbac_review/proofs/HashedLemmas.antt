-- Names that are found by their hash.
use Rattle.std.proofs.Common.{◌≡◌, ◌==◌, Bool, true, false, cond, ◌||◌, ◌&&◌, List, refl, sym, ap, ◌∙◌}
use Rattle.std.specs.Cmp.Lexicographic.{pointwise}
use Rattle.std.specs.List.{list_any, filter}
use Rattle.std.specs.Ordering.{eq_by_cmp}
use Rattle.sorted_keys.specs.Keys.{has}
use Rattle.sorted_keys.proofs.Lists.{any-same, filter-same}
use Rattle.sorted_keys.proofs.Ties.{ties_flip}
use Rattle.rbac_terms.specs.Name.{Name, Permission, Grant, name_cmp, pair_cmp}
use Rattle.rbac_terms.proofs.NameLemmas.{names_total, names_exact}
use Rattle.rbac_hierarchy.proofs.NumberLemmas.{equal_names, has_equal}
use Rattle.rbac_review.specs.Among.{is_granted_to_one}

-- a name more
pub has_more : (old new : List Name) (x q : Name) → list_any (pointwise ◌==◌ q) new ≡ cond (pointwise ◌==◌ x q) true (list_any (pointwise ◌==◌ q) old) → has name_cmp q new ≡ (has name_cmp q old || eq_by_cmp name_cmp q x)
has_more old new x q told =
    sym (has_equal q new) ∙ told ∙ either (pointwise ◌==◌ x q) (list_any (pointwise ◌==◌ q) old)
    ∙ ap (λ t. t || pointwise ◌==◌ x q) (has_equal q old) ∙ ap (λ t. has name_cmp q old || t) (equal_names x q ∙ ties_flip names_total names_exact x q)
  where
    either : (b c : Bool) → cond b true c ≡ (c || b)
    either true true = refl
    either true false = refl
    either false true = refl
    either false false = refl

-- what is granted to one of these is granted to one of those, where both are the same names
pub granted_to_same : (these those : List Name) (granted : List Grant) (permissions : List Permission) → ((r : Name) → has name_cmp r these ≡ has name_cmp r those)
    → filter (is_granted_to_one these granted) permissions ≡ filter (is_granted_to_one those granted) permissions
granted_to_same these those granted permissions same =
    filter-same (is_granted_to_one these granted) (is_granted_to_one those granted)
    (λ permission. any-same (λ g. eq_by_cmp pair_cmp permission g.0 && has name_cmp g.1 these) (λ g. eq_by_cmp pair_cmp permission g.0 && has name_cmp g.1 those)
    (λ g. ap (λ t. eq_by_cmp pair_cmp permission g.0 && t) (same g.1)) granted) permissions
