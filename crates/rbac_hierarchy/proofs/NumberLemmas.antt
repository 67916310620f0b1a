-- Numbers and names.
use Rattle.std.proofs.Common.{rules, ℕ, zero, suc, ◌≡◌, ◌<◌, true, false, ◌==◌, List, [], ◌∷◌, Option, None, Some, IfSome, IfNone, is_some, length, get_or, position, refl, sym, ap, ◌∙◌, subst, ⊎_elim, arith}
use Rattle.std.specs.Cmp.Lexicographic.{pointwise}
use Rattle.std.specs.Cmp.Rules.{comparing}
use Rattle.std.specs.List.{list_any}
use Rattle.std.specs.Ordering.{eq_by_cmp}
use Rattle.std.proofs.lemmas.Bool.{or_left, or_right, or_cases, both_ways, false≢true}
use Rattle.std.proofs.lemmas.List.Quantifiers.{position-Some}
use Rattle.sorted_keys.specs.Keys.{has}
use Rattle.sorted_keys.proofs.Gathered.{has-set_of, sorted_set_of}
use Rattle.sorted_keys.proofs.Members.{same_keys}
use Rattle.sorted_keys.proofs.Lists.{any-same}
use Rattle.rbac_terms.specs.Name.{Name, name_cmp}
use Rattle.sorted_keys.proofs.Ties.{one_key, same_bits, ties_itself}
use Rattle.rbac_terms.proofs.NameLemmas.{names_total, names_exact}
use Rattle.rbac_hierarchy.specs.Numbers.{role_at, roles_of}

-- `==` of names is their order's
pub equal_names : (a b : Name) → pointwise ◌==◌ a b ≡ eq_by_cmp name_cmp a b
equal_names a b = search (comparing, rules)

pub has_equal : (role : Name) (names : List Name) → list_any (pointwise ◌==◌ role) names ≡ has name_cmp role names
has_equal role names = any-same (pointwise ◌==◌ role) (eq_by_cmp name_cmp role) (equal_names role) names

pub number_found : (role : Name) (names : List Name) (found : Option ℕ) → found ≡ position (pointwise ◌==◌ role) names → IfSome found (λ i. (i < length names) × (role_at names i ≡ role))
number_found role names None e = tt
number_found role names (Some i) e =
    let h = position-Some (pointwise ◌==◌ role) names i [] (sym e) in
    (h.0, sym (one_key names_exact role (role_at names i) (sym (equal_names role (role_at names i)) ∙ h.1)))

pub number_missing : (role : Name) (names : List Name) (found : Option ℕ) → is_some found ≡ list_any (pointwise ◌==◌ role) names → IfNone found (has name_cmp role names ≡ false)
number_missing role names None e = sym (has_equal role names) ∙ sym e
number_missing role names (Some i) e = tt

pub has_role : (names : List Name) (r : Name) → has name_cmp r (roles_of names) ≡ has name_cmp r names
has_role names r = has-set_of names_total names r

-- what has a number is among the names
pub is_name : (names : List Name) (i : ℕ) → i < length names → has name_cmp (role_at names i) names ≡ true
is_name [] i lt = absurd (omega arith)
is_name (x ∷ xs) zero lt = or_left _ _ (ties_itself names_total x)
is_name (x ∷ xs) (suc i) lt = or_right _ _ (is_name xs i (omega arith))

pub is_role : (names : List Name) (i : ℕ) → i < length names → has name_cmp (role_at names i) (roles_of names) ≡ true
is_role names i lt = has_role names (role_at names i) ∙ is_name names i lt

-- each name has a number
pub number_in : (names : List Name) (r : Name) → has name_cmp r names ≡ true → (k : ℕ) × (k < length names) × (role_at names k ≡ r)
number_in [] r m = absurd (false≢true m)
number_in (x ∷ xs) r m = ⊎_elim
    (λ here. (0, omega arith, sym (one_key names_exact r x here)))
    (λ there. let k = number_in xs r there in (suc k.0, omega (arith, k.1), k.2))
    (or_cases _ _ m)

-- a role that has a number is there
pub role_found : (names : List Name) (role : Name) (found : Option ℕ) → is_some found ≡ true → IfSome found (λ i. (i < length names) × (role_at names i ≡ role)) → has name_cmp role (roles_of names) ≡ true
role_found names role None some numbered = absurd (both_ways _ refl some)
role_found names role (Some i) some numbered = subst (λ r. has name_cmp r (roles_of names) ≡ true) numbered.1 (is_role names i numbered.0)

pub role_missing : (names : List Name) (role : Name) (found : Option ℕ) → is_some found ≡ false → IfNone found (has name_cmp role names ≡ false) → has name_cmp role names ≡ false
role_missing names role None none absent = absent
role_missing names role (Some i) none absent = absurd (both_ways _ none refl)

pub role_told : (names : List Name) (role : Name) (found : Option ℕ) → IfSome found (λ i. (i < length names) × (role_at names i ≡ role)) → IfNone found (has name_cmp role names ≡ false) → is_some found ≡ has name_cmp role names
role_told names role None numbered absent = sym absent
role_told names role (Some i) numbered absent = sym (subst (λ r. has name_cmp r names ≡ true) numbered.1 (is_name names i numbered.0))

-- names that are all among one another are the same roles
pub roles_same : (xs ys : List Name) → ((q : Name) → list_any (pointwise ◌==◌ q) xs ≡ true → list_any (pointwise ◌==◌ q) ys ≡ true) → ((q : Name) → list_any (pointwise ◌==◌ q) ys ≡ true → list_any (pointwise ◌==◌ q) xs ≡ true)
    → roles_of xs ≡ roles_of ys
roles_same xs ys there back = same_keys names_exact names_total _ _ (sorted_set_of names_total xs) (sorted_set_of names_total ys)
    (λ q. has_role xs q ∙ same_bits _ _ (λ m. sym (has_equal q ys) ∙ there q (has_equal q xs ∙ m)) (λ m. sym (has_equal q xs) ∙ back q (has_equal q ys ∙ m)) ∙ sym (has_role ys q))

pub roles_among : (xs ys : List Name) → roles_of xs ≡ roles_of ys → (q : Name) → list_any (pointwise ◌==◌ q) xs ≡ true → list_any (pointwise ◌==◌ q) ys ≡ true
roles_among xs ys e q m = has_equal q ys ∙ sym (has_role ys q) ∙ sym (ap (has name_cmp q) e) ∙ has_role xs q ∙ sym (has_equal q xs) ∙ m

-- what a number below the length stands for does not hang on a default
pub any_role_at : (names : List Name) (i : ℕ) (d : Name) → i < length names → get_or names i d ≡ role_at names i
any_role_at [] i d lt = absurd (omega arith)
any_role_at (x ∷ xs) zero d lt = refl
any_role_at (x ∷ xs) (suc i) d lt = any_role_at xs i d (omega arith)
