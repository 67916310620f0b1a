-- What the declared pairs range over, as they and the roles change.
use Rattle.std.proofs.Common.{◌≡◌, true, false, not, ◌||◌, List, IsTrue, refl, sym, ap, ◌∙◌, subst}
use Rattle.std.specs.Ordering.{eq_by_cmp}
use Rattle.std.proofs.lemmas.Bool.{and_parts, and_from, not-true, or_parts}
use Rattle.sorted_keys.specs.Keys.{has, with_key, without}
use Rattle.sorted_keys.proofs.Members.{has-with_key, has-without, has-filter}
use Rattle.rbac_terms.specs.Name.{Name, name_cmp, pair_cmp}
use Rattle.rbac_terms.specs.Relations.{begins_with, ends_with, without_pairs_of}
use Rattle.sorted_keys.proofs.Ties.{one_key}
use Rattle.rbac_terms.proofs.NameLemmas.{names_exact, pairs_total, pairs_exact}
use Rattle.rbac_hierarchy.specs.Rows.{RangesOver}

-- more roles are ranged over as well
pub ranges_wider : (roles more : List Name) (declared : List (Name × Name)) → ((q : Name) → has name_cmp q roles ≡ true → has name_cmp q more ≡ true) → RangesOver roles declared → RangesOver more declared
ranges_wider roles more declared wider ranges = λ a b m. (wider a (ranges a b m).0, wider b (ranges a b m).1)

-- what the pairs range over, after a change of them
pub ranges_more : (roles : List Name) (declared declared_then : List (Name × Name)) (a b : Name) → RangesOver roles declared → has name_cmp a roles ≡ true → has name_cmp b roles ≡ true
    → declared_then ≡ with_key pair_cmp (a, b) declared → RangesOver roles declared_then
ranges_more roles declared declared_then a b ranges is_a is_b is = λ x y m. elim (eq_by_cmp pair_cmp (x, y) (a, b)) as (λ t. eq_by_cmp pair_cmp (x, y) (a, b) ≡ t → (t || has pair_cmp (x, y) declared) ≡ true → IsTrue (has name_cmp x roles) × IsTrue (has name_cmp y roles)) [
  | true ↦ λ e _.
      let same = one_key pairs_exact (x, y) (a, b) e in
      (subst (λ (z : Name). has name_cmp z roles ≡ true) (sym (ap (λ p. p.0) same)) is_a, subst (λ (z : Name). has name_cmp z roles ≡ true) (sym (ap (λ p. p.1) same)) is_b)
  | false ↦ λ e there. ranges x y there
] refl (sym (has-with_key pairs_total (a, b) declared (x, y)) ∙ sym (ap (has pair_cmp (x, y)) is) ∙ m)

pub ranges_less : (roles : List Name) (declared declared_then : List (Name × Name)) (p : Name × Name) → RangesOver roles declared → declared_then ≡ without pair_cmp p declared → RangesOver roles declared_then
ranges_less roles declared declared_then p ranges is = λ x y m. ranges x y (and_parts _ _ (sym (has-without pairs_total p declared (x, y)) ∙ sym (ap (has pair_cmp (x, y)) is) ∙ m)).1

-- the pairs of the other roles range over these
pub ranges_without : (roles : List Name) (declared : List (Name × Name)) (role : Name) → RangesOver roles declared → RangesOver roles (without_pairs_of role declared) × RangesOver (without name_cmp role roles) (without_pairs_of role declared)
ranges_without roles declared role ranges =
    let parts = λ (x y : Name) (m : has pair_cmp (x, y) (without_pairs_of role declared) ≡ true). and_parts _ _ (sym (has-filter pairs_exact (λ p. not (begins_with role p || ends_with role p)) declared (x, y)) ∙ m) in
    let other = λ (x : Name) (e : eq_by_cmp name_cmp role x ≡ false) (m : has name_cmp x roles ≡ true). has-filter names_exact (λ q. not (eq_by_cmp name_cmp role q)) roles x ∙ and_from _ _ (ap not e) m in (
      λ x y m. ranges x y (parts x y m).1,
      λ x y m.
          let apart = or_parts _ _ (not-true _ (parts x y m).0) in
          let both = ranges x y (parts x y m).1 in
          (other x apart.0 both.0, other y apart.1 both.1),
    )
