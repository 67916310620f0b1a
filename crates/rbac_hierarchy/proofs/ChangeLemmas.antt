-- Changes that are made one after the other.
use Rattle.std.proofs.Common.{ℕ, ◌≡◌, ◌<◌, ◌+◌, Bool, true, false, not, ◌&&◌, List, [], ◌∷◌, ◌++◌, length, get_or, take, refl, sym, ap, ◌∙◌}
use Rattle.std.proofs.lemmas.List.{take_more}
use Rattle.sorted_keys.specs.Keys.{has}
use Rattle.rbac_terms.specs.Inheritance.{inherits}
use Rattle.rbac_terms.specs.Name.{Name, name_cmp}
use Rattle.sorted_keys.proofs.Ties.{same_bits}
use Rattle.rbac_rules.proofs.InheritanceLemmas.{inherits_iff}
use Rattle.rbac_hierarchy.specs.Changes.{after, after_one}
use Rattle.rbac_hierarchy.specs.Order.{Order}
use Rattle.rbac_hierarchy.specs.declared.change.Change.{Change}
use Rattle.rbac_hierarchy.proofs.JuniorLemmas.{between_roles}

-- what inherits itself is a role
pub itself_inherits : (roles : List Name) (declared : List (Name × Name)) (r : Name) → inherits roles declared r r ≡ has name_cmp r roles
itself_inherits roles declared r = same_bits _ _ (λ e. (between_roles roles declared r r e).0) (λ is. (inherits_iff roles declared r r).1 ([], (is, refl)))

-- a pair of roles that closes no circle, and one that is none
pub both_roles : (h : Order) (a d : Name) (b : Bool) → b ≡ ((inherits h.roles h.declared a a && inherits h.roles h.declared d d) && not (inherits h.roles h.declared d a))
    → b ≡ (has name_cmp a h.roles && (has name_cmp d h.roles && not (inherits h.roles h.declared d a)))
both_roles h a d b is = is ∙ turned (inherits h.roles h.declared a a) (inherits h.roles h.declared d d) _ ∙ (λ i. itself_inherits h.roles h.declared a i && (itself_inherits h.roles h.declared d i && not (inherits h.roles h.declared d a)))
  where
    turned : (x y z : Bool) → ((x && y) && z) ≡ (x && (y && z))
    turned true y z = refl
    turned false y z = refl

after_last : (cs : List Change) (c : Change) (h : Order) → after (cs ++ c ∷ []) h ≡ after_one c (after cs h)
after_last [] c h = refl
after_last (d ∷ cs) c h = after_last cs c (after_one d h)

pub one_change_more : (cs : List Change) (i : ℕ) (c : Change) (h : Order) → i < length cs → c ≡ get_or cs i c → after (take (i + 1) cs) h ≡ after_one c (after (take i cs) h)
one_change_more cs i c h lt is = ap (λ ds. after ds h) (take_more cs i c lt ∙ ap (λ d. take i cs ++ d ∷ []) (sym is)) ∙ after_last (take i cs) c h
