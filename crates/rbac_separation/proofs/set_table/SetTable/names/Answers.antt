use Rattle.std.proofs.Common.{ℕ, zero, suc, ◌≡◌, ◌<◌, List, [], ◌∷◌, length, get_or, take, map, refl, sym, ap, subst, ◌∙◌, arith, add-one}
use Rattle.std.specs.declared.cmp.Ordering.{Ordering}
use Rattle.std.specs.List.Sorted.{IsStrictlySortedBy}
use Rattle.std.specs.Cmp.{IsTotalOrder}
use Rattle.std.proofs.lemmas.Map.Keys.{Less-from_sorted}
use Rattle.sorted_keys.specs.Keys.{with_key, by_key}
use Rattle.sorted_keys.proofs.Order.{greater}
use Rattle.rbac_terms.specs.Name.{name_cmp}
use Rattle.rbac_terms.proofs.NameLemmas.{names_total}
use Rattle.rbac_separation.proofs.set_table.SetTable.names.Goals as goal

-- the key of the next entry goes behind the keys before it
key_next : {K X : Type 0} {R : K → K → Ordering} → IsTotalOrder R → (es : List (K × X)) (i : ℕ) (d : K × X) → IsStrictlySortedBy (by_key R) es → i < length es → with_key R (get_or es i d).0 (map (λ e. e.0) (take i es)) ≡ map (λ e. e.0) (take (suc i) es)
unfolding IsStrictlySortedBy
key_next o [] i d sorted lt = absurd (omega arith)
key_next o (e ∷ es) zero d sorted lt = refl
key_next {R = R} o (e ∷ es) (suc i) d sorted lt =
    rw (greater o e.0 (get_or es i d).0 (Less-from_sorted (by_key R) (e ∷ es) 0 (suc i) d sorted (omega arith) lt))
    (ap (λ t. e.0 ∷ t) (key_next o es i d sorted.1 (omega arith)))

pub loop-entry-preserved : goal.loop-entry-preserved
loop-entry-preserved c =
    let entries = c.entries-sets.result.now in
    let sorted = subst (IsStrictlySortedBy (by_key name_cmp)) (sym c.entries-sets.ensures.entries) c.entries-sets.ensures.in_order in
    let next = key_next names_total entries c.loop-entry.entry-index c.entry-item.result sorted c.loop-entry-test.true in
    c.in_ok-add.ensures.added ∙ (λ t. with_key name_cmp ((c.in_ok-copy.ensures ∙ ap (λ (e : _ × _). e.0) c.entry-item.is) t) (c.loop-entry.invariant t))
    ∙ next ∙ ap (λ n. map (λ e. e.0) (take n entries)) (sym (add-one c.loop-entry.entry-index))
