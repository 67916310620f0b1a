use Rattle.std.proofs.Common.{◌≡◌, ◌∙◌, ◌++◌, ◌∷◌, ◌<◌, List, [], map, take, All, length, get_or, sym, ap, subst}
use Rattle.rbac_decide.proofs.Common.{find, Name, name_cmp, RoleSet, cut_to, entry_of, CountedSet, map-append, one_more}
use Rattle.rbac_separation.proofs.NumberLemmas.{all_more}
use Rattle.rbac_decide.proofs.gains.counted_sets.Goals as goal

pub loop-entry-preserved : goal.loop-entry-preserved
loop-entry-preserved c =
    let roles = c.args.below.now.roles in
    let sets = c.args.below.now.sets.items in
    let cut : Name × RoleSet → Name × RoleSet = λ e. (e.0, cut_to roles e.1) in
    let i = c.loop-entry.entry-index in
    let e = c.entry-item.result in
    let counted = c.loop-entry.counted.items in
    let one = c.in_ok-counted_set.field-0 in
    let same = c.deref-entry-items.ensures.value in
    let lt : i < length sets = subst (λ (l : List (Name × RoleSet)). i < length l) same c.loop-entry-test.true in
    let is : e ≡ get_or sets i e = c.entry-item.is ∙ ap (λ (l : List (Name × RoleSet)). get_or l i e) same in
    record {
      sets =
          ap (map (entry_of roles)) c.in_ok-push.ensures.items
          ∙ map-append (entry_of roles) counted (one ∷ [])
          ∙ (λ t. c.loop-entry.invariant.sets t ++ c.in_ok-counted_set.ensures.set t ∷ [])
          ∙ sym (map-append cut (take i sets) (e ∷ []))
          ∙ sym (ap (map cut) (one_more sets i e lt is));
      places =
          subst (All (λ (set : CountedSet). set.place ≡ find name_cmp set.set c.args.counts.now.sets)) (sym c.in_ok-push.ensures.items)
          (all_more (λ (set : CountedSet). set.place ≡ find name_cmp set.set c.args.counts.now.sets) (λ (set : CountedSet). set.place ≡ find name_cmp set.set c.args.counts.now.sets) (λ x is. is) counted one c.loop-entry.invariant.places c.in_ok-counted_set.ensures.place);
    }
