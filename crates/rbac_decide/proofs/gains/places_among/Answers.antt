use Rattle.std.proofs.Common.{◌≡◌, ◌∙◌, List, true, false, Some, Ok, Err, slice_get, sym, ap, subst}
use Rattle.rbac_decide.proofs.Common.{filter_map, IsStrictlySortedBy, has, Name, name_cmp, names_total}
use Rattle.sorted_keys.proofs.KeyPlace.{key_place}
use Rattle.rbac_decide.proofs.GainSteps.{found_there, placed_more, placed_none}
use Rattle.rbac_decide.proofs.gains.places_among.Goals as goal
use Rattle.rbac_decide.proofs.gains.places_among.Goals.{in-Ok+in_ok-push-in-Ok, in-Err}

pub loop-name-preserved : goal.loop-name-preserved
loop-name-preserved c =
    let names = c.args.names.now in
    let among = c.args.among.now in
    let i = c.loop-name.name-index in
    let x = c.name-item.result in
    let others = c.names-others.result.now in
    let same : others ≡ among = c.names-others.ensures.names in
    let sorted : IsStrictlySortedBy name_cmp others = subst (IsStrictlySortedBy name_cmp) (sym same) c.names-others.ensures.in_order in
    elim c.match-binary_search.branch [
      | in-Ok+in_ok-push-in-Ok w ↦
          let at = (key_place names_total x others (Ok w.in-Ok.place) sorted w.in-Ok.ensures.bound w.in-Ok.ensures.position).0 in
          (λ t. filter_map (slice_get among) (w.places-is t).items)
          ∙ ap (filter_map (slice_get among)) w.in_ok-push-in-Ok.ensures.items
          ∙ placed_more names among i x c.loop-name-test.true c.name-item.is c.loop-name.places.items c.loop-name.invariant w.in-Ok.place
          (subst (λ (l : List Name). slice_get l w.in-Ok.place ≡ Some x) same (found_there others w.in-Ok.place x at.in_range w.in-Ok.ensures.ok))
          (subst (λ (l : List Name). has name_cmp x l ≡ true) same at.present)
      | in-Err w ↦
          let gap = (key_place names_total x others (Err w.in-Err.field-0) sorted w.in-Err.ensures.bound w.in-Err.ensures.position).1 in
          (λ t. filter_map (slice_get among) (w.places-is t).items)
          ∙ placed_none names among i x c.loop-name-test.true c.name-item.is c.loop-name.places.items c.loop-name.invariant
          (subst (λ (l : List Name). has name_cmp x l ≡ false) same gap.absent)
    ]
