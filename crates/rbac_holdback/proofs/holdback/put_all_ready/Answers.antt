use Rattle.std.proofs.Common.{◌≡◌, ◌∙◌, ◌∷◌, length, sym, ap, subst}
use Rattle.std.specs.Vec.Iter.{into_iter_items}
use Rattle.rbac_holdback.specs.Queues.{HaveRoom, lists_of, rooms_of, longer_by}
use Rattle.rbac_holdback.proofs.RoomLemmas.{AreNumbered, room_left}
use Rattle.rbac_holdback.proofs.holdback.put_all_ready.Goals as goal

pub loop-item-preserved : goal.loop-item-preserved
loop-item-preserved c =
    let x = c.in-Some.item in
    let old = c.loop-item.queues.items in
    let to_do = into_iter_items c.loop-item.item-iterator in
    let rest = into_iter_items c.next.new.self in
    let taken : to_do ≡ x ∷ rest = c.in-Some.ensures.steps.0 in
    let numbered : AreNumbered (x ∷ rest) = subst AreNumbered taken c.loop-item.invariant.numbered in
    let room : HaveRoom (length (x ∷ rest)) (rooms_of old) (x ∷ rest) = subst (λ xs. HaveRoom (length xs) (rooms_of old) xs) taken c.loop-item.invariant.room in
    record {
      numbered = numbered.1;
      room = subst (λ rooms. HaveRoom (length rest) rooms rest) (sym c.put_ready.ensures.room) (room_left (length rest) (rooms_of old) x rest room);
      put = ap (longer_by rest) c.put_ready.ensures.put ∙ ap (λ xs. longer_by xs (lists_of old)) (sym taken) ∙ c.loop-item.invariant.put;
    }
