use Rattle.std.proofs.Common.{ℕ, ◌≡◌, ◌≤◌, ◌<◌, max, List, ◌∙◌, ◌∷◌, ◌++◌, [], length, take, get_or, vec_len, sym, ap, subst, arith}
use Rattle.std.specs.List.{AllByRecursion as Each}
use Rattle.std.proofs.lemmas.List.{take_more}
use Rattle.rbac_words.specs.declared.message.Submission.{Submission}
use Rattle.sorted_keys.proofs.Lists.{Each-append}
use Rattle.rbac_holdback.specs.Queues.{HaveRoom, lists_of, rooms_of, room_at}
use Rattle.rbac_holdback.proofs.PlaceLemmas.{Each-here}
use Rattle.rbac_holdback.proofs.RoomLemmas.{have_grown, widened_again}
use Rattle.rbac_holdback.proofs.holdback.make_room_for_all.Goals as goal

-- no queue is made for a member that none of them is of
no_more : (held : List Submission) (place members before after : ℕ) (x : Submission) → x ≡ get_or held place x → place < length held → Each (λ (y : Submission). y.stamp.member ≤ members) held
    → before ≤ members → after ≤ max before x.stamp.member → after ≤ members
no_more held place members before after x is there each within more = let high = Each-here (λ (y : Submission). y.stamp.member ≤ members) held place x is there each in omega arith

pub returns-in_err-make_room-clause-made : goal.returns-in_err-make_room-clause-made
returns-in_err-make_room-clause-made c = widened_again (lists_of c.args.queues.now.items) (lists_of c.loop-item.queues.items) (lists_of c.make_room.new.queues.items) c.loop-item.invariant.made c.make_room.ensures.made

pub returns-in_err-make_room-clause-no_more : goal.returns-in_err-make_room-clause-no_more
returns-in_err-make_room-clause-no_more c = λ members each within.
    no_more c.args.held.now c.loop-item.item-index members (vec_len c.loop-item.queues) (vec_len c.make_room.new.queues) c.item-item.result c.item-item.is c.loop-item-test.true each (c.loop-item.invariant.no_more members each within) c.make_room.ensures.no_more

pub loop-item-preserved : goal.loop-item-preserved
loop-item-preserved c =
    let held = c.args.held.now in
    let place = c.loop-item.item-index in
    let x = c.item-item.result in
    let new = rooms_of c.make_room.new.queues.items in
    record {
      made = widened_again (lists_of c.args.queues.now.items) (lists_of c.loop-item.queues.items) (lists_of c.make_room.new.queues.items) c.loop-item.invariant.made c.make_room.ensures.made;
      no_more = λ members each within.
          no_more held place members (vec_len c.loop-item.queues) (vec_len c.make_room.new.queues) x c.item-item.is c.loop-item-test.true each (c.loop-item.invariant.no_more members each within) c.make_room.ensures.no_more;
      room = subst (HaveRoom (length held) new) (sym (take_more held place x c.loop-item-test.true ∙ ap (λ y. take place held ++ y ∷ []) (sym c.item-item.is)))
          (Each-append (λ (y : Submission). length held ≤ room_at y.stamp.member new) (take place held) (x ∷ [])
          (have_grown (length held) (rooms_of c.loop-item.queues.items) new (take place held) c.make_room.ensures.rooms c.loop-item.invariant.room) (c.in_ok-make_room.ensures.room, tt));
    }
