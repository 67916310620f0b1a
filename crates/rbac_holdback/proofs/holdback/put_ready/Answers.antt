use Rattle.std.proofs.Common.{◌-◌, ◌++◌, ◌∷◌, []}
use Rattle.rbac_holdback.proofs.MoveLemmas.{lists-set}
use Rattle.rbac_holdback.proofs.RoomLemmas.{room_made, rooms_put}
use Rattle.rbac_holdback.proofs.holdback.put_ready.Goals as goal

pub returns-clause-put : goal.returns-clause-put
returns-clause-put c =
    let held = c.args.held in
    let queues = c.args.queues.now.items in
    lists-set queues (held.stamp.member - 1) c.index_mut.result.now c.push_back.new.self (λ l. l ++ held ∷ []) c.index_mut.ensures.value (room_made queues held.stamp.member c.requires.room) c.in-Ok.ensures.items

pub returns-clause-room : goal.returns-clause-room
returns-clause-room c =
    let held = c.args.held in
    let queues = c.args.queues.now.items in
    rooms_put queues (held.stamp.member - 1) c.index_mut.result.now c.push_back.new.self c.index_mut.ensures.value (room_made queues held.stamp.member c.requires.room) c.requires.room c.in-Ok.ensures.len c.push_back.ensures.in_place
