use Rattle.std.proofs.Common.{ℕ, ◌≡◌, ◌≤◌, ◌<◌, ◌-◌, max, length, sym, subst, arith}
use Rattle.rbac_holdback.specs.Queues.{IsWidened, lists_of, room_of, rooms_of}
use Rattle.rbac_holdback.proofs.MoveLemmas.{lists-set_same}
use Rattle.rbac_holdback.proofs.RoomLemmas.{on_ok, rooms_grown, room_of_new}
use Rattle.rbac_holdback.proofs.holdback.make_room.Goals as goal

-- the queue of the member is made
there : (old new made member : ℕ) → new ≡ made → new ≡ max old member → 1 ≤ member → member - 1 < made
there old new made member e f low = omega arith

pub returns-clause-made : goal.returns-clause-made
returns-clause-made c =
    let new = c.make_queues.new.queues in
    let made = there c.args.queues.now.len new.len (length new.items) c.args.member new.ok.0 c.in_ok-make_queues.ensures.long_enough c.requires in
    subst (IsWidened (lists_of c.args.queues.now.items)) (sym (lists-set_same new.items (c.args.member - 1) c.index_mut.result.now c.reserve.new.self c.index_mut.ensures.value made c.reserve.ensures.items)) c.make_queues.ensures.made

pub returns-clause-rooms : goal.returns-clause-rooms
returns-clause-rooms c = λ k.
    let new = c.make_queues.new.queues in
    let made = there c.args.queues.now.len new.len (length new.items) c.args.member new.ok.0 c.in_ok-make_queues.ensures.long_enough c.requires in
    let more : room_of c.index_mut.result.now ≤ room_of c.reserve.new.self = omega (arith, c.reserve.ensures.len, c.reserve.ensures.capacity) in
    let first = c.make_queues.ensures.rooms k in
    let then_on = rooms_grown new.items (c.args.member - 1) c.index_mut.result.now c.reserve.new.self c.index_mut.ensures.value made more k in
    omega arith

pub returns-clause-room : goal.returns-clause-room
returns-clause-room c =
    let new = c.make_queues.new.queues in
    let made = there c.args.queues.now.len new.len (length new.items) c.args.member new.ok.0 c.in_ok-make_queues.ensures.long_enough c.requires in
    let e = room_of_new new.items (c.args.member - 1) c.index_mut.result.now c.reserve.new.self c.index_mut.ensures.value made in
    on_ok c.reserve.result (λ enough. omega arith) c.reserve.ensures.ok
