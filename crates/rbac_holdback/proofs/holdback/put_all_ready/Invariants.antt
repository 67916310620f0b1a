use Rattle.std.proofs.Common.{◌≡◌, length}
use Rattle.std.specs.Vec.Iter.{into_iter_items}
use Rattle.rbac_holdback.specs.Queues.{HaveRoom, lists_of, rooms_of, longer_by}
use Rattle.rbac_holdback.proofs.RoomLemmas.{AreNumbered}
use Rattle.rbac_holdback.proofs.holdback.put_all_ready.Given as goal

-- the queue of each command that is left has room for all that are left, and put in turn they make the queues whole
abbrev pub invariant-loop-item : goal.invariant-loop-item
invariant-loop-item l =
    let to_do = into_iter_items l.item-iterator in
    record {
      numbered : AreNumbered to_do;
      room : HaveRoom (length to_do) (rooms_of l.queues.items) to_do;
      put : longer_by to_do (lists_of l.queues.items) ≡ longer_by l.fn.held.items (lists_of l.fn.queues.items);
    }
