use Rattle.std.proofs.Common.{◌≡◌, ◌≤◌, length}
use Rattle.std.specs.Vec.Iter.{into_iter_items}
use Rattle.rbac_words.specs.Message.{submitted_at}
use Rattle.rbac_words.specs.Stamp.{IsRising, insert_all}
use Rattle.rbac_holdback.specs.Holdback.{AreAboveOwn}
use Rattle.rbac_holdback.specs.Queues.{room_of}
use Rattle.rbac_holdback.proofs.list_held.insert_each.Given as goal

-- the commands that are left find room, and put where their stamps belong they make the list whole
abbrev pub invariant-loop-item : goal.invariant-loop-item
invariant-loop-item l =
    let to_do = into_iter_items l.item-iterator in
    record {
      rising : IsRising submitted_at l.list.items;
      above : AreAboveOwn to_do l.list.items;
      room : length to_do ≤ room_of l.list;
      put : insert_all submitted_at to_do l.list.items ≡ insert_all submitted_at l.fn.held.items l.fn.list.items;
    }
