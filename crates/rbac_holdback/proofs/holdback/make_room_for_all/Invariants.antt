use Rattle.std.proofs.Common.{ℕ, ◌≤◌, length, take, vec_len}
use Rattle.std.specs.List.{AllByRecursion as Each}
use Rattle.rbac_words.specs.declared.message.Submission.{Submission}
use Rattle.rbac_holdback.specs.Queues.{IsWidened, HaveRoom, lists_of, rooms_of}
use Rattle.rbac_holdback.proofs.holdback.make_room_for_all.Given as goal

-- the commands so far have room for all
abbrev pub invariant-loop-item : goal.invariant-loop-item
invariant-loop-item l = record {
  made : IsWidened (lists_of l.fn.queues.items) (lists_of l.queues.items);
  no_more : (members : ℕ) → Each (λ (x : Submission). x.stamp.member ≤ members) l.held → vec_len l.fn.queues ≤ members → vec_len l.queues ≤ members;
  room : HaveRoom (length l.held) (rooms_of l.queues.items) (take l.item-index l.held);
}
