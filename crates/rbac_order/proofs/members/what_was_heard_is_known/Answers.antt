use Rattle.std.proofs.Common.{sym}
use Rattle.rbac_order.proofs.GroupLemmas.{known_heard, stable_passed, due_is_due}
use Rattle.rbac_order.proofs.members.what_was_heard_is_known.Goals as goal

pub returns : goal.returns
returns c = record {
  heard = λ group vocabulary members i are h. sym (known_heard group vocabulary members are i h);
  stable = λ group vocabulary members i x are h. stable_passed group vocabulary members are i h x;
  due = λ group vocabulary members i are h. due_is_due group vocabulary members are i h;
}
