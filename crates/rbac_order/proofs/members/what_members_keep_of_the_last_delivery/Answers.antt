use Rattle.rbac_order.proofs.MemberLemmas.{passed_last, held_above}
use Rattle.rbac_order.proofs.members.what_members_keep_of_the_last_delivery.Goals as goal

pub returns : goal.returns
returns c = record { passed = passed_last; held = held_above }
