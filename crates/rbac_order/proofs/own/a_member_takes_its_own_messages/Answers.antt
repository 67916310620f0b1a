use Rattle.rbac_order.proofs.OwnLemmas.{own_next_is, own_number_is, known_before, keeps_taken, taken_reads, lawful_taken, never_refused, submit_takes, submit_is_taken}
use Rattle.rbac_order.proofs.own.a_member_takes_its_own_messages.Goals as goal

pub returns : goal.returns
returns c = record {
  kept = λ v n m k free. keeps_taken v m k (own_next_is v n m free);
  read = λ v n j m messages k free d r. taken_reads v m k (own_next_is v n m free) j messages d r;
  above_all = λ v n m k free. known_before v m k (own_next_is v n m free);
  in_turn = own_number_is;
  lawful = λ v n m k free. lawful_taken v m k (own_next_is v n m free);
  never_refused = never_refused;
  as_submitted = submit_takes;
  may_submit = submit_is_taken;
}
