use Rattle.rbac_order.proofs.OwnLemmas.{submit_takes, submit_is_taken}
use Rattle.rbac_moves.proofs.AnswerLemmas.{may_answer, receives_then, answered, is_receipt}
use Rattle.rbac_moves.proofs.rows.a_member_acts_by_its_row.Goals as goal

pub returns : goal.returns
returns c = record {
  submits = submit_takes;
  may_submit = submit_is_taken;
  may_answer = may_answer;
  receives_then = receives_then;
  silently = answered;
  is_receipt = is_receipt;
}
