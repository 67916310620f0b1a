use Rattle.rbac_order.proofs.MemberLemmas.{keeps_founded, keeps_submit, keeps_received, keeps_deliver}
use Rattle.rbac_order.proofs.members.each_move_keeps_a_member.Goals as goal

pub returns : goal.returns
returns c = record {
  founded = λ group number vocabulary is n. keeps_founded group number vocabulary is n.low n.high;
  submitted = λ v caller serial command k e. keeps_submit v caller serial command e k;
  received = λ v k m kept next. keeps_received v k m kept next;
  delivered = keeps_deliver;
}
