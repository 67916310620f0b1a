use Rattle.rbac_member_lines.proofs.CarriedBack.{sent_short, sent_reads}
use Rattle.rbac_member_lines.proofs.laws.each_sent_message_can_be_received.Goals as goal

pub returns : goal.returns
returns c = record {
  short = λ group vocabulary number place input message is n at. sent_short group vocabulary number place input message is n at;
  reads = λ group vocabulary number place input message is n at. sent_reads group vocabulary number place input message is n at;
}
