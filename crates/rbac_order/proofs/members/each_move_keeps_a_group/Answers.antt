use Rattle.rbac_order.proofs.StepLemmas.{members_submitted, members_receive, members_delivered}
use Rattle.rbac_order.proofs.members.each_move_keeps_a_group.Goals as goal

pub returns : goal.returns
returns c = record {
  submitted = λ group vocabulary members i caller serial command are. members_submitted group vocabulary members are i caller serial command;
  received = λ group vocabulary members i j n are. members_receive group vocabulary members are i j n;
  delivered = λ group vocabulary members i are. members_delivered group vocabulary members are i;
}
