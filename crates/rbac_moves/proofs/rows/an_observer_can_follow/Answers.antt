use Rattle.rbac_order.proofs.OwnLemmas.{never_refused}
use Rattle.rbac_moves.proofs.FollowLemmas.{no_answer, next_never_refused}
use Rattle.rbac_moves.proofs.rows.an_observer_can_follow.Goals as goal

pub returns : goal.returns
returns c = record {
  needs_no_answer = no_answer;
  own_never_refused = never_refused;
  never_refused = λ v k m taken more kept n d t l quiet low below. next_never_refused v k m taken more kept n d t l quiet low below;
}
