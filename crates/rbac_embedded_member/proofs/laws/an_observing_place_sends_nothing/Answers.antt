use Rattle.rbac_embedded_member.proofs.ObserverLemmas.{sends_nothing, observed_in_row}
use Rattle.rbac_embedded_member.proofs.laws.an_observing_place_sends_nothing.Goals as goal

pub returns : goal.returns
returns c = record {
  same = sends_nothing;
  in_row = λ w number v calls is. (observed_in_row w number v calls is).own;
}
