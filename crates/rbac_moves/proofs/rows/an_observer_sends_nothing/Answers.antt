use Rattle.rbac_moves.proofs.SealMoveLemmas.{sent_unanswered}
use Rattle.rbac_moves.proofs.RowMoveLemmas.{unanswered_one, below_own, sent_watching, row_watching, watched_in_row}
use Rattle.rbac_moves.proofs.rows.an_observer_sends_nothing.Goals as goal

pub returns : goal.returns
returns c = record {
  acknowledges_nothing = unanswered_one;
  received = sent_unanswered;
  covered = below_own;
  sent = sent_watching;
  in_row = row_watching;
  watched = watched_in_row;
}
