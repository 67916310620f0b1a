use Rattle.std.proofs.Common.{◌++◌}
use Rattle.rbac_words.specs.Right.{founding_world}
use Rattle.rbac_moves.specs.Rows.{rows_after}
use Rattle.rbac_moves.proofs.RowSetLemmas.{told_right, told_one}
use Rattle.rbac_embedded_member.proofs.CallLemmas.{row_moves, run_in_row, are_set}
use Rattle.rbac_embedded_member.proofs.ObserverLemmas.{watched_moves, observed_in_row}
use Rattle.rbac_embedded_member.proofs.laws.what_an_observer_shows_is_right.Goals as goal

pub returns : goal.returns
returns c = record {
  right = λ group vocabulary sets later i u calls is set made.
      let before = rows_after (founding_world group vocabulary) sets in
      told_right group vocabulary sets later i u (watched_moves before i u calls made) is (are_set (founding_world group vocabulary) (sets ++ later) set) (observed_in_row before i u calls made);
  before_member = λ group vocabulary sets later i j u v calls others is set made other.
      let before = rows_after (founding_world group vocabulary) sets in
      let now = rows_after (founding_world group vocabulary) (sets ++ later) in
      told_one group vocabulary sets later i j u v (watched_moves before i u calls made) (row_moves now j v others other) is
      (are_set (founding_world group vocabulary) (sets ++ later) set) (observed_in_row before i u calls made) (run_in_row now j v others other);
  after_member = λ group vocabulary sets later i j u v calls others is set made other.
      let before = rows_after (founding_world group vocabulary) sets in
      let now = rows_after (founding_world group vocabulary) (sets ++ later) in
      told_one group vocabulary sets later i j u v (row_moves before i u calls made) (watched_moves now j v others other) is
      (are_set (founding_world group vocabulary) (sets ++ later) set) (run_in_row before i u calls made) (observed_in_row now j v others other);
  of_observers = λ group vocabulary sets later i j u v calls others is set made other.
      let before = rows_after (founding_world group vocabulary) sets in
      let now = rows_after (founding_world group vocabulary) (sets ++ later) in
      told_one group vocabulary sets later i j u v (watched_moves before i u calls made) (watched_moves now j v others other) is
      (are_set (founding_world group vocabulary) (sets ++ later) set) (observed_in_row before i u calls made) (observed_in_row now j v others other);
}
